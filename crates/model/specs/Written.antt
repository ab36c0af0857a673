-- What is written is read back, and what is read can be written. Assumes nothing.
use Rattle.std.specs.Prelude.{◌≡◌, ℕ, ◌≤◌, true, List}
use Rattle.std.specs.List.{AllByRecursion}
use Rattle.model.specs.Limits.{most_nodes, most_levels}
use Rattle.model.specs.Syntax.{Solid, textual, size, depth}
use Rattle.model.specs.Tokens.{Token}
use Rattle.model.specs.Feed.{said, Clean}
use Rattle.model.specs.Lexing.{SmallToken}
use Rattle.model.specs.Spelling.{spells, text_of, SevenDigits}
use Rattle.model.specs.Texts.{feed_of, Accepts}

-- tokens whose numbers have at most seven digits read back from their bytes
abbrev pub LexesBack : Type 0
LexesBack = (ts : List Token) → AllByRecursion SmallToken ts → Clean (feed_of (spells true ts)) × (said (feed_of (spells true ts)) ≡ ts)

-- the text of a program within the limits says that program
abbrev pub WrittenReads : Type 0
WrittenReads = (e : Solid) → textual e ≡ true → size e ≤ most_nodes → depth e ≤ most_levels → SevenDigits e → Accepts (text_of e) e

-- each number of a program that a text says has at most seven digits
abbrev pub ReadSmall : Type 0
ReadSmall = (text : List ℕ) (e : Solid) → Accepts text e → SevenDigits e
