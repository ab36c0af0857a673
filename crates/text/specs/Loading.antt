-- What reading a text answers, and what the table then holds. Assumes nothing.
use Rattle.std.specs.Prelude.{◌≡◌, ℕ, List, Ok, Err, Result}
use Rattle.model.specs.declared.refusal.Refusal.{Refusal}
use Rattle.model.specs.declared.table.Table.{Table}
use Rattle.model.specs.Syntax.{Solid}
use Rattle.model.specs.Tables.{held}
use Rattle.model.specs.Feed.{said}
use Rattle.model.specs.Spelling.{SevenDigits}
use Rattle.model.specs.Texts.{Accepts, Refuses, feed_of, BothWays}

abbrev pub Reading : List ℕ → Table → Result (Unit {0}) Refusal → Table → Type 0
-- the text says the program that is now held, whose numbers have at most seven digits; another text says it exactly when its tokens are the same
Reading text old (Ok u) new = Accepts text (held new) × SevenDigits (held new) × ((other : List ℕ) (e : Solid) → Accepts other e → BothWays (e ≡ held new) (said (feed_of other) ≡ said (feed_of text)))
-- the text says no program, and the table is as it was
Reading text old (Err f) new = Refuses text f × ((e : Solid) → Accepts text e → ⊥) × (new.nodes ≡ old.nodes)
