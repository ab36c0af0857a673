-- What a text is: the program that it says, or why it is refused. Assumes nothing.
use Rattle.std.specs.Prelude.{◌≡◌, ℕ, ◌<◌, ◌≤◌, true, cond, ◌⊎◌, List, length, nat_lt}
use Rattle.model.specs.Limits.{most_bytes, most_nodes, most_levels}
use Rattle.model.specs.declared.refusal.Span.{Span}
use Rattle.model.specs.declared.refusal.Refusal.{Refusal}
use Rattle.model.specs.declared.refusal.Refusal.TheVariants.{NoToken, NoSolid, TooLarge}
use Rattle.model.specs.Syntax.{Solid, textual, size, depth}
use Rattle.model.specs.Tokens.{tokens}
use Rattle.model.specs.Feed.{Feed, said, Clean}
use Rattle.model.specs.Lexing.{feed}
use Rattle.model.specs.Grammar.{Outcome, refused, judged}
use Rattle.model.specs.Readings.{BadToken, NoProgram, PastLimit}

-- the first byte past the longest text
abbrev pub past_end : Span
past_end = record { at = most_bytes; len = 0 }

-- the tokens of a text, each with its place
abbrev pub feed_of : List ℕ → Feed
feed_of text = feed text 0

-- the text says the program e, within all limits
pub record Accepts (text : List ℕ) (e : Solid) : Type 0 where
  pub short : length text ≤ most_bytes
  pub clean : Clean (feed_of text)
  pub says : said (feed_of text) ≡ tokens e
  pub orderless : textual e ≡ true
  pub small : size e ≤ most_nodes
  pub shallow : depth e ≤ most_levels

-- why a text is refused: its length comes before its tokens
abbrev pub Refuses : List ℕ → Refusal → Type 0
Refuses text (NoToken s) = (length text ≤ most_bytes) × BadToken (feed_of text) s
Refuses text (NoSolid s) = (length text ≤ most_bytes) × NoProgram (feed_of text) s
Refuses text (TooLarge s) = ((most_bytes < length text) × (s ≡ past_end)) ⊎ ((length text ≤ most_bytes) × PastLimit (feed_of text) s)

-- the one outcome of a text: its length is judged before its tokens
unfoldable pub outcome : List ℕ → Outcome
outcome text = cond (nat_lt most_bytes (length text)) (refused (TooLarge past_end)) (judged (feed_of text))

-- each follows from the other
abbrev pub BothWays : Type 0 → Type 0 → Type 0
BothWays A B = (A → B) × (B → A)
