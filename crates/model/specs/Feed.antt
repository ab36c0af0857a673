-- The tokens of a text, each with the part of the text where it stands. Assumes nothing.
use Rattle.std.specs.Prelude.{ℕ, List, [], ◌∷◌}
use Rattle.model.specs.declared.refusal.Span.{Span}
use Rattle.model.specs.Tokens.{Token}

-- tokens up to the text's end, or up to its first run or byte that is no token
pub data Feed : Type 0 where
  token : Token → Span → Feed → Feed
  bad : Span → Feed
  end : ℕ → Feed

-- the tokens alone
abbrev pub said : Feed → List Token
said (token t s f) = t ∷ said f
said (bad s) = []
said (end b) = []

-- no bad run follows
abbrev pub Clean : Feed → Type 0
Clean (token t s f) = Clean f
Clean (bad s) = ⊥
Clean (end b) = Unit {0}
