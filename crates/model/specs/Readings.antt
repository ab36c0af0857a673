-- What the outcome of a text says: which program it is, or the first place where no program goes on. Assumes nothing.
use Rattle.std.specs.Prelude.{◌≡◌, ℕ, ◌+◌, ◌-◌, ◌≤◌, true, cond, List, [], ◌∷◌, ◌++◌, map, length, ◌≢◌}
use Rattle.std.proofs.Math.Option.{Option, some}
use Rattle.std.proofs.Math.Option as O
use Rattle.model.specs.Limits.{most_nodes, most_levels}
use Rattle.model.specs.declared.refusal.Span.{Span}
use Rattle.model.specs.declared.refusal.Refusal.TheVariants.{NoToken, NoSolid, TooLarge}
use Rattle.model.specs.Syntax.{Sort, Expr, Exprs, node, none, more, Solid, textual, size, depth}
use Rattle.model.specs.Tokens.{Token, opening, tokens}
use Rattle.model.specs.Feed.{Feed, token, bad, end, said, Clean}
use Rattle.model.specs.Grammar.{whole, refused, room, judged}

-- no two programs have the same tokens
abbrev pub OneReading : Type 0
OneReading = (e f : Solid) → tokens e ≡ tokens f → e ≡ f

-- a text that is read whole has the tokens of a program, and nothing else
abbrev pub WholeReading : Type 0
WholeReading = (f : Feed) (n : ℕ) → judged f ≡ whole n → (e : Solid) × (textual e ≡ true) × (said f ≡ tokens e) × Clean f

-- tokens in front of a feed
abbrev pub before : List (Token × Span) → Feed → Feed
before [] f = f
before (p ∷ ps) f = token p.0 p.1 (before ps f)

-- those tokens alone
abbrev pub alone : List (Token × Span) → List Token
alone ts = map (λ p. p.0) ts

-- some program of a text begins with these tokens
abbrev pub GoesOn : List Token → Type 0
GoesOn ts = (e : Solid) × (textual e ≡ true) × (r : List Token) × (tokens e ≡ ts ++ r)

-- no program goes on from the tokens ts with what follows them at s
pub data Halt (ts : List Token) (s : Span) : Feed → Type 0 where
  -- a token follows, with which no program begins after ts
  at_token : (t : Token) (f : Feed) → (GoesOn (ts ++ (t ∷ [])) → ⊥) → Halt ts s (token t s f)
  -- the text ends at b, and ts are no program's tokens
  at_end : (b : ℕ) → s ≡ record { at = b; len = 0 } → ((e : Solid) → textual e ≡ true → tokens e ≢ ts) → Halt ts s (end b)

-- for each node in reading order: the place of its first token, from i on, and the levels left, from d on
unfoldable mutual
  pub firsts : {s : Sort} → Expr s → ℕ → ℕ → List (ℕ × ℕ)
  firsts (node h es) i d = (i, d) ∷ firsts_in es (i + length (opening h)) (d - 1)

  pub firsts_in : {ss : List Sort} → Exprs ss → ℕ → ℕ → List (ℕ × ℕ)
  firsts_in none i d = []
  firsts_in (more e es) i d = firsts e i d ++ firsts_in es (i + length (tokens e)) d

-- the place of the first node that does not fit, with n nodes before
abbrev pub first_over : ℕ → List (ℕ × ℕ) → Option ℕ
first_over n [] = O.none
first_over n (p ∷ ps) = cond (room p.1 n) (first_over (n + 1) ps) (some p.0)

-- no node that begins among these tokens passes a limit, whatever program goes on from them
abbrev pub RoomFor : List Token → Type 0
RoomFor ts = (e : Solid) (r : List Token) → textual e ≡ true → tokens e ≡ ts ++ r → (j : ℕ) → first_over 0 (firsts e 0 most_levels) ≡ some j → length ts ≤ j

-- a run or byte that is no token comes first: up to it some program goes on, and no limit is passed
pub record BadToken (f : Feed) (s : Span) : Type 0 where
  pub passed : List (Token × Span)
  pub stands : f ≡ before passed (bad s)
  pub goes_on : GoesOn (alone passed)
  pub room : RoomFor (alone passed)

-- a token, or the end, comes first with which no program goes on: up to it some program does, and no limit is passed
pub record NoProgram (f : Feed) (s : Span) : Type 0 where
  pub passed : List (Token × Span)
  pub rest : Feed
  pub stands : f ≡ before passed rest
  pub goes_on : GoesOn (alone passed)
  pub room : RoomFor (alone passed)
  pub halts : Halt (alone passed) s rest

-- a node begins that is the 641st or at depth 257, the first such in every program that goes on from there
pub record PastLimit (f : Feed) (s : Span) : Type 0 where
  pub passed : List (Token × Span)
  pub first : Token
  pub rest : Feed
  pub stands : f ≡ before passed (token first s rest)
  pub goes_on : GoesOn (alone passed ++ (first ∷ []))
  pub over : (e : Solid) (r : List Token) → textual e ≡ true → tokens e ≡ (alone passed ++ (first ∷ [])) ++ r → first_over 0 (firsts e 0 most_levels) ≡ some (length passed)

-- each refusal stands where it should
abbrev pub FirstBad : Type 0
FirstBad = (f : Feed) (s : Span) → judged f ≡ refused (NoToken s) → BadToken f s

abbrev pub FirstStop : Type 0
FirstStop = (f : Feed) (s : Span) → judged f ≡ refused (NoSolid s) → NoProgram f s

abbrev pub FirstOver : Type 0
FirstOver = (f : Feed) (s : Span) → judged f ≡ refused (TooLarge s) → PastLimit f s

-- the text of each program within the limits is read
abbrev pub ReadsBack : Type 0
ReadsBack = (e : Solid) (f : Feed) → textual e ≡ true → size e ≤ most_nodes → depth e ≤ most_levels → said f ≡ tokens e → Clean f → judged f ≡ whole (size e)

-- a program that is read is within the limits, and its nodes are counted
abbrev pub Within : Type 0
Within = (f : Feed) (n : ℕ) (e : Solid) → judged f ≡ whole n → said f ≡ tokens e → (n ≡ size e) × (size e ≤ most_nodes) × (depth e ≤ most_levels)
