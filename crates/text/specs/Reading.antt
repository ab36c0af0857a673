-- What a part of the reading has read, and what it leaves to be judged. Assumes nothing.
use Rattle.std.specs.Prelude.{◌≡◌, ℕ, ◌<◌, Bool, true, false, List, ◌∷◌, ◌++◌, IfOk, Ok, Err, Result, OnOk}
use Rattle.model.specs.declared.word.Mark.TheVariants.{Open, Close, Left, Right, Comma}
use Rattle.model.specs.declared.node.Node.{Node}
use Rattle.model.specs.declared.refusal.Refusal.{Refusal}
use Rattle.model.specs.Syntax.{Sort, Exprs}
use Rattle.model.specs.Nodes.{flattens}
use Rattle.model.specs.Tokens.{Token, word, number, mark, row}
use Rattle.model.specs.Grammar.{Goal, move, moved, run, Outcome, refused}
use Rattle.model.specs.Feed.{said}
use Rattle.text.specs.declared.token.Token as code
use Rattle.text.specs.declared.token.Lexer.{Lexer}
use Rattle.text.specs.Lexer.{ahead, token_of}

-- a part of the reading was done, or stopped at its refusal
abbrev pub after : {X : Type 0} → Result X Refusal → Outcome → Outcome
after (Ok u) v = v
after (Err f) v = refused f

-- the same text is read on, and bytes of it were read
abbrev pub Ahead : {X : Type 0} → Lexer → Result X Refusal → Lexer → Type 0
Ahead a r b = (b.text.now ≡ a.text.now) × OnOk r (a.at < b.at)

-- these tokens were taken
abbrev pub Took : {X : Type 0} → (X → List Token) → Lexer → Result X Refusal → Lexer → Type 0
Took says a r b = IfOk r (λ v. said (ahead a) ≡ says v ++ said (ahead b))

-- what these goals stand for was taken, or the text stops there
abbrev pub Goes : {X : Type 0} → (List Goal → List Goal) → Lexer → Result X Refusal → Lexer → Type 0
Goes goals a r b = (gs : List Goal) (n : ℕ) → run (ahead a) (goals gs) n ≡ after r (run (ahead b) gs n)

-- the outcome where the token t is read to the first goal
abbrev pub judge : code.Token → Lexer → Goal → List Goal → ℕ → Outcome
judge t l g gs n = moved (move g gs (token_of t)) (run (ahead l)) n t.span

-- the closing bracket of a list
abbrev pub closes : Token → Bool
closes (word x) = false
closes (number a c) = false
closes (mark Open) = false
closes (mark Close) = true
closes (mark Left) = false
closes (mark Right) = false
closes (mark Comma) = false

-- what a single token does: it is taken, or the text stops
abbrev pub Takes : Lexer → Result code.Token Refusal → Lexer → Type 0
Takes a (Ok t) b = (said (ahead a) ≡ token_of t ∷ said (ahead b)) × ((g : Goal) (gs : List Goal) (n : ℕ) → run (ahead a) (g ∷ gs) n ≡ judge t b g gs n)
Takes a (Err f) b = (g : Goal) (gs : List Goal) (n : ℕ) → run (ahead a) (g ∷ gs) n ≡ refused f

-- from ts to ts' the tokens of expressions of these sorts were read, and their nodes were added
pub record Read (ss : List Sort) (ts ts' : List Token) (old new : List Node) : Type 0 where
  pub which : Exprs ss
  pub text : ts ≡ row which ++ ts'
  pub made : new ≡ old ++ flattens which
