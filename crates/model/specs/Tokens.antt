-- The tokens of a program. Assumes nothing.
use Rattle.std.specs.Prelude.{List, [], ◌∷◌, ◌++◌, ℤ, pos}
use Rattle.model.specs.declared.node.Placement.{Placement}
use Rattle.model.specs.declared.node.Placement.TheVariants as p
use Rattle.model.specs.declared.node.Operator.{Operator}
use Rattle.model.specs.declared.node.Operator.TheVariants as o
use Rattle.model.specs.declared.node.Linear.{Linear}
use Rattle.model.specs.declared.word.Word.{Word}
use Rattle.model.specs.declared.word.Word.TheVariants as w
use Rattle.model.specs.declared.word.Mark.{Mark}
use Rattle.model.specs.declared.word.Mark.TheVariants.{Open, Close, Left, Right, Comma}
use Rattle.model.specs.Syntax.{Sort, Head, arity, Expr, Exprs, node, none, more}
use Rattle.model.specs.Syntax as S

-- a word, a mark, or a number: its constant and its slope
pub data Token : Type 0 where
  word : Word → Token
  number : ℤ → ℤ → Token
  mark : Mark → Token

-- a number without slope
abbrev pub plain : ℤ → Token
plain n = number n (pos 0)

-- [a,b,c]
abbrev pub bracket : Linear → List Token
bracket a =
    mark Left ∷ number a.constant.x a.slope.x
    ∷ mark Comma ∷ number a.constant.y a.slope.y
    ∷ mark Comma ∷ number a.constant.z a.slope.z
    ∷ mark Right ∷ []

abbrev pub placement_word : Placement → Word
placement_word p.Translate = w.Translate
placement_word p.Scale = w.Scale
placement_word p.Rotate = w.Rotate

abbrev pub operator_word : Operator → Word
operator_word o.Union = w.Union
operator_word o.Diff = w.Diff
operator_word o.Inter = w.Inter

-- a bracket, a word, and what else stands before the parts
abbrev pub opened : Word → List Token → List Token
opened x ts = mark Open ∷ word x ∷ ts

-- what stands before a node's parts
abbrev pub opening : {s : Sort} → Head s → List Token
opening S.empty = word w.Empty ∷ []
opening (S.prim k a) = opened w.Prim (plain k ∷ bracket a)
opening (S.place t a) = opened (placement_word t) (bracket a)
opening (S.join o) = opened (operator_word o) []
opening S.fold = opened w.Fold (word w.Union ∷ [])
opening (S.vec a) = bracket a
opening (S.list n) = opened w.List []
opening (S.repeat n) = opened w.Repeat (plain n ∷ [])
opening (S.tab n) = opened w.Tabulate (mark Open ∷ word w.Index ∷ plain n ∷ mark Close ∷ [])
opening S.concat = opened w.Concat []
opening (S.sort n) = opened w.Sort []
opening (S.unsort n) = opened w.Unsort []
opening (S.map2 t) = opened w.Map2 (word (placement_word t) ∷ [])
opening (S.number j) = plain (pos j) ∷ []

-- what stands after them
abbrev pub closing : {s : Sort} → Head s → List Token
closing S.empty = []
closing (S.prim k a) = mark Close ∷ []
closing (S.place t a) = mark Close ∷ []
closing (S.join o) = mark Close ∷ []
closing S.fold = mark Close ∷ []
closing (S.vec a) = []
closing (S.list n) = mark Close ∷ []
closing (S.repeat n) = mark Close ∷ []
closing (S.tab n) = mark Close ∷ []
closing S.concat = mark Close ∷ []
closing (S.sort n) = mark Close ∷ []
closing (S.unsort n) = mark Close ∷ []
closing (S.map2 t) = mark Close ∷ []
closing (S.number j) = []

unfoldable mutual
  pub tokens : {s : Sort} → Expr s → List Token
  tokens (node h es) = opening h ++ (row es ++ closing h)

  pub row : {ss : List Sort} → Exprs ss → List Token
  row none = []
  row (more e es) = tokens e ++ row es
