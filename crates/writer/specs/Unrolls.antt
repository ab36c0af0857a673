-- What putting the text of an unrolling leaves in the buffer. Assumes nothing.
use Rattle.std.specs.Prelude.{◌≡◌, ℕ, List, [], ◌∷◌, ◌++◌, take, IfOk, Result}
use Rattle.model.specs.declared.node.Node.{Node}
use Rattle.model.specs.declared.node.Node.TheVariants as v
use Rattle.model.specs.declared.node.Operator.{Operator}
use Rattle.model.specs.declared.node.Placement.{Placement}
use Rattle.model.specs.declared.node.Triple.{Triple}
use Rattle.model.specs.Syntax.{solid, many, Expr, Solid}
use Rattle.model.specs.Placements.{still}
use Rattle.model.specs.Shapes.{union_of, run}
use Rattle.model.specs.Spelling.{text_of, opening_text}
use Rattle.model.specs.Tokens.{tokens}
use Rattle.model.specs.Feed.{said, Clean}
use Rattle.model.specs.Texts.{feed_of}
use Rattle.model.specs.Unrolling.{programs, unroll}
use Rattle.writer.specs.declared.sink.Sink.{Sink}
use Rattle.writer.specs.declared.writer.Unwritten.{Unwritten}
use Rattle.program.specs.declared.element.Term.{Term}
use Rattle.writer.specs.Putting.{Puts}
use Rattle.program.specs.Elements.{Begins, Comes, Holds}

-- what is written before a solid that is placed
abbrev pub placing : Placement → Triple → List ℕ
placing p q = opening_text (v.Place p (still q)) ++ (32 ∷ [])

-- and before the first of two solids
abbrev pub joining : Operator → List ℕ
joining o = opening_text (v.Join o) ++ (32 ∷ [])

-- what the term comes to was put
abbrev pub SolidPut : List Node → Term → Sink → Sink → Type 0
SolidPut nodes term s t = (x : Solid) → Comes programs nodes term solid x → Puts (text_of x) s t

-- what the element j of a list comes to was put
abbrev pub ItemPut : List Node → Term → ℕ → Sink → Sink → Type 0
ItemPut nodes list j s t = (x : Solid) → Holds programs nodes list j solid x → Puts (text_of x) s t

-- the union of a list's elements was put
abbrev pub UnionPut : List Node → Term → Sink → Sink → Type 0
UnionPut nodes list s t = (l : Expr (many solid)) → Begins nodes list.place l → Puts (text_of (union_of programs (run programs l list.index))) s t

-- what was written reads as the tokens of the unrolling, and as no others
abbrev pub SaysUnrolling : Solid → Result ℕ Unwritten → List ℕ → Type 0
SaysUnrolling e r new = IfOk r (λ n. Clean (feed_of (take n new)) × (said (feed_of (take n new)) ≡ tokens (unroll e)))
