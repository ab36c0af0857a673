-- What is told of the terms that begin at a node of a table. Assumes nothing.
use Rattle.std.specs.Prelude.{◌≡◌, ℕ, List, ◌++◌, length, drop}
use Rattle.model.specs.declared.node.Node.{Node}
use Rattle.model.specs.declared.depth.Extent.{Extent}
use Rattle.model.specs.Syntax.{Sort, Expr, Exprs, depth, depths}
use Rattle.model.specs.Nodes.{flatten, flattens}

-- where the expression at a place ends, and how deep it is
abbrev pub TermExtent : List Node → ℕ → Extent → Type 0
TermExtent nodes place r = (s : Sort) (e : Expr s) (rest : List Node) → drop place nodes ≡ flatten e ++ rest → (drop r.end nodes ≡ rest) × (r.depth ≡ depth e)

-- the same of so many expressions in a row
abbrev pub PartsExtent : List Node → ℕ → ℕ → Extent → Type 0
PartsExtent nodes place n r = (ss : List Sort) (es : Exprs ss) (rest : List Node) → length ss ≡ n → drop place nodes ≡ flattens es ++ rest → (drop r.end nodes ≡ rest) × (r.depth ≡ depths es)
