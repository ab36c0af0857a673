-- How many elements a list has, and how many nodes an unrolling has, counted without it. Assumes nothing.
use Rattle.std.specs.Prelude.{ℕ, suc, ◌+◌, ◌-◌, ◌*◌, min, cond, List, [], ◌∷◌, ◌==◌, slice_index}
use Rattle.model.specs.declared.node.Node.{Node}
use Rattle.model.specs.declared.node.Node.TheVariants as v
use Rattle.model.specs.Syntax.{Sort, Expr, Exprs, node, none, more}
use Rattle.model.specs.Nodes.{node_of}
use Rattle.model.specs.Shapes.{natural}

-- how many elements a list has, by its node and those of its parts; what is no list has none
abbrev pub elements : Node → List ℕ → ℕ
elements v.Empty cs = 0
elements (v.Primitive k a) cs = 0
elements (v.Place t a) cs = 0
elements (v.Join o) cs = 0
elements v.Fold cs = 0
elements (v.Vector a) cs = 0
elements (v.List n) cs = n
elements (v.Repeat n) cs = natural n
elements (v.Tabulate n) cs = natural n
elements v.Concat cs = slice_index cs 0 + slice_index cs 1
elements (v.Sort n) cs = n
elements (v.Unsort n) cs = n
elements (v.Map2 t) cs = min (slice_index cs 0) (slice_index cs 1)
elements (v.Number j) cs = 0

unfoldable mutual
  pub count : {s : Sort} → Expr s → ℕ
  count (node h es) = elements (node_of h) (counts es)

  pub counts : {ss : List Sort} → Exprs ss → List ℕ
  counts none = []
  counts (more e es) = count e ∷ counts es

-- a Union for each element but the last; Empty for no element
abbrev pub folded : ℕ → ℕ → ℕ
folded n w = cond (n == 0) 1 (w + (n - 1))

-- how many nodes a solid unrolls to, and all elements of a list together, by the counts and the sum w of its parts
abbrev pub unrolled : Node → List ℕ → ℕ → ℕ
unrolled v.Empty cs w = 1
unrolled (v.Primitive k a) cs w = 1
unrolled (v.Place t a) cs w = suc w
unrolled (v.Join o) cs w = suc w
unrolled v.Fold cs w = folded (slice_index cs 0) w
unrolled (v.Vector a) cs w = 0
unrolled (v.List n) cs w = w
unrolled (v.Repeat n) cs w = natural n * w
unrolled (v.Tabulate n) cs w = natural n * w
unrolled v.Concat cs w = w
unrolled (v.Sort n) cs w = w
unrolled (v.Unsort n) cs w = w
unrolled (v.Map2 t) cs w = w + min (slice_index cs 0) (slice_index cs 1)
unrolled (v.Number j) cs w = 0

unfoldable mutual
  pub weight : {s : Sort} → Expr s → ℕ
  weight (node h es) = unrolled (node_of h) (counts es) (weights es)

  pub weights : {ss : List Sort} → Exprs ss → ℕ
  weights none = 0
  weights (more e es) = weight e + weights es
