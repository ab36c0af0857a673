-- The node list of an expression, as a table holds it, and the program that a list of nodes is. Assumes nothing.
use Rattle.std.specs.Prelude.{ℕ, ◌+◌, List, [], ◌∷◌, ◌++◌}
use Rattle.model.specs.declared.node.Node.{Node}
use Rattle.model.specs.declared.node.Node.TheVariants as v
use Rattle.model.specs.Syntax.{Kind, solid, vector, Sort, one, many, num, Head, arity, Expr, Exprs, node, none, more}
use Rattle.model.specs.Syntax as S

-- a head as the table holds it: what a list holds is not written
abbrev pub node_of : {s : Sort} → Head s → Node
node_of S.empty = v.Empty
node_of (S.prim k a) = v.Primitive k a
node_of (S.place t a) = v.Place t a
node_of (S.join o) = v.Join o
node_of S.fold = v.Fold
node_of (S.vec a) = v.Vector a
node_of (S.list n) = v.List n
node_of (S.repeat n) = v.Repeat n
node_of (S.tab n) = v.Tabulate n
node_of S.concat = v.Concat
node_of (S.sort n) = v.Sort n
node_of (S.unsort n) = v.Unsort n
node_of (S.map2 t) = v.Map2 t
node_of (S.number j) = v.Number j

-- the number of a node's parts
abbrev pub parts : Node → ℕ
parts v.Empty = 0
parts (v.Primitive k a) = 0
parts (v.Place t a) = 1
parts (v.Join o) = 2
parts v.Fold = 1
parts (v.Vector a) = 0
parts (v.List n) = n
parts (v.Repeat n) = 1
parts (v.Tabulate n) = 1
parts v.Concat = 2
parts (v.Sort n) = n + 1
parts (v.Unsort n) = n + 1
parts (v.Map2 t) = 2
parts (v.Number j) = 0

-- the nodes in reading order
unfoldable mutual
  pub flatten : {s : Sort} → Expr s → List Node
  flatten (node h es) = node_of h ∷ flattens es

  pub flattens : {ss : List Sort} → Exprs ss → List Node
  flattens none = []
  flattens (more e es) = flatten e ++ flattens es
