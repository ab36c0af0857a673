-- The program that a list of nodes is, read by sorts. Assumes nothing.
use Rattle.std.specs.Prelude.{◌≡◌, Bool, true, false, List, [], ◌∷◌, ◌++◌, pos, refl}
use Rattle.std.proofs.Math.Option.{Option, some}
use Rattle.model.specs.declared.node.Node.{Node}
use Rattle.model.specs.declared.node.Node.TheVariants as v
use Rattle.model.specs.Syntax.{Kind, solid, vector, Sort, one, many, num, Head, arity, Expr, Exprs, node, none, more, Solid}
use Rattle.model.specs.Syntax as S
use Rattle.model.specs.Nodes.{node_of}

-- a head of a sort that the node is
pub record Headed (x : Node) (s : Sort) : Type 0 where
  pub head : Head s
  pub is : node_of head ≡ x

-- a node that is a solid's head, at any sort
abbrev pub solid_at : (x : Node) → Headed x (one solid) → (s : Sort) → Option (Headed x s)
solid_at x h (one solid) = some h
solid_at x h (one vector) = Option.none
solid_at x h (many k) = Option.none
solid_at x h num = Option.none

-- a vector's
abbrev pub vector_at : (x : Node) → Headed x (one vector) → (s : Sort) → Option (Headed x s)
vector_at x h (one solid) = Option.none
vector_at x h (one vector) = some h
vector_at x h (many k) = Option.none
vector_at x h num = Option.none

-- a list's, of either kind
abbrev pub list_at : (x : Node) → ((k : Kind) → Headed x (many k)) → (s : Sort) → Option (Headed x s)
list_at x h (one k) = Option.none
list_at x h (many k) = some (h k)
list_at x h num = Option.none

-- a list's, of solids only
abbrev pub solids_at : (x : Node) → Headed x (many solid) → (s : Sort) → Option (Headed x s)
solids_at x h (one k) = Option.none
solids_at x h (many solid) = some h
solids_at x h (many vector) = Option.none
solids_at x h num = Option.none

-- a number's
abbrev pub number_at : (x : Node) → Headed x num → (s : Sort) → Option (Headed x s)
number_at x h (one k) = Option.none
number_at x h (many k) = Option.none
number_at x h num = some h

-- the head that a node is at a sort, if it is one
abbrev pub head_at : (x : Node) (s : Sort) → Option (Headed x s)
head_at v.Empty s = solid_at v.Empty (record { head = S.empty; is = refl }) s
head_at (v.Primitive k a) s = solid_at (v.Primitive k a) (record { head = S.prim k a; is = refl }) s
head_at (v.Place t a) s = solid_at (v.Place t a) (record { head = S.place t a; is = refl }) s
head_at (v.Join o) s = solid_at (v.Join o) (record { head = S.join o; is = refl }) s
head_at v.Fold s = solid_at v.Fold (record { head = S.fold; is = refl }) s
head_at (v.Vector a) s = vector_at (v.Vector a) (record { head = S.vec a; is = refl }) s
head_at (v.List n) s = list_at (v.List n) (λ k. record { head = S.list n; is = refl }) s
head_at (v.Repeat n) s = list_at (v.Repeat n) (λ k. record { head = S.repeat n; is = refl }) s
head_at (v.Tabulate n) s = list_at (v.Tabulate n) (λ k. record { head = S.tab n; is = refl }) s
head_at v.Concat s = list_at v.Concat (λ k. record { head = S.concat; is = refl }) s
head_at (v.Sort n) s = list_at (v.Sort n) (λ k. record { head = S.sort n; is = refl }) s
head_at (v.Unsort n) s = list_at (v.Unsort n) (λ k. record { head = S.unsort n; is = refl }) s
head_at (v.Map2 t) s = solids_at (v.Map2 t) (record { head = S.map2 t; is = refl }) s
head_at (v.Number j) s = number_at (v.Number j) (record { head = S.number j; is = refl }) s

abbrev pub sorted_on : {x : Node} {s : Sort} → Option (Headed x s) → (Head s → Bool) → Bool
sorted_on Option.none k = false
sorted_on (some h) k = k h.head

-- the nodes are those of one expression for each sort
abbrev pub sorted : List Sort → List Node → Bool
sorted [] [] = true
sorted [] (x ∷ xs) = false
sorted (s ∷ ss) [] = false
sorted (s ∷ ss) (x ∷ xs) = sorted_on (head_at x s) (λ h. sorted (arity h ++ ss) xs)

-- the nodes are a program's
unfoldable pub whole : List Node → Bool
whole ns = sorted (one solid ∷ []) ns

-- what stands where nodes are no program's
abbrev pub spare : (s : Sort) → Expr s
spare (one solid) = node S.empty none
spare (one vector) = node (S.vec (record { constant = record { x = pos 0; y = pos 0; z = pos 0 }; slope = record { x = pos 0; y = pos 0; z = pos 0 } })) none
spare (many k) = node (S.list 0) none
spare num = node (S.number 0) none

abbrev pub spares : (ss : List Sort) → Exprs ss
spares [] = none
spares (s ∷ ss) = more (spare s) (spares ss)

-- the first parts, and those after them
abbrev pub fore : (as' ss : List Sort) → Exprs (as' ++ ss) → Exprs as'
fore [] ss es = none
fore (a ∷ as') ss (more e es) = more e (fore as' ss es)

abbrev pub aft : (as' ss : List Sort) → Exprs (as' ++ ss) → Exprs ss
aft [] ss es = es
aft (a ∷ as') ss (more e es) = aft as' ss es

abbrev pub only : {s : Sort} → Exprs (s ∷ []) → Expr s
only (more e es) = e

abbrev pub read_on : {x : Node} (s : Sort) (ss : List Sort) → Option (Headed x s) → ((h : Head s) → Exprs (arity h ++ ss)) → Exprs (s ∷ ss)
read_on s ss Option.none k = spares (s ∷ ss)
read_on s ss (some h) k = more (node h.head (fore (arity h.head) ss (k h.head))) (aft (arity h.head) ss (k h.head))

-- expressions of these sorts, read off the nodes
abbrev pub read : (ss : List Sort) → List Node → Exprs ss
read [] ns = none
read (s ∷ ss) [] = spares (s ∷ ss)
read (s ∷ ss) (x ∷ xs) = read_on s ss (head_at x s) (λ h. read (arity h ++ ss) xs)

-- the program that nodes are
unfoldable pub program : List Node → Solid
program ns = only (read (one solid ∷ []) ns)
