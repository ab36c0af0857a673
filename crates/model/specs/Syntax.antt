-- Programs: one node form, whose head says its sort and the sorts of its parts. Assumes nothing.
use Rattle.std.specs.Prelude.{ℕ, suc, ◌+◌, max, Bool, true, false, ◌&&◌, List, [], ◌∷◌, ◌++◌, replicate, ℤ}
use Rattle.model.specs.declared.node.Placement.{Placement}
use Rattle.model.specs.declared.node.Operator.{Operator}
use Rattle.model.specs.declared.node.Linear.{Linear}

-- what a list holds
pub data Kind : Type 0 where
  solid : Kind
  vector : Kind
  deriving Discrete as Kind-discrete
  deriving IsSet as Kind-set

-- what a node is: an element, a list of elements, a number of an order
pub data Sort : Type 0 where
  one : Kind → Sort
  many : Kind → Sort
  num : Sort
  deriving IsSet as Sort-set

-- what stands at a node besides its parts
pub data Head : Sort → Type 0 where
  empty : Head (one solid)
  prim : ℤ → Linear → Head (one solid)
  place : Placement → Linear → Head (one solid)
  join : Operator → Head (one solid)
  fold : Head (one solid)
  vec : Linear → Head (one vector)
  list : {k : Kind} → ℕ → Head (many k)
  repeat : {k : Kind} → ℤ → Head (many k)
  tab : {k : Kind} → ℤ → Head (many k)
  concat : {k : Kind} → Head (many k)
  sort : {k : Kind} → ℕ → Head (many k)
  unsort : {k : Kind} → ℕ → Head (many k)
  map2 : Placement → Head (many solid)
  number : ℕ → Head num

-- the sorts of a node's parts
abbrev pub arity : {s : Sort} → Head s → List Sort
arity empty = []
arity (prim k v) = []
arity (place t v) = one solid ∷ []
arity (join o) = one solid ∷ one solid ∷ []
arity fold = many solid ∷ []
arity (vec v) = []
arity (list {k} n) = replicate n (one k)
arity (repeat {k} n) = one k ∷ []
arity (tab {k} n) = one k ∷ []
arity (concat {k}) = many k ∷ many k ∷ []
arity (sort {k} n) = replicate n num ++ (many k ∷ [])
arity (unsort {k} n) = replicate n num ++ (many k ∷ [])
arity (map2 t) = many vector ∷ many solid ∷ []
arity (number j) = []

-- an expression is a head with its parts
mutual
  pub data Expr : Sort → Type 0 where
    node : {s : Sort} (h : Head s) → Exprs (arity h) → Expr s

  pub data Exprs : List Sort → Type 0 where
    none : Exprs []
    more : {s : Sort} {ss : List Sort} → Expr s → Exprs ss → Exprs (s ∷ ss)

-- a program is a solid
abbrev pub Solid : Type 0
Solid = Expr (one solid)

-- nothing
abbrev pub Empty : Solid
Empty = node empty none

-- the number of nodes
unfoldable mutual
  pub size : {s : Sort} → Expr s → ℕ
  size (node h es) = suc (sizes es)

  pub sizes : {ss : List Sort} → Exprs ss → ℕ
  sizes none = 0
  sizes (more e es) = size e + sizes es

-- the number of nodes on the longest way down; a node without parts has depth 1
unfoldable mutual
  pub depth : {s : Sort} → Expr s → ℕ
  depth (node h es) = suc (depths es)

  pub depths : {ss : List Sort} → Exprs ss → ℕ
  depths none = 0
  depths (more e es) = max (depth e) (depths es)

-- heads that a text may have: all but the orders
abbrev pub textual_head : {s : Sort} → Head s → Bool
textual_head empty = true
textual_head (prim k v) = true
textual_head (place t v) = true
textual_head (join o) = true
textual_head fold = true
textual_head (vec v) = true
textual_head (list n) = true
textual_head (repeat n) = true
textual_head (tab n) = true
textual_head concat = true
textual_head (sort n) = false
textual_head (unsort n) = false
textual_head (map2 t) = true
textual_head (number j) = false

-- no Sort or Unsort stands in it
unfoldable mutual
  pub textual : {s : Sort} → Expr s → Bool
  textual (node h es) = textual_head h && textuals es

  pub textuals : {ss : List Sort} → Exprs ss → Bool
  textuals none = true
  textuals (more e es) = textual e && textuals es
