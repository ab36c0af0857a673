-- What terms and the elements of lists come to, by the places of their nodes. Assumes nothing.
use Rattle.std.specs.Prelude.{◌≡◌, ℕ, ◌+◌, ◌-◌, ◌^◌, ◌<◌, ◌≤◌, min, true, List, ◌++◌, length, drop, replicate, Some, None, Option, vec_items, slice_index_or}
use Rattle.model.specs.declared.node.Node.{Node}
use Rattle.model.specs.declared.node.Triple.{Triple}
use Rattle.model.specs.Syntax.{Kind, solid, vector, Sort, one, many, Expr, Exprs, Solid, textual, textuals}
use Rattle.model.specs.Nodes.{flatten, flattens}
use Rattle.model.specs.Shapes.{Shape, Val, row, idle, run, runs}
use Rattle.model.specs.Counts.{count}
use Rattle.model.specs.Unrolling.{programs}
use Rattle.program.specs.declared.layout.Layout.{Layout}
use Rattle.program.specs.declared.measure.Measure.{Measure}
use Rattle.program.specs.Measures.{measure, nothing}
use Rattle.program.specs.declared.element.Term.{Term}
use Rattle.program.specs.declared.element.Item.{Item}
use Rattle.program.specs.declared.element.Item.TheVariants.{Whole, Placed}

-- the nodes of a program that is laid out
abbrev pub nodes_of : Layout → List Node
nodes_of l = vec_items l.table.nodes

-- an expression without Sort and Unsort begins at a place
pub record Begins {s : Sort} (nodes : List Node) (place : ℕ) (e : Expr s) : Type 0 where
  pub rest : List Node
  pub stands : drop place nodes ≡ flatten e ++ rest
  pub plain : textual e ≡ true

-- what is told of the expression at a place
abbrev pub TellsHere : List Node → ℕ → Measure → Type 0
TellsHere nodes place m = (s : Sort) (e : Expr s) (rest : List Node) → drop place nodes ≡ flatten e ++ rest → m ≡ measure e

-- the first part of a term
abbrev pub part : Term → Term
part t = record { place = min (t.place + 1) (2 ^ 64 - 1); index = t.index }

-- r is the term right after the term t
abbrev pub Follows : List Node → Term → Term → Type 0
Follows nodes t r = (s : Sort) (e : Expr s) (rest : List Node) → drop t.place nodes ≡ flatten e ++ rest → drop r.place nodes ≡ rest

-- ---- by any way to take solids
module _ {X : Type 0} (H : Shape X) (nodes : List Node) where
  -- the term comes to x
  pub record Comes (t : Term) (k : Kind) (x : Val X k) : Type 0 where
    pub expr : Expr (one k)
    pub begins : Begins nodes t.place expr
    pub is : run H expr t.index ≡ x

  -- the element j of the list that is the term comes to x
  pub record Holds (t : Term) (j : ℕ) (k : Kind) (x : Val X k) : Type 0 where
    pub list : Expr (many k)
    pub begins : Begins nodes t.place list
    pub within : j < count list
    pub is : slice_index_or (run H list t.index) j (idle H k) ≡ x

  -- r is the term j of those in a row from t on, if so many stand there
  abbrev pub Hops : Term → ℕ → Term → Type 0
  Hops t j r =
      (k : Kind) (n : ℕ) (es : Exprs (replicate n (one k))) (rest : List Node) → drop t.place nodes ≡ flattens es ++ rest → textuals es ≡ true → j < n
      → Comes r k (slice_index_or (row X k n (runs H es t.index)) j (idle H k))

-- an element of a Map2: a solid, placed by a vector, which is the same in every way to take solids
pub record Maps {X : Type 0} (H : Shape X) (nodes : List Node) (t u : Term) (j : ℕ) (place : Triple → X → X) (x : X) : Type 0 where
  pub by : Triple
  pub of : X
  pub vectors : Holds programs nodes t j vector by
  pub solids : Holds H nodes u j solid of
  pub is : place by of ≡ x

-- the item is there, and comes to x
abbrev pub IsItem : {X : Type 0} (H : Shape X) → List Node → Option Item → (k : Kind) → Val X k → Type 0
IsItem H nodes None k x = ⊥
IsItem H nodes (Some (Whole t)) k x = Comes H nodes t k x
IsItem H nodes (Some (Placed p both)) solid x = Maps H nodes both.vectors both.solids both.k (H.place p) x
IsItem H nodes (Some (Placed p both)) vector x = ⊥

-- the item is the element j of the list that is the term. Every way to take solids goes through the unrolling, so it is said of that alone
abbrev pub Finds : List Node → Term → ℕ → Option Item → Type 0
Finds nodes t j r = (k : Kind) (x : Val Solid k) → Holds programs nodes t j k x → IsItem programs nodes r k x

-- no element j is told of the list at the term
abbrev pub Lacks : Layout → Term → ℕ → Type 0
Lacks l t j = (slice_index_or (vec_items l.measures) t.place nothing).elements ≤ j

-- what stands for a vector where none is
abbrev pub zeros : Triple
zeros = idle programs vector

-- the item stands behind the node of its list
abbrev pub Behind : List Node → Term → Option Item → Type 0
Behind nodes t None = Unit {0}
Behind nodes t (Some (Whole u)) = (t.place < length nodes) × (t.place < u.place)
Behind nodes t (Some (Placed p both)) = (t.place < length nodes) × (t.place < both.solids.place)
