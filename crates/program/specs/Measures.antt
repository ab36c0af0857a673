-- What is told of the terms of a table. Assumes nothing.
use Rattle.std.specs.Prelude.{◌≡◌, ℕ, zero, suc, ◌+◌, ◌-◌, ◌*◌, ◌^◌, ◌<◌, ◌≤◌, min, List, [], ◌∷◌, ◌++◌, map, length, drop, slice_index, slice_index_or}
use Rattle.model.specs.Limits.{most_unrolled}
use Rattle.model.specs.declared.node.Node.{Node}
use Rattle.model.specs.Syntax.{Sort, Expr, size}
use Rattle.model.specs.Nodes.{flatten, parts}
use Rattle.model.specs.Counts.{count, weight, elements, unrolled}
use Rattle.program.specs.declared.measure.Measure.{Measure}
use Rattle.program.specs.declared.parts.Parts.{Parts}

-- the largest number of unrolled nodes that is told; it stands for all larger ones too
abbrev pub cap : ℕ
cap = suc most_unrolled

-- nothing is told where no term begins
abbrev pub nothing : Measure
nothing = record { nodes = 0; elements = 0; unrolled = 0 }

-- what is told of an expression
abbrev pub measure : {s : Sort} → Expr s → Measure
measure e = record { nodes = size e; elements = count e; unrolled = min (weight e) cap }

-- a sum over what is told
abbrev pub total : (Measure → ℕ) → List Measure → ℕ
total f [] = 0
total f (t ∷ ts) = f t + total f ts

-- what is told of a node with parts of which this is told
abbrev pub over : Node → List Measure → Measure
over n ts = record {
  nodes = suc (total (λ t. t.nodes) ts);
  elements = elements n (map (λ t. t.elements) ts);
  unrolled = min (unrolled n (map (λ t. t.elements) ts) (total (λ t. t.unrolled) ts)) cap;
}

-- what is told of the first k terms
abbrev pub terms : ℕ → List Measure → List Measure
terms zero ms = []
terms (suc k) [] = []
terms (suc k) (m ∷ ms) = m ∷ terms k (drop (m.nodes - 1) ms)

-- ---- how the code keeps within its numbers
-- what is told of a term that begins at a place of a list of so many nodes
pub record Bounded (long place : ℕ) (t : Measure) : Type 0 where
  pub some : 1 ≤ t.nodes
  pub within : place + t.nodes ≤ long
  pub elements : t.elements ≤ t.nodes * 2 ^ 64
  pub unrolled : t.unrolled ≤ cap

abbrev pub BoundedFrom : List Measure → ℕ → Type 0
BoundedFrom ms from = (place : ℕ) → from ≤ place → place < length ms → Bounded (length ms) place (slice_index_or ms place nothing)

-- what is told of terms in a row
pub record Gathered (long from : ℕ) (ts : List Measure) (r : Parts) : Type 0 where
  pub nodes : r.nodes ≡ total (λ t. t.nodes) ts
  pub first : r.first ≡ slice_index (map (λ t. t.elements) ts) 0
  pub second : r.second ≡ slice_index (map (λ t. t.elements) ts) 1
  pub unrolled : r.unrolled ≡ total (λ t. t.unrolled) ts
  pub within : from + r.nodes ≤ long

-- the elements of the first part and of the second
abbrev pub both : Parts → List ℕ
both r = r.first ∷ r.second ∷ []

-- what is told of a node by its parts
abbrev pub over_parts : Node → Parts → Measure
over_parts n r = record { nodes = suc r.nodes; elements = elements n (both r); unrolled = min (unrolled n (both r) r.unrolled) cap }

-- what is told of the term at each node
unfoldable pub measures_of : List Node → List Measure
measures_of [] = []
measures_of (n ∷ ns) = over n (terms (parts n) (measures_of ns)) ∷ measures_of ns

-- each expression that begins at a node is told of at that node's number
abbrev pub Tells : List Node → List Measure → Type 0
Tells nodes ms = (place : ℕ) (s : Sort) (e : Expr s) (rest : List Node) → drop place nodes ≡ flatten e ++ rest → slice_index_or ms place nothing ≡ measure e
