-- What a program comes to: one evaluator for every way to take the four forms of a solid without lists. Assumes nothing.
use Rattle.std.specs.Prelude.{ℕ, zero, suc, cond, List, [], ◌∷◌, ◌++◌, map, length, replicate, ℤ, pos, negsuc, ◌==◌, slice_index_or}
use Rattle.model.specs.declared.node.Placement.{Placement}
use Rattle.model.specs.declared.node.Operator.{Operator}
use Rattle.model.specs.declared.node.Operator.TheVariants.{Union}
use Rattle.model.specs.declared.node.Triple.{Triple}
use Rattle.model.specs.Syntax.{Kind, solid, vector, Sort, one, many, num, Head, empty, prim, place, join, fold, vec, list, repeat, tab, concat, sort, unsort, map2, number, arity, Expr, Exprs, node, more}
use Rattle.model.specs.Syntax as S
use Rattle.model.specs.Placements.{at, triple}

-- a count as a number of elements: below 0 none
abbrev pub natural : ℤ → ℕ
natural (pos n) = n
natural (negsuc n) = 0

-- ---- lists
-- the elements of two lists by pairs, as far as both go
abbrev pub zip_with : {A B C : Type 0} → (A → B → C) → List A → List B → List C
zip_with f [] bs = []
zip_with f (a ∷ xs) [] = []
zip_with f (a ∷ xs) (b ∷ bs) = f a b ∷ zip_with f xs bs

-- f i, f (i + 1), .., n of them
abbrev pub from : {A : Type 0} → (ℕ → A) → ℕ → ℕ → List A
from f i zero = []
from f i (suc n) = f i ∷ from f (suc i) n

-- the place of j in an order; its length if it is not there
abbrev pub place_of : ℕ → List ℕ → ℕ
place_of j [] = 0
place_of j (k ∷ p) = cond (j == k) 0 (suc (place_of j p))

-- the elements p0, p1, .. of a list
abbrev pub sorted : {A : Type 0} → A → List ℕ → List A → List A
sorted d p l = map (λ j. slice_index_or l j d) p

-- the list whose elements p0, p1, .. these are
abbrev pub unsorted : {A : Type 0} → A → List ℕ → List A → List A
unsorted d p l = from (λ j. slice_index_or l (place_of j p) d) 0 (length p)

-- ---- a way to take solids without lists, as things of type X
pub record Shape (X : Type 0) : Type 0 where
  pub empty : X
  pub prim : ℤ → Triple → X
  pub place : Placement → Triple → X → X
  pub join : Operator → X → X → X

module _ (X : Type 0) where
  abbrev pub Val : Kind → Type 0
  Val solid = X
  Val vector = Triple

  abbrev pub Den : Sort → Type 0
  Den (one k) = Val k
  Den (many k) = List (Val k)
  Den num = ℕ

  abbrev pub Dens : List Sort → Type 0
  Dens [] = Unit {0}
  Dens (s ∷ ss) = Den s × Dens ss

  -- the elements of a list that is written out
  abbrev pub row : (k : Kind) (n : ℕ) → Dens (replicate n (one k)) → List (Val k)
  row k zero d = []
  row k (suc n) d = d.0 ∷ row k n d.1

  -- the numbers of an order, and what stands behind them
  abbrev pub order : (ss : List Sort) (n : ℕ) → Dens (replicate n num ++ ss) → List ℕ
  order ss zero d = []
  order ss (suc n) d = d.0 ∷ order ss n d.1

  abbrev pub past : (ss : List Sort) (n : ℕ) → Dens (replicate n num ++ ss) → Dens ss
  past ss zero d = d
  past ss (suc n) d = past ss n d.1

module _ {X : Type 0} (H : Shape X) where
  -- what stands where an order that is none points to nothing
  abbrev pub idle : (k : Kind) → Val X k
  idle solid = H.empty
  idle vector = triple (pos 0) (pos 0) (pos 0)

  -- Fold Union: nothing gives Empty, one element itself, else the Union of the first and the Fold of the rest
  abbrev pub union_of : List X → X
  union_of [] = H.empty
  union_of (f ∷ []) = f
  union_of (f ∷ g ∷ fs) = H.join Union f (union_of (g ∷ fs))

  -- what a head makes of its parts, each given at every index
  abbrev pub made_of : {s : Sort} (h : Head s) → (ℕ → Dens X (arity h)) → ℕ → Den X s
  made_of empty d i = H.empty
  made_of (prim k v) d i = H.prim k (at i v)
  made_of (place t v) d i = H.place t (at i v) (d i).0
  made_of (join o) d i = H.join o (d i).0 (d i).1.0
  made_of fold d i = union_of (d i).0
  made_of (vec v) d i = at i v
  made_of (list {k} n) d i = row X k n (d i)
  made_of (repeat n) d i = replicate (natural n) (d i).0
  made_of (tab n) d i = from (λ j. (d j).0) 0 (natural n)
  made_of concat d i = (d i).0 ++ (d i).1.0
  made_of (sort {k} n) d i = sorted (idle k) (order X (many k ∷ []) n (d i)) (past X (many k ∷ []) n (d i)).0
  made_of (unsort {k} n) d i = unsorted (idle k) (order X (many k ∷ []) n (d i)) (past X (many k ∷ []) n (d i)).0
  made_of (map2 t) d i = zip_with (H.place t) (d i).0 (d i).1.0
  made_of (number j) d i = j

  -- what an expression comes to at an index of the loop around it
  unfoldable mutual
    pub run : {s : Sort} → Expr s → ℕ → Den X s
    run (node h es) i = made_of h (λ j. runs es j) i

    pub runs : {ss : List Sort} → Exprs ss → ℕ → Dens X ss
    runs S.none i = tt
    runs (more e es) i = (run e i, runs es i)
