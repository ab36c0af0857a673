-- Which programs are legal, and which law one breaks first. Assumes nothing.
use Rattle.std.specs.Prelude.{◌≡◌, ℕ, suc, ◌+◌, ◌%◌, Bool, false, cond, not, ◌&&◌, ◌||◌, List, [], ◌∷◌, ℤ, pos, is_some, Some, None, Option, ◌==◌, int_le, nat_lt, slice_index, unsigned_abs}
use Rattle.std.specs.Option.{option_or}
use Rattle.model.specs.Limits.{most_nodes, most_levels, most_elements, most_unrolled}
use Rattle.model.specs.declared.law.Law.{Law}
use Rattle.model.specs.declared.law.Law.TheVariants.{Size, Loops, Numbers, Primitives, Pairs, Lengths}
use Rattle.model.specs.declared.law.Fault.{Fault}
use Rattle.model.specs.declared.law.Context.{Context}
use Rattle.model.specs.declared.node.Node.{Node}
use Rattle.model.specs.declared.node.Node.TheVariants as v
use Rattle.model.specs.declared.node.Placement.{Placement}
use Rattle.model.specs.declared.node.Placement.TheVariants.{Translate, Scale, Rotate}
use Rattle.model.specs.declared.node.Triple.{Triple}
use Rattle.model.specs.declared.node.Linear.{Linear}
use Rattle.model.specs.Families.{Meaning}
use Rattle.model.specs.Syntax.{Sort, Expr, Exprs, node, none, more, Solid, size, depth}
use Rattle.model.specs.Nodes.{node_of}
use Rattle.model.specs.Placements.{at}
use Rattle.model.specs.Shapes.{natural, from}
use Rattle.model.specs.Counts.{elements, counts}
use Rattle.model.specs.Unrolling.{primitive, unroll}

-- ---- where a node stands
-- no loop around it; no vector stands outside of a Map2, so that the placement is no matter
abbrev pub root : Context
root = record { around = None; placement = Translate }

-- where the parts of a node stand that stands there
abbrev pub below : Node → Context → Context
below v.Empty c = c
below (v.Primitive k a) c = c
below (v.Place t a) c = c
below (v.Join o) c = c
below v.Fold c = c
below (v.Vector a) c = c
below (v.List n) c = c
below (v.Repeat n) c = c
below (v.Tabulate n) c = record { around = Some n; placement = c.placement }
below v.Concat c = c
below (v.Sort n) c = c
below (v.Unsort n) c = c
below (v.Map2 t) c = record { around = c.around; placement = t }
below (v.Number j) c = c

-- the indices of the loop around a node: without one 0 alone
abbrev pub indices : Option ℤ → List ℕ
indices None = 0 ∷ []
indices (Some n) = from (λ i. i) 0 (natural n)

-- ---- what a law forbids
abbrev pub some_of : {A : Type 0} → (A → Bool) → List A → Bool
some_of f [] = false
some_of f (a ∷ l) = f a || some_of f l

abbrev pub some_axis : (ℤ → Bool) → Triple → Bool
some_axis f v = f v.x || (f v.y || f v.z)

-- farther from 0 than m
abbrev pub beyond : ℕ → ℤ → Bool
beyond m z = nat_lt m (unsigned_abs z)

abbrev pub nonzero : ℤ → Bool
nonzero z = not (unsigned_abs z == 0)

-- an index outside of a loop
abbrev pub loose : Context → Linear → Bool
loose c v = not (is_some c.around) && some_axis nonzero v.slope

-- a value that a placement does not take
abbrev pub unfit : Placement → ℤ → Bool
unfit Translate z = beyond 1000000 z
unfit Scale z = not (nonzero z) || beyond 1000 z
unfit Rotate z = beyond 36000 z || not (unsigned_abs z % 90 == 0)

-- a constant or a slope that is too large, or a value at some index that the placement does not take
abbrev pub wild : Placement → Context → Linear → Bool
wild t c v =
    some_axis (beyond 1000000) v.constant
    || (some_axis (beyond 1000000) v.slope || some_of (λ i. some_axis (unfit t) (at i v)) (indices c.around))

-- a count outside of 1 to 1,000
abbrev pub uncounted : ℤ → Bool
uncounted n = not (int_le (pos 1) n && int_le n (pos 1000))

-- a kind outside of 0 to 65,535
abbrev pub unkind : ℤ → Bool
unkind k = not (int_le (pos 0) k && int_le k (pos 65535))

-- a primitive that the family finds illegal at some index
abbrev pub unknown : Meaning → Context → ℤ → Linear → Bool
unknown m c k v = some_of (λ i. not (m.legal (primitive k (at i v)))) (indices c.around)

-- the two lists of a Map2 are not equally long
abbrev pub uneven : List ℕ → Bool
uneven cs = not (slice_index cs 0 == slice_index cs 1)

-- ---- which laws a node breaks, where it stands and by the counts of its parts
-- a row of the table: the laws on loops, numbers, primitives and pairs
abbrev pub row : Bool → Bool → Bool → Bool → Bool → Law → Bool
row a b c d e Size = false
row a b c d e Loops = a
row a b c d e Numbers = b
row a b c d e Primitives = c
row a b c d e Pairs = d
row a b c d e Lengths = e

-- all but lists are short
abbrev pub long : Node → List ℕ → Bool
long n cs = nat_lt most_elements (elements n cs)

abbrev pub breaks : Meaning → Context → List ℕ → Node → Law → Bool
breaks m c cs v.Empty = row false false false false (long v.Empty cs)
breaks m c cs (v.Primitive k a) = row (loose c a) (unkind k || wild Translate c a) (unknown m c k a) false (long (v.Primitive k a) cs)
breaks m c cs (v.Place t a) = row (loose c a) (wild t c a) false false (long (v.Place t a) cs)
breaks m c cs (v.Join o) = row false false false false (long (v.Join o) cs)
breaks m c cs v.Fold = row false false false false (long v.Fold cs)
breaks m c cs (v.Vector a) = row (loose c a) (wild c.placement c a) false false (long (v.Vector a) cs)
breaks m c cs (v.List n) = row false false false false (long (v.List n) cs)
breaks m c cs (v.Repeat n) = row false (uncounted n) false false (long (v.Repeat n) cs)
breaks m c cs (v.Tabulate n) = row (is_some c.around) (uncounted n) false false (long (v.Tabulate n) cs)
breaks m c cs v.Concat = row false false false false (long v.Concat cs)
breaks m c cs (v.Sort n) = row false false false false (long (v.Sort n) cs)
breaks m c cs (v.Unsort n) = row false false false false (long (v.Unsort n) cs)
breaks m c cs (v.Map2 t) = row false false false (uneven cs) (long (v.Map2 t) cs)
breaks m c cs (v.Number j) = row false false false false (long (v.Number j) cs)

-- the number of the first node that breaks a law, in reading order, if the expression's own number is at
unfoldable mutual
  pub first : Meaning → Law → Context → {s : Sort} → Expr s → ℕ → Option ℕ
  first m l c (node h es) at = cond (breaks m c (counts es) (node_of h) l) (Some at) (firsts m l (below (node_of h) c) es (suc at))

  pub firsts : Meaning → Law → Context → {ss : List Sort} → Exprs ss → ℕ → Option ℕ
  firsts m l c none at = None
  firsts m l c (more e es) at = option_or (first m l c e at) (firsts m l c es (at + size e))

-- ---- the whole program
-- the first node of a program that breaks a law; what the whole breaks is told of node 0
abbrev pub culprit : Meaning → Solid → Law → Option ℕ
culprit m e Size = cond (nat_lt most_nodes (size e) || nat_lt most_levels (depth e)) (Some 0) None
culprit m e Loops = first m Loops root e 0
culprit m e Numbers = first m Numbers root e 0
culprit m e Primitives = first m Primitives root e 0
culprit m e Pairs = first m Pairs root e 0
culprit m e Lengths = cond (nat_lt most_unrolled (size (unroll e))) (Some 0) (first m Lengths root e 0)

abbrev pub laws : List Law
laws = Size ∷ Loops ∷ Numbers ∷ Primitives ∷ Pairs ∷ Lengths ∷ []

-- the fault, if a node breaks the law, or else what the later laws say
abbrev pub told : Law → Option ℕ → Option Fault → Option Fault
told l (Some n) later = Some (record { law = l; node = n })
told l None later = later

abbrev pub first_fault : Meaning → Solid → List Law → Option Fault
first_fault m e [] = None
first_fault m e (l ∷ ls) = told l (culprit m e l) (first_fault m e ls)

-- the first law that a program breaks, and the first node that breaks it
unfoldable pub fault : Meaning → Solid → Option Fault
fault m e = first_fault m e laws

unfoldable pub Legal : Meaning → Solid → Type 0
Legal m e = fault m e ≡ None

-- the number by which a caller is told which law is broken
abbrev pub law_number : Law → ℕ
law_number Size = 3
law_number Loops = 4
law_number Numbers = 5
law_number Primitives = 6
law_number Pairs = 7
law_number Lengths = 8
