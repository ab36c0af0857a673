-- What is told at a node is told of the expression that begins there. Assumes nothing.
use Rattle.std.proofs.Common.{◌≡◌, ℕ, zero, suc, ◌+◌, ◌-◌, ◌*◌, ◌≤◌, min, true, false, cond, eqb, ◌⊎◌, List, [], ◌∷◌, ◌++◌, map, length, get_or, drop, sym, refl, ap, ◌∙◌, ap₂, inl, inr, append_assoc, suc-mul, zero-mul, arith, length-append}
use Rattle.std.proofs.lemmas.Bool.{cases_lt}
use Rattle.std.proofs.lemmas.List.{get_or-drop, drop_at, drop-drop, drop_more}
use Rattle.model.specs.declared.node.Node.{Node}
use Rattle.model.specs.declared.node.Node.TheVariants as v
use Rattle.model.specs.Syntax.{Sort, Head, arity, Expr, Exprs, node, none, more, size, sizes}
use Rattle.model.specs.Nodes.{node_of, flatten, flattens}
use Rattle.model.specs.Shapes.{natural}
use Rattle.model.specs.Counts.{elements, unrolled, folded, count, counts, weight, weights}
use Rattle.model.proofs.Extents.{arity_parts}
use Rattle.model.proofs.Readable.{length_flatten, some_node}
use Rattle.program.specs.declared.measure.Measure.{Measure}
use Rattle.program.specs.Measures.{cap, total, measure, over, terms, measures_of, nothing, Tells}

-- ---- numbers that are cut off at the cap
-- the same number, or both past the cap
abbrev Same : ℕ → ℕ → Type 0
Same a b = (a ≡ b) ⊎ ((cap ≤ a) × (cap ≤ b))

same_min : (a b : ℕ) → Same a b → min a cap ≡ min b cap
same_min a b (inl e) = ap (λ n. min n cap) e
same_min a b (inr p) = omega arith

same_plus : (a b c d : ℕ) → Same a b → Same c d → Same (a + c) (b + d)
same_plus a b c d (inl e) (inl f) = inl (ap₂ ◌+◌ e f)
same_plus a b c d (inl e) (inr q) = inr (omega arith, omega arith)
same_plus a b c d (inr p) q = inr (omega arith, omega arith)

same_cut : (a : ℕ) → Same (min a cap) a
same_cut a = elim (cases_lt a cap) [ inl p ↦ inl (omega arith) | inr p ↦ inr (omega arith, p) ]

same_times : (n a b : ℕ) → Same a b → Same (n * a) (n * b)
same_times n a b (inl e) = inl (ap (λ m. n * m) e)
same_times zero a b (inr p) = inl (omega (arith, zero-mul a, zero-mul b))
same_times (suc n) a b (inr p) = inr (omega (arith, suc-mul n a), omega (arith, suc-mul n b))

same_suc : (a b : ℕ) → Same a b → Same (suc a) (suc b)
same_suc a b (inl e) = inl (ap suc e)
same_suc a b (inr p) = inr (omega arith, omega arith)

same_folded : (n a b : ℕ) → Same a b → Same (folded n a) (folded n b)
same_folded n a b p = elim (eqb n 0) as (λ t. Same (cond t 1 (a + (n - 1))) (cond t 1 (b + (n - 1)))) [ true ↦ inl refl | false ↦ same_plus a b (n - 1) (n - 1) p (inl refl) ]

-- a node's count of unrolled nodes goes on from cut counts
same_unrolled : (n : Node) (cs : List ℕ) (a b : ℕ) → Same a b → Same (unrolled n cs a) (unrolled n cs b)
same_unrolled v.Empty cs a b p = inl refl
same_unrolled (v.Primitive k q) cs a b p = inl refl
same_unrolled (v.Place t q) cs a b p = same_suc a b p
same_unrolled (v.Join o) cs a b p = same_suc a b p
same_unrolled v.Fold cs a b p = same_folded (get_or cs 0 0) a b p
same_unrolled (v.Vector q) cs a b p = inl refl
same_unrolled (v.List n) cs a b p = p
same_unrolled (v.Repeat n) cs a b p = same_times (natural n) a b p
same_unrolled (v.Tabulate n) cs a b p = same_times (natural n) a b p
same_unrolled v.Concat cs a b p = p
same_unrolled (v.Sort n) cs a b p = p
same_unrolled (v.Unsort n) cs a b p = p
same_unrolled (v.Map2 t) cs a b p = same_plus a b (min (get_or cs 0 0) (get_or cs 1 0)) (min (get_or cs 0 0) (get_or cs 1 0)) p (inl refl)
same_unrolled (v.Number j) cs a b p = inl refl

-- ---- what is told of parts
abbrev pub measures : {ss : List Sort} → Exprs ss → List Measure
measures none = []
measures (more e es) = measure e ∷ measures es

total_nodes : {ss : List Sort} (es : Exprs ss) → total (λ t. t.nodes) (measures es) ≡ sizes es
unfolding sizes
total_nodes none = refl
total_nodes (more e es) = ap (λ n. size e + n) (total_nodes es)

map_counts : {ss : List Sort} (es : Exprs ss) → map (λ t. t.elements) (measures es) ≡ counts es
unfolding counts
map_counts none = refl
map_counts (more e es) = ap (λ l. count e ∷ l) (map_counts es)

total_unrolled : {ss : List Sort} (es : Exprs ss) → Same (total (λ t. t.unrolled) (measures es)) (weights es)
unfolding weights
total_unrolled none = inl refl
total_unrolled (more e es) = same_plus (min (weight e) cap) (weight e) (total (λ t. t.unrolled) (measures es)) (weights es) (same_cut (weight e)) (total_unrolled es)

-- a measure by its numbers
pub as_told : (a a' b b' c c' : ℕ) → a ≡ a' → b ≡ b' → c ≡ c' → ◌≡◌ {A = Measure} (record { nodes = a; elements = b; unrolled = c }) (record { nodes = a'; elements = b'; unrolled = c' })
as_told a a' b b' c c' p q r = λ i. record { nodes = p i; elements = q i; unrolled = r i }

over_parts : {s : Sort} (h : Head s) (es : Exprs (arity h)) → over (node_of h) (measures es) ≡ measure (node h es)
unfolding size count weight
over_parts h es =
    as_told _ _ _ _ _ _ (ap suc (total_nodes es)) (ap (elements (node_of h)) (map_counts es))
    (ap (λ cs. min (unrolled (node_of h) cs (total (λ t. t.unrolled) (measures es))) cap) (map_counts es)
    ∙ same_min (unrolled (node_of h) (counts es) (total (λ t. t.unrolled) (measures es))) (unrolled (node_of h) (counts es) (weights es)) (same_unrolled (node_of h) (counts es) _ _ (total_unrolled es)))

-- ---- the column is that of the nodes from each place on
measures_drop : (place : ℕ) (nodes : List Node) → drop place (measures_of nodes) ≡ measures_of (drop place nodes)
unfolding measures_of
measures_drop zero nodes = refl
measures_drop (suc place) [] = refl
measures_drop (suc place) (n ∷ nodes) = measures_drop place nodes

past : {s : Sort} (e : Expr s) (rest : List Node) → drop (size e) (flatten e ++ rest) ≡ rest
past e rest = drop_at (flatten e) rest (size e) (length_flatten e)

pub length_measures : (nodes : List Node) → length (measures_of nodes) ≡ length nodes
unfolding measures_of
length_measures [] = refl
length_measures (n ∷ nodes) = ap suc (length_measures nodes)

-- behind what is told of e stands what is told of the rest
behind : {s : Sort} (e : Expr s) (rest : List Node) → get_or (measures_of (flatten e ++ rest)) 0 nothing ≡ measure e
    → (k : ℕ) → terms (suc k) (measures_of (flatten e ++ rest)) ≡ measure e ∷ terms k (measures_of rest)
behind e rest here k =
    let ms : List Measure = measures_of (flatten e ++ rest) in
    let some = some_node e in
    let long = length_measures (flatten e ++ rest) ∙ length-append (flatten e) rest ∙ ap (λ n. n + length rest) (length_flatten e) in
    let whole : ms ≡ measure e ∷ drop 1 ms = drop_more ms 0 nothing (omega arith) ∙ ap (λ t. t ∷ drop 1 ms) here in
    let tail : drop (size e - 1) (drop 1 ms) ≡ measures_of rest = drop-drop (size e - 1) 1 ms ∙ ap (λ n. drop n ms) (omega arith) ∙ measures_drop (size e) (flatten e ++ rest) ∙ ap measures_of (past e rest) in
    ap (terms (suc k)) whole ∙ ap (λ l. measure e ∷ terms k l) tail

mutual
  unfolding measures_of flatten flattens

  pub told_here : {s : Sort} (e : Expr s) (rest : List Node) → get_or (measures_of (flatten e ++ rest)) 0 nothing ≡ measure e
  told_here (node h es) rest = ap (over (node_of h)) (ap (λ k. terms k (measures_of (flattens es ++ rest))) (sym (arity_parts h)) ∙ told_parts es rest) ∙ over_parts h es

  pub told_parts : {ss : List Sort} (es : Exprs ss) (rest : List Node) → terms (length ss) (measures_of (flattens es ++ rest)) ≡ measures es
  told_parts none rest = refl
  told_parts (more {s = s} {ss = ss} e es) rest =
      ap (λ l. terms (suc (length ss)) (measures_of l)) (append_assoc (flatten e) (flattens es) rest)
      ∙ behind e (flattens es ++ rest) (told_here e (flattens es ++ rest)) (length ss)
      ∙ ap (λ l. measure e ∷ l) (told_parts es rest)

pub tells : (nodes : List Node) → Tells nodes (measures_of nodes)
tells nodes place s e rest stands =
    ap (λ k. get_or (measures_of nodes) k nothing) (omega arith) ∙ sym (get_or-drop place (measures_of nodes) 0 nothing)
    ∙ ap (λ l. get_or l 0 nothing) (measures_drop place nodes ∙ ap measures_of stands) ∙ told_here e rest
