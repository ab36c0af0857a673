-- The nodes of an unrolling are counted without it. Assumes nothing.
use Rattle.std.proofs.Common.{◌≡◌, ℕ, zero, suc, ◌+◌, ◌-◌, ◌*◌, Bool, true, false, cond, not, eqb, List, [], ◌∷◌, ◌++◌, length, replicate, Some, None, Option, sym, refl, ap, ◌∙◌, subst, ap₂, inl, inr, suc-mul, mul-zero, zero-mul, arith}
use Rattle.std.specs.Option.{option_or}
use Rattle.std.proofs.lemmas.Bool.{not-false, eqb-true}
use Rattle.std.proofs.lemmas.Bool.Decides.{eqb_tells}
use Rattle.model.specs.declared.node.Triple.{Triple}
use Rattle.model.specs.declared.law.Context.{Context}
use Rattle.model.specs.declared.law.Law.TheVariants.{Pairs}
use Rattle.model.specs.Families.{Meaning}
use Rattle.model.specs.Syntax.{solid, vector, Sort, one, many, num, Head, arity, empty, prim, place, join, fold, vec, list, repeat, tab, concat, sort, unsort, map2, number, Expr, Exprs, node, none, more, Solid, size, sizes}
use Rattle.model.specs.Nodes.{node_of}
use Rattle.model.specs.Held.{only}
use Rattle.model.specs.Orders.{Order, order_in, behind, Proper, Ordered, AllOrdered}
use Rattle.model.specs.Shapes.{Shape, Den, Dens, row, order, past, run, runs, made_of, union_of, from, zip_with, sorted, unsorted, natural}
use Rattle.model.specs.Counts.{unrolled, folded, count, counts, weight, weights}
use Rattle.model.specs.Legality.{root, below, breaks, first, firsts}
use Rattle.model.specs.Unrolling.{programs, unroll}
use Rattle.model.proofs.Counted.{length_run}
use Rattle.model.proofs.Ordering.{sum, sum_sorted, sum_unsorted}
use Rattle.model.proofs.Related.{keeps_run}

-- solids taken as how many nodes they have
abbrev sizing : Shape ℕ
sizing = record { empty = 1; prim = λ k q. 1; place = λ t v n. suc n; join = λ o a b. suc (a + b) }

size_run : (e : Solid) → size (unroll e) ≡ run sizing e 0
unfolding size sizes unroll
size_run e =
    keeps_run programs sizing size
    (record { on_empty = refl; on_prim = λ k q. refl; on_place = λ t v x. omega arith; on_join = λ o x y. omega arith }) e 0

-- ---- sums
sum_append : (l m : List ℕ) → sum (l ++ m) ≡ sum l + sum m
sum_append [] m = omega arith
sum_append (n ∷ l) m = let h = sum_append l m in omega arith

sum_replicate : (k n : ℕ) → sum (replicate k n) ≡ k * n
sum_replicate zero n = sym (zero-mul n)
sum_replicate (suc k) n = let h = sum_replicate k n in omega (arith, suc-mul k n)

sum_from : (f : ℕ → ℕ) (w : ℕ) → ((j : ℕ) → f j ≡ w) → (i k : ℕ) → sum (from f i k) ≡ k * w
sum_from f w p i zero = sym (zero-mul w)
sum_from f w p i (suc k) = let h = sum_from f w p (suc i) k in omega (arith, suc-mul k w, p i)

sum_zip : (f : Triple → ℕ → ℕ) → ((v : Triple) (n : ℕ) → f v n ≡ suc n) → (vs : List Triple) (l : List ℕ) → length vs ≡ length l → sum (zip_with f vs l) ≡ sum l + length l
sum_zip f p [] [] q = refl
sum_zip f p (v ∷ vs) (n ∷ l) q = let h = sum_zip f p vs l (omega arith) in omega (arith, p v n)
sum_zip f p _ _ q = absurd (omega arith)

folded_some : (k w : ℕ) → folded (suc k) w ≡ w + k
folded_some k w = elim (eqb_tells (suc k) 0) [ inl p ↦ absurd (omega arith) | inr p ↦ ap (λ t. cond t 1 (w + (suc k - 1))) p.0 ∙ omega arith ]

union_size : (l : List ℕ) → union_of sizing l ≡ folded (length l) (sum l)
union_size [] = refl
union_size (n ∷ []) = omega (arith, folded_some 0 (n + 0))
union_size (n ∷ m ∷ l) =
    ap (λ k. suc (n + k)) (union_size (m ∷ l)) ∙ omega (arith, folded_some (length l) (sum (m ∷ l)), folded_some (suc (length l)) (sum (n ∷ m ∷ l)))

-- ---- what an expression weighs: a solid as many nodes as it unrolls to, a list all its elements together
abbrev Weighs : (s : Sort) → Den ℕ s → ℕ → Type 0
Weighs (one solid) d w = d ≡ w
Weighs (one vector) d w = w ≡ 0
Weighs (many solid) d w = sum d ≡ w
Weighs (many vector) d w = w ≡ 0
Weighs num d w = Unit {0}

abbrev AllWeigh : {ss : List Sort} → Exprs ss → Dens ℕ ss → Type 0
AllWeigh none d = Unit {0}
AllWeigh (more {s = s} e es) d = Weighs s d.0 (weight e) × AllWeigh es d.1

row_solids : (n : ℕ) (es : Exprs (replicate n (one solid))) (d : Dens ℕ (replicate n (one solid))) → AllWeigh es d → sum (row ℕ solid n d) ≡ weights es
unfolding weights
row_solids zero none d p = refl
row_solids (suc n) (more e es) d p = ap₂ ◌+◌ p.0 (row_solids n es d.1 p.1)

row_vectors : (n : ℕ) (es : Exprs (replicate n (one vector))) (d : Dens ℕ (replicate n (one vector))) → AllWeigh es d → weights es ≡ 0
unfolding weights
row_vectors zero none d p = refl
row_vectors (suc n) (more e es) d p = let h = row_vectors n es d.1 p.1 in omega (arith, p.0)

-- ---- what a kept law says of a node and its parts
pub kept : (b : Bool) (at : ℕ) (o : Option ℕ) → cond b (Some at) o ≡ None → (b ≡ false) × (o ≡ None)
kept true at o p = cc
kept false at o p = (refl, p)

pub neither : (a b : Option ℕ) → option_or a b ≡ None → (a ≡ None) × (b ≡ None)
neither None b p = (refl, p)
neither (Some n) b p = cc

even_counts : (a b : ℕ) → not (eqb a b) ≡ false → a ≡ b
even_counts a b q = eqb-true a b (not-false (eqb a b) q)

-- ---- the order in front of a list
order_run : {X : Type 0} (H : Shape X) (ss : List Sort) (n : ℕ) (es : Exprs (replicate n num ++ ss)) (i : ℕ) → order X ss n (runs H es i) ≡ order_in ss n es
unfolding run runs
order_run H ss zero es i = refl
order_run H ss (suc n) (more (node (number j) none) es) i = ap (λ l. j ∷ l) (order_run H ss n es i)

past_run : {X : Type 0} (H : Shape X) (ss : List Sort) (n : ℕ) (es : Exprs (replicate n num ++ ss)) (i : ℕ) → past X ss n (runs H es i) ≡ runs H (behind ss n es) i
unfolding runs
past_run H ss zero es i = refl
past_run H ss (suc n) (more e es) i = past_run H ss n es i

-- numbers weigh nothing
weights_behind : (ss : List Sort) (n : ℕ) (es : Exprs (replicate n num ++ ss)) → weights es ≡ weights (behind ss n es)
unfolding weight weights
weights_behind ss zero es = refl
weights_behind ss (suc n) (more (node (number j) none) es) = omega (arith, weights_behind ss n es)

behind_weighs : (ss : List Sort) (n : ℕ) (es : Exprs (replicate n num ++ ss)) (d : Dens ℕ (replicate n num ++ ss)) → AllWeigh es d → AllWeigh (behind ss n es) (past ℕ ss n d)
behind_weighs ss zero es d p = p
behind_weighs ss (suc n) (more e es) d p = behind_weighs ss n es d.1 p.1

-- the list behind an order
list_weighs : (es : Exprs (many solid ∷ [])) (i : ℕ) → AllWeigh es (runs sizing es i) → (sum (runs sizing es i).0 ≡ weights es) × (length (runs sizing es i).0 ≡ count (only es))
unfolding runs weights
list_weighs (more l none) i p = (omega (arith, p.0), length_run sizing l i)

-- put in a proper order it weighs what it weighed
reordered : (f : List ℕ → List ℕ → List ℕ) → ((o l : List ℕ) → Order o (length l) → sum (f o l) ≡ sum l)
    → (n : ℕ) (es : Exprs (replicate n num ++ (many solid ∷ []))) (i : ℕ) → Order (order_in (many solid ∷ []) n es) (count (only (behind (many solid ∷ []) n es)))
    → AllWeigh es (runs sizing es i) → sum (f (order ℕ (many solid ∷ []) n (runs sizing es i)) (past ℕ (many solid ∷ []) n (runs sizing es i)).0) ≡ weights es
reordered f keeps n es i o p =
    let ss : List Sort = many solid ∷ [] in
    let tail : Exprs ss = behind ss n es in
    let q = list_weighs tail i (let P : Dens ℕ ss → Type 0 = λ d. AllWeigh tail d in subst P (past_run sizing ss n es i) (behind_weighs ss n es (runs sizing es i) p)) in
    ap₂ (λ o' d. sum (f o' d.0)) (order_run sizing ss n es i) (past_run sizing ss n es i)
    ∙ keeps (order_in ss n es) (runs sizing tail i).0 (subst (Order (order_in ss n es)) (sym q.1) o)
    ∙ q.0 ∙ sym (weights_behind ss n es)

-- an order of vectors weighs nothing
vectors_weigh : (n : ℕ) (es : Exprs (replicate n num ++ (many vector ∷ []))) (d : Dens ℕ (replicate n num ++ (many vector ∷ []))) → AllWeigh es d → weights es ≡ 0
unfolding weights weight
vectors_weigh zero (more l none) d p = omega (arith, p.0)
vectors_weigh (suc n) (more (node (number j) none) es) d p = omega (arith, vectors_weigh n es d.1 p.1)

module _ (m : Meaning) where
  head_weighs : {s : Sort} (h : Head s) (es : Exprs (arity h)) (c : Context) → Proper h es → breaks m c (counts es) (node_of h) Pairs ≡ false
      → ((j : ℕ) → AllWeigh es (runs sizing es j)) → (i : ℕ) → Weighs s (made_of sizing h (λ j. runs sizing es j) i) (unrolled (node_of h) (counts es) (weights es))
  unfolding weights counts runs
  head_weighs empty none c t q p i = refl
  head_weighs (prim k v) none c t q p i = refl
  head_weighs (place u v) (more e none) c t q p i = omega (arith, (p i).0)
  head_weighs (join o) (more a (more b none)) c t q p i = omega (arith, (p i).0, (p i).1.0)
  head_weighs fold (more l none) c t q p i = union_size (run sizing l i) ∙ ap₂ folded (length_run sizing l i) (omega (arith, (p i).0))
  head_weighs (vec v) none c t q p i = refl
  head_weighs (list {k = solid} n) es c t q p i = row_solids n es (runs sizing es i) (p i)
  head_weighs (list {k = vector} n) es c t q p i = row_vectors n es (runs sizing es i) (p i)
  head_weighs (repeat {k = solid} n) (more e none) c t q p i = sum_replicate (natural n) (run sizing e i) ∙ ap (λ w. natural n * w) (omega (arith, (p i).0))
  head_weighs (repeat {k = vector} n) (more e none) c t q p i = ap (λ w. natural n * w) (omega (arith, (p i).0)) ∙ mul-zero (natural n)
  head_weighs (tab {k = solid} n) (more e none) c t q p i = sum_from (λ j. run sizing e j) (weight e + 0) (λ j. omega (arith, (p j).0)) 0 (natural n)
  head_weighs (tab {k = vector} n) (more e none) c t q p i = ap (λ w. natural n * w) (omega (arith, (p i).0)) ∙ mul-zero (natural n)
  head_weighs (concat {k = solid}) (more a (more b none)) c t q p i = omega (arith, sum_append (run sizing a i) (run sizing b i), (p i).0, (p i).1.0)
  head_weighs (concat {k = vector}) (more a (more b none)) c t q p i = omega (arith, (p i).0, (p i).1.0)
  head_weighs (sort {k = solid} n) es c t q p i = reordered (sorted 1) (sum_sorted 1) n es i t (p i)
  head_weighs (sort {k = vector} n) es c t q p i = vectors_weigh n es (runs sizing es i) (p i)
  head_weighs (unsort {k = solid} n) es c t q p i = reordered (unsorted 1) (sum_unsorted 1) n es i t (p i)
  head_weighs (unsort {k = vector} n) es c t q p i = vectors_weigh n es (runs sizing es i) (p i)
  head_weighs (map2 u) (more v (more l none)) c t q p i =
      let even = even_counts (count v) (count l) q in
      let a = length_run sizing v i in
      let b = length_run sizing l i in
      omega (arith, sum_zip (sizing.place u) (λ w n. refl) (run sizing v i) (run sizing l i) (omega arith), (p i).0, (p i).1.0)
  head_weighs (number j) none c t q p i = tt

  mutual
    unfolding run runs weight Ordered AllOrdered first firsts

    weighs : {s : Sort} (e : Expr s) (c : Context) (at : ℕ) → Ordered e → first m Pairs c e at ≡ None → (i : ℕ) → Weighs s (run sizing e i) (weight e)
    weighs (node h es) c at t p i =
        let here = kept (breaks m c (counts es) (node_of h) Pairs) at (firsts m Pairs (below (node_of h) c) es (suc at)) p in
        head_weighs h es c t.0 here.0 (λ j. all_weigh es (below (node_of h) c) (suc at) t.1 here.1 j) i

    all_weigh : {ss : List Sort} (es : Exprs ss) (c : Context) (at : ℕ) → AllOrdered es → firsts m Pairs c es at ≡ None → (i : ℕ) → AllWeigh es (runs sizing es i)
    all_weigh none c at t p i = tt
    all_weigh (more e es) c at t p i =
        let both = neither (first m Pairs c e at) (firsts m Pairs c es (at + size e)) p in
        (weighs e c at t.0 both.0 i, all_weigh es c (at + size e) t.1 both.1 i)

  pub weight_unrolled : (e : Solid) → Ordered e → first m Pairs root e 0 ≡ None → weight e ≡ size (unroll e)
  weight_unrolled e t p = sym (weighs e root 0 t p 0) ∙ sym (size_run e)
