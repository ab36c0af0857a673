-- Lists in a proper order. Assumes nothing.
use Rattle.std.proofs.Common.{◌≡◌, ℕ, zero, suc, ◌+◌, ◌*◌, ◌<◌, ◌≤◌, Bool, true, false, cond, eqb, ltb, List, [], ◌∷◌, map, length, get_or, sym, refl, ap, ◌∙◌, subst, ap₂, add-mul, one-mul, zero-mul, arith, ext_get_or}
use lib.ListN.{length-map}
use Rattle.std.proofs.lemmas.List.{get_or-map}
use Rattle.std.proofs.lemmas.Bool.{and_parts, lt-ltb, eq-eqb}
use Rattle.std.proofs.lemmas.Bool.Decides.{nat_tests}
use Rattle.model.specs.Shapes.{place_of, sorted, unsorted}
use Rattle.model.specs.Syntax.{Sort, Head, arity, sort, unsort, Expr, Exprs, node, none, more, textual_head, textual, textuals}
use Rattle.model.specs.Orders.{times_in, Order, Proper, Ordered, AllOrdered}
use Rattle.model.proofs.Sequences.{at_from, length_from}

-- ---- a number of an order stands at its place, and only there
member : (d k : ℕ) (p : List ℕ) → k < length p → 0 < times_in (get_or p k d) p
member d k [] h = absurd (omega arith)
member d zero (m ∷ p) h = rw (eq-eqb m m refl) (omega arith)
member d (suc k) (m ∷ p) h = let r = member d k p (omega arith) in omega arith

once_here : (d k : ℕ) (p : List ℕ) (b : Bool) → 0 < times_in (get_or p k d) p → cond b 1 0 + times_in (get_or p k d) p ≡ 1
    → (times_in (get_or p k d) p ≡ 1 → place_of (get_or p k d) p ≡ k) → cond b 0 (suc (place_of (get_or p k d) p)) ≡ suc k
once_here d k p true g e r = absurd (omega arith)
once_here d k p false g e r = ap suc (r (omega arith))

once : (d k : ℕ) (p : List ℕ) → k < length p → times_in (get_or p k d) p ≡ 1 → place_of (get_or p k d) p ≡ k
once d k [] h e = absurd (omega arith)
once d zero (m ∷ p) h e = rw (eq-eqb m m refl)
once d (suc k) (m ∷ p) h e = once_here d k p (eqb (get_or p k d) m) (member d k p (omega arith)) e (once d k p (omega arith))

-- ---- sums over the numbers below n
-- std's `sum` folds from the left, so it does not compute at the first element
abbrev pub sum : List ℕ → ℕ
sum [] = 0
sum (a ∷ l) = a + sum l

-- f 0 + .. + f (n - 1)
abbrev sum_to : (ℕ → ℕ) → ℕ → ℕ
sum_to f zero = 0
sum_to f (suc n) = sum_to f n + f n

below : (ℕ → ℕ) → ℕ → List ℕ → ℕ
below f n [] = 0
below f n (k ∷ p) = cond (ltb k n) (f k) 0 + below f n p

below_one : (f : ℕ → ℕ) (k n : ℕ) → cond (ltb k (suc n)) (f k) 0 ≡ cond (ltb k n) (f k) 0 + cond (eqb n k) 1 0 * f n
below_one f k n = let p : k ≡ n → f k ≡ f n = λ e. ap f e in grind (arith, nat_tests, one-mul (f n), zero-mul (f n), p)

below_suc : (f : ℕ → ℕ) (n : ℕ) (p : List ℕ) → below f (suc n) p ≡ below f n p + times_in n p * f n
unfolding below
below_suc f n [] = omega (arith, zero-mul (f n))
below_suc f n (k ∷ p) = let a = below_one f k n in let b = below_suc f n p in omega (arith, add-mul (cond (eqb n k) 1 0) (times_in n p) (f n))

below_zero : (f : ℕ → ℕ) (p : List ℕ) → below f 0 p ≡ 0
unfolding below
below_zero f [] = refl
below_zero f (k ∷ p) = let b = below_zero f p in grind (arith, nat_tests)

-- each number below n once: the sum over all of them
below_all : (f : ℕ → ℕ) (n : ℕ) (p : List ℕ) → ((j : ℕ) → j < n → times_in j p ≡ 1) → below f n p ≡ sum_to f n
below_all f zero p h = below_zero f p
below_all f (suc n) p h =
    let a = below_suc f n p in
    let b = below_all f n p (λ j u. h j (omega arith)) in
    let c = ap (λ t. t * f n) (h n (omega arith)) ∙ one-mul (f n) in
    omega arith

sum_ones : (n : ℕ) → sum_to (λ j. 1) n ≡ n
sum_ones zero = refl
sum_ones (suc n) = let h = sum_ones n in omega arith

-- n numbers that are each of 0 to n - 1 are all below n
below_le : (n : ℕ) (p : List ℕ) → below (λ j. 1) n p ≤ length p
unfolding below
below_le n [] = omega arith
below_le n (k ∷ p) = let b = below_le n p in grind (arith, nat_tests)

full : (n d k : ℕ) (p : List ℕ) → below (λ j. 1) n p ≡ length p → k < length p → get_or p k d < n
unfolding below
full n d k [] e h = absurd (omega arith)
full n d zero (m ∷ p) e h = let b = below_le n p in grind (arith, nat_tests)
full n d (suc k) (m ∷ p) e h = let b = below_le n p in full n d k p (grind (arith, nat_tests)) (omega arith)

pub within : (p : List ℕ) (n : ℕ) → Order p n → (d k : ℕ) → k < n → get_or p k d < n
within p n o d k h = full n d k p (below_all (λ j. 1) n p o.each ∙ sum_ones n ∙ sym o.sized) (let s = o.sized in omega arith)

pub place_in_order : (p : List ℕ) (n : ℕ) → Order p n → (d k : ℕ) → k < n → place_of (get_or p k d) p ≡ k
place_in_order p n o d k h = once d k p (let s = o.sized in omega arith) (o.each (get_or p k d) (within p n o d k h))

-- ---- the sum of a list does not hang on its order
all_below : (f : ℕ → ℕ) (n : ℕ) (p : List ℕ) → ((k : ℕ) → k < length p → get_or p k 0 < n) → below f n p ≡ sum (map f p)
unfolding below
all_below f n [] h = refl
all_below f n (k ∷ p) h = ap₂ ◌+◌ (ap (λ b. cond b (f k) 0) (lt-ltb k n (h 0 (omega arith)))) (all_below f n p (λ j u. h (suc j) (omega arith)))

sum_front : (f : ℕ → ℕ) (n : ℕ) → sum_to f (suc n) ≡ f 0 + sum_to (λ j. f (suc j)) n
sum_front f zero = omega arith
sum_front f (suc n) = let h = sum_front f n in omega arith

sum_upto : (l : List ℕ) (d : ℕ) → sum_to (λ j. get_or l j d) (length l) ≡ sum l
sum_upto [] d = refl
sum_upto (a ∷ l) d = sum_front (λ j. get_or (a ∷ l) j d) (length l) ∙ ap (λ n. a + n) (sum_upto l d)

pub sum_sorted : (d : ℕ) (p l : List ℕ) → Order p (length l) → sum (sorted d p l) ≡ sum l
sum_sorted d p l o =
    sym (all_below (λ j. get_or l j d) (length l) p (λ k u. within p (length l) o 0 k (let s = o.sized in omega arith)))
    ∙ below_all (λ j. get_or l j d) (length l) p o.each ∙ sum_upto l d

-- Sort undoes Unsort
unsorted_at : {A : Type 0} (d : A) (p : List ℕ) (l : List A) (k : ℕ) → k < length p → get_or (unsorted d p l) k d ≡ get_or l (place_of k p) d
unsorted_at d p l k h = at_from (λ j. get_or l (place_of j p) d) 0 (length p) k d h ∙ ap (λ m. get_or l (place_of m p) d) (omega arith)

pub sorted_unsorted : {A : Type 0} (d : A) (p : List ℕ) (l : List A) → Order p (length l) → sorted d p (unsorted d p l) ≡ l
sorted_unsorted d p l o =
    ext_get_or d (sorted d p (unsorted d p l)) l (length-map p (λ j. get_or (unsorted d p l) j d) ∙ o.sized)
    (λ k h.
    let n = length-map p (λ j. get_or (unsorted d p l) j d) in
    let s = o.sized in
    let u : k < length l = omega arith in
    let w = within p (length l) o 0 k u in
    get_or-map (λ j. get_or (unsorted d p l) j d) p k 0 d (omega arith) ∙ unsorted_at d p l (get_or p k 0) (omega arith) ∙ ap (λ j. get_or l j d) (place_in_order p (length l) o 0 k u))

pub sum_unsorted : (d : ℕ) (p l : List ℕ) → Order p (length l) → sum (unsorted d p l) ≡ sum l
sum_unsorted d p l o =
    let m : List ℕ = unsorted d p l in
    let long : length m ≡ length l = length_from (λ j. get_or l (place_of j p) d) 0 (length p) ∙ o.sized in
    sym (sum_sorted d p m (subst (Order p) (sym long) o)) ∙ ap sum (sorted_unsorted d p l o)

-- ---- a program without Sort and Unsort has no order that could be wrong
textual_proper : {s : Sort} (h : Head s) (es : Exprs (arity h)) → textual_head h ≡ true → Proper h es
textual_proper (sort n) es t = cc
textual_proper (unsort n) es t = cc
textual_proper _ es t = tt

mutual
  unfolding textual textuals Ordered AllOrdered

  pub textual_ordered : {s : Sort} (e : Expr s) → textual e ≡ true → Ordered e
  textual_ordered (node h es) t = let q = and_parts (textual_head h) (textuals es) t in (textual_proper h es q.0, textuals_ordered es q.1)

  textuals_ordered : {ss : List Sort} (es : Exprs ss) → textuals es ≡ true → AllOrdered es
  textuals_ordered none t = tt
  textuals_ordered (more e es) t = let q = and_parts (textual e) (textuals es) t in (textual_ordered e q.0, textuals_ordered es q.1)
