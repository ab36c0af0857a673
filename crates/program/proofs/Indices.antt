-- A test of every number below another one. Assumes nothing.
use Rattle.std.proofs.Common.{◌≡◌, ℕ, zero, suc, ◌+◌, ◌<◌, min, Bool, true, false, ◌||◌, List, [], ◌∷◌, ℤ, Some, None, Option, sym, refl, ap, ◌∙◌, inl, inr, zero-add, arith}
use Rattle.std.specs.List.{list_any, range_with_len}
use Rattle.std.proofs.lemmas.Bool.{cases_Bool}
use Rattle.std.proofs.lemmas.Bool.Decides.{nat_tests}
use Rattle.std.proofs.lemmas.List.Folds.{list_any_at}
use Rattle.std.proofs.lemmas.List.FromFn.{length-range_with_len, get_or-range_with_len}
use Rattle.model.specs.Shapes.{natural, from}
use Rattle.model.specs.declared.node.Linear.{Linear}
use Rattle.model.specs.Placements.{linear, at}
use Rattle.model.specs.Legality.{some_of, some_axis, indices}
use Rattle.program.specs.Judging.{turns, some_below, some_axis_along}

-- the indices of a node are the numbers below how many there are
listed : (f : ℕ → Bool) (a n : ℕ) → some_of f (from (λ i. i) a n) ≡ list_any f (range_with_len a n)
listed f a zero = refl
listed f a (suc n) = ap (λ b. f a || b) (listed f (suc a) n ∙ ap (λ k. list_any f (range_with_len k n)) (omega arith))

pub over_indices : (f : ℕ → Bool) (around : Option ℤ) → some_of f (indices around) ≡ some_below f (turns around)
over_indices f None = refl
over_indices f (Some n) = listed f 0 (natural n)

-- one number is enough
pub some_is : (f : ℕ → Bool) (n i : ℕ) → i < n → f i ≡ true → some_below f n ≡ true
some_is f n i h e = list_any_at f (range_with_len 0 n) i 0 (omega (arith, length-range_with_len 0 n)) (ap f (get_or-range_with_len 0 n i 0 h ∙ zero-add i) ∙ e)

none_from : (f : ℕ → Bool) (a n : ℕ) → ((i : ℕ) → i < n → f (a + i) ≡ false) → list_any f (range_with_len a n) ≡ false
none_from f a zero h = refl
none_from f a (suc n) h = ap (λ b. b || list_any f (range_with_len (a + 1) n)) (ap f (omega arith) ∙ h 0 (omega arith)) ∙ none_from f (a + 1) n (λ i l. ap f (omega arith) ∙ h (i + 1) (omega arith))

pub none_is : (f : ℕ → Bool) (n : ℕ) → ((i : ℕ) → i < n → f i ≡ false) → some_below f n ≡ false
none_is f n h = none_from f 0 n (λ i l. ap f (omega arith) ∙ h i l)

-- tests that answer alike
same_from : (f g : ℕ → Bool) (a n : ℕ) → ((i : ℕ) → i < n → f (a + i) ≡ g (a + i)) → list_any f (range_with_len a n) ≡ list_any g (range_with_len a n)
same_from f g a zero h = refl
same_from f g a (suc n) h =
    let here : f a ≡ g a = ap f (omega arith) ∙ h 0 (omega arith) ∙ ap g (omega arith) in
    let there = same_from f g (a + 1) n (λ i l. ap f (omega arith) ∙ h (i + 1) (omega arith) ∙ ap g (omega arith)) in
    λ k. here k || there k

pub same_below : (f g : ℕ → Bool) (n : ℕ) → ((i : ℕ) → i < n → f i ≡ g i) → some_below f n ≡ some_below g n
same_below f g n h = same_from f g 0 n (λ i l. ap f (zero-add i) ∙ h i l ∙ ap g (omega arith))

-- a test that answers alike of all numbers is asked of the first alone
pub first_is_enough : (f : ℕ → Bool) (n : ℕ) → ((i : ℕ) → f i ≡ f 0) → some_below f (min n 1) ≡ some_below f n
first_is_enough f zero same = refl
first_is_enough f (suc n) same =
    elim (cases_Bool (f 0)) [
      | inl e ↦ some_is f (min (suc n) 1) 0 (omega arith) e ∙ sym (some_is f (suc n) 0 (omega arith) e)
      | inr e ↦ none_is f (min (suc n) 1) (λ i h. same i ∙ e) ∙ sym (none_is f (suc n) (λ i h. same i ∙ e))
    ]

-- tests of several things at once are tests of each
swap_or : (a b c d e f : Bool) → (a || (b || c)) || (d || (e || (f || false))) ≡ (a || d) || ((b || e) || ((c || f) || false))
swap_or a b c d e f = grind (arith, nat_tests)

some_of_three : (f g h : ℕ → Bool) (l : List ℕ) → list_any (λ i. f i || (g i || h i)) l ≡ list_any f l || (list_any g l || (list_any h l || false))
some_of_three f g h [] = refl
some_of_three f g h (i ∷ l) = ap (λ b. (f i || (g i || h i)) || b) (some_of_three f g h l) ∙ swap_or (f i) (g i) (h i) (list_any f l) (list_any g l) (list_any h l)

-- axis by axis, or index by index
pub by_axis : (f : ℤ → Bool) (v : Linear) (around : Option ℤ) → some_of (λ i. some_axis f (at i v)) (indices around) ≡ some_axis_along f v (turns around)
by_axis f v around =
    over_indices (λ i. some_axis f (at i v)) around
    ∙ some_of_three (λ i. f (linear v.constant.x v.slope.x i)) (λ i. f (linear v.constant.y v.slope.y i)) (λ i. f (linear v.constant.z v.slope.z i)) (range_with_len 0 (turns around))
