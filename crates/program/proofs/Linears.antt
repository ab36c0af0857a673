-- Numbers that are linear in an index keep between two indices what they keep at both. Assumes nothing.
use Rattle.std.proofs.Common.{◌≡◌, ℕ, suc, ◌-◌, ◌*◌, ◌≤◌, Bool, true, false, ℤ, pos, negsuc, ◌+ℤ◌, neg_ℤ, nat_abs, sym, ap, ◌∙◌, mul-le-mul_right, mul-zero, arith}
use borrow.Author.Differences.{ints}
use Rattle.std.proofs.lemmas.Bool.{ltb-false, le-ltb}
use Rattle.model.specs.Placements.{linear}
use Rattle.model.specs.Legality.{beyond}
use Rattle.model.specs.declared.numeral.Numeral.{Numeral}
use Rattle.program.specs.Judging.{some_along}
use Rattle.program.proofs.Indices.{some_is, none_is}

up : (m : ℕ) (c : ℤ) (z a b : ℕ) → z ≤ a → a ≤ b → nat_abs (c +ℤ pos z) ≤ m → nat_abs (c +ℤ pos b) ≤ m → nat_abs (c +ℤ pos a) ≤ m
up m c z a b p q h g = omega (arith, ints)

down : (m : ℕ) (c : ℤ) (z a b : ℕ) → z ≤ a → a ≤ b → nat_abs (c +ℤ neg_ℤ (pos z)) ≤ m → nat_abs (c +ℤ neg_ℤ (pos b)) ≤ m → nat_abs (c +ℤ neg_ℤ (pos a)) ≤ m
down m c z a b p q h g = omega (arith, ints)

within_ends : (m : ℕ) (c s : ℤ) (i k : ℕ) → i ≤ k → nat_abs (linear c s 0) ≤ m → nat_abs (linear c s k) ≤ m → nat_abs (linear c s i) ≤ m
within_ends m c (pos p) i k l = up m c (0 * p) (i * p) (k * p) (mul-le-mul_right p (omega arith)) (mul-le-mul_right p l)
within_ends m c (negsuc p) i k l = down m c (0 * suc p) (i * suc p) (k * suc p) (mul-le-mul_right (suc p) (omega arith)) (mul-le-mul_right (suc p) l)

between : (m : ℕ) (c s : ℤ) (i k : ℕ) → i ≤ k → beyond m (linear c s 0) ≡ false → beyond m (linear c s k) ≡ false → beyond m (linear c s i) ≡ false
between m c s i k l p q =
    le-ltb m (nat_abs (linear c s i)) (within_ends m c s i k l (ltb-false m (nat_abs (linear c s 0)) p) (ltb-false m (nat_abs (linear c s k)) q))

-- a number that is in bounds at the first index is in bounds at all of them if it is at the last
pub by_ends : (m : ℕ) (a : Numeral) (n : ℕ) → (n ≡ 0 → ⊥) → beyond m (linear a.constant a.slope 0) ≡ false → (b : Bool) → b ≡ beyond m (linear a.constant a.slope (n - 1)) → b ≡ some_along (beyond m) a n
by_ends m a n some p true e = sym (some_is (λ i. beyond m (linear a.constant a.slope i)) n (n - 1) (omega arith) (sym e))
by_ends m a n some p false e = sym (none_is (λ i. beyond m (linear a.constant a.slope i)) n (λ i h. between m a.constant a.slope i (n - 1) (omega arith) p (sym e)))

-- one without slope is the same at all indices
pub unsloped : (f : ℤ → Bool) (a : Numeral) (n : ℕ) → a.slope ≡ pos 0 → f (linear a.constant a.slope 0) ≡ false → some_along f a n ≡ false
unsloped f a n flat e = none_is (λ i. f (linear a.constant a.slope i)) n (λ i h. ap f (still i) ∙ e)
  where
    still : (i : ℕ) → linear a.constant a.slope i ≡ linear a.constant a.slope 0
    still i = rw flat (ap (λ k. a.constant +ℤ pos k) (mul-zero i))
