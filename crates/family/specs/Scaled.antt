-- Tests under a positive factor. Assumes nothing.
use Rattle.std.specs.Prelude.{◌≡◌, ℕ, ◌<◌, Bool, ◌&&◌, ℤ, pos, negsuc, ◌*ℤ◌, ◌<ℤ◌, int_le, refl}
use Rattle.std.proofs.Common.{sym, ◌∙◌, ap, inl, inr, mul-le-mul_left, mul-add, arith}
use Rattle.std.proofs.Math.Nat.{mul-lt-mul_of_pos_left}
use borrow.Author.Differences.{product_is, le-true, le-false, true_is_le, false_is_le, ints}
use Rattle.std.proofs.lemmas.Bool.{cases_Bool}
use Rattle.model.specs.declared.node.Triple.{Triple}
use Rattle.family.specs.Reaching.{between}

-- three factors
abbrev pub factors : ℤ → ℤ → ℤ → Triple
factors s t u = record { x = s; y = t; z = u }

-- an order stays under a positive factor
pub le_z_scale : (k : ℕ) (x y : ℤ) → 0 < k → int_le (pos k *ℤ x) (pos k *ℤ y) ≡ int_le x y
le_z_scale k x y h =
    let px = product_is (pos k) x in
    let py = product_is (pos k) y in
    elim (cases_Bool (int_le x y)) [
      | inl e ↦
          let m = mul-le-mul_left k (le-true x y e) in
          sym (true_is_le (pos k *ℤ x) (pos k *ℤ y) (omega (arith, px, py, simp mul-add at m))) ∙ sym e
      | inr e ↦
          let m = mul-lt-mul_of_pos_left (le-false x y e) h in
          sym (false_is_le (pos k *ℤ x) (pos k *ℤ y) (omega (arith, px, py, simp mul-add at m))) ∙ sym e
    ]

-- two sides that are both k times as large
pub le_times : (k : ℕ) → 0 < k → (x y x' y' : ℤ) → x' ≡ pos k *ℤ x → y' ≡ pos k *ℤ y → int_le x' y' ≡ int_le x y
le_times k h x y x' y' p q = rw (p, q) (le_z_scale k x y h)

-- and so do bounds from 0 on
pub between_times : (k : ℕ) → 0 < k → (v hi v' hi' : ℤ) → v' ≡ pos k *ℤ v → hi' ≡ pos k *ℤ hi → between (pos 0) v' hi' ≡ between (pos 0) v hi
between_times k h v hi v' hi' p q =
    let e1 = le_times k h (pos 0) v (pos 0) v' (ap pos (omega arith)) p in
    let e2 = le_times k h v hi v' hi' p q in
    rw (e1, e2) refl

-- two tests whose parts are the same
pub and_same : {a a' b b' : Bool} → a ≡ a' → b ≡ b' → (a && b) ≡ (a' && b')
and_same p q = cc

-- a positive number is a natural above 0
pub natural : (k : ℤ) → pos 0 <ℤ k → (n : ℕ) × ((k ≡ pos n) × (0 < n))
natural (pos n) h = (n, (refl, omega (arith, ints)))
natural (negsuc n) h = absurd h.lt
