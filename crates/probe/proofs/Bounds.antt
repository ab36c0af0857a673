-- Numbers that fit their types.
use Rattle.std.proofs.Common.{◌≡◌, ℕ, ◌^◌, ◌<◌, ◌≤◌, Bool, true, false, cond, ◌||◌, ℤ, ◌-ℤ◌, ◌*ℤ◌, nat_abs, Some, None, sym, refl, ap, ◌∙◌, subst, arith, w64, SFits, to_z, of_z}
use borrow.Author.Differences.{ints}
use Rattle.std.proofs.lemmas.Bool.{ltb-false, le-ltb, or_parts}
use Rattle.std.proofs.lemmas.Int.{to_z-of_z}
use Rattle.model.specs.declared.node.Triple.{Triple}
use Rattle.model.specs.Legality.{some_axis, beyond}
use Rattle.program.specs.Narrow.{bounded}
use Rattle.family.proofs.Fits.{abs_bound}

pub small_fits : (z : ℤ) (m : ℕ) → nat_abs z ≤ m → m < 2 ^ 63 → SFits w64 z
small_fits z m h l = omega (arith, ints)

-- ---- points in reach
-- a coordinate, and a way times a divisor
pub record Shifts (x v w : ℤ) : Type 0 where
  pub way : SFits w64 (v *ℤ w)
  pub shifted : SFits w64 (x -ℤ v *ℤ w)

pub shifts : (x v w : ℤ) → nat_abs x ≤ 1000000000 → nat_abs v ≤ 2000000000 → nat_abs w ≤ 1000 → Shifts x v w
shifts x v w p q r = let s = sums x (v *ℤ w) p (abs_bound v w 2000000000 1000 q r) in record { way = s.0; shifted = s.1 }
  where
    sums : (a b : ℤ) → nat_abs a ≤ 1000000000 → nat_abs b ≤ 2000000000000 → (SFits w64 b) × (SFits w64 (a -ℤ b))
    sums a b p q = (omega (arith, ints), omega (arith, ints))

-- a number times two factors
pub record Products (a b c : ℤ) : Type 0 where
  pub two : SFits w64 (a *ℤ b)
  pub three : SFits w64 (a *ℤ b *ℤ c)
  pub small : nat_abs (a *ℤ b *ℤ c) ≤ 1000000000000000

pub products : (a b c : ℤ) → nat_abs a ≤ 1000000000 → nat_abs b ≤ 1000 → nat_abs c ≤ 1000 → Products a b c
products a b c p q r =
    let two : nat_abs (a *ℤ b) ≤ 1000000000000 = abs_bound a b 1000000000 1000 p q in
    let three : nat_abs (a *ℤ b *ℤ c) ≤ 1000000000000000 = abs_bound (a *ℤ b) c 1000000000000 1000 two r in
    record { two = fits (a *ℤ b) (omega arith); three = fits (a *ℤ b *ℤ c) three; small = three }
  where
    fits : (z : ℤ) → nat_abs z ≤ 1000000000000000 → SFits w64 z
    fits z h = omega (arith, ints)

-- ---- numbers at hand
-- a small number is what its bits say
back : (z : ℤ) (m : ℕ) → nat_abs z ≤ m → m < 2 ^ 63 → to_z w64 (of_z w64 z) ≡ z
back z m h l = to_z-of_z w64 z (small_fits z m h l)

pub kept : (z : ℤ) (m : ℕ) → nat_abs z ≤ m → m < 2 ^ 63 → nat_abs (to_z w64 (of_z w64 z)) ≤ m
kept z m h l = let P : ℤ → Type 0 = λ y. nat_abs y ≤ m in subst P (sym (back z m h l)) h

-- a vector without a number that is farther from 0 than m
pub record Small (m : ℕ) (v : Triple) : Type 0 where
  pub x : nat_abs v.x ≤ m
  pub y : nat_abs v.y ≤ m
  pub z : nat_abs v.z ≤ m

pub small : (m : ℕ) (v : Triple) → some_axis (beyond m) v ≡ false → Small m v
small m v e =
    let a = or_parts (beyond m v.x) (beyond m v.y || beyond m v.z) e in
    let b = or_parts (beyond m v.y) (beyond m v.z) a.1 in
    record { x = ltb-false m (nat_abs v.x) a.0; y = ltb-false m (nat_abs v.y) b.0; z = ltb-false m (nat_abs v.z) b.1 }

not_beyond : (m : ℕ) (v : Triple) → Small m v → some_axis (beyond m) v ≡ false
not_beyond m v s = λ i. le-ltb m (nat_abs v.x) s.x i || (le-ltb m (nat_abs v.y) s.y i || le-ltb m (nat_abs v.z) s.z i)

-- what a bounded vector is
pub bounded_some : (m : ℕ) (v u : Triple) → Some u ≡ bounded m v → (u ≡ v) × Small m u
bounded_some m v u e = go (some_axis (beyond m) v) refl e
  where
    go : (b : Bool) → some_axis (beyond m) v ≡ b → Some u ≡ cond b None (Some v) → (u ≡ v) × Small m u
    go true q e = let z : ⊥ = cc in absurd z
    go false q e = let i : u ≡ v = cc in (i, subst (Small m) (sym i) (small m v q))

pub bounded_none : (m : ℕ) (v : Triple) → None ≡ bounded m v → Small m v → ⊥
bounded_none m v e s =
    let q : None ≡ Some v = e ∙ ap (λ b. cond b None (Some v)) (not_beyond m v s) in
    cc
