-- A long way and a large factor lead out of reach. Assumes nothing.
use Rattle.std.proofs.Common.{◌≡◌, ℕ, zero, suc, ◌*◌, ◌≤◌, Bool, true, false, cond, ◌&&◌, ℤ, pos, ◌-ℤ◌, ◌*ℤ◌, neg_ℤ, nat_abs, Some, None, refl, mul-le-mul, one-mul, mul-zero, zero-mul, mul-one, arith}
use borrow.Author.Differences.{ints}
use lib.Signed.{le_z, non_neg}
use Rattle.std.proofs.lemmas.Bool.{and_parts}
use Rattle.std.proofs.lemmas.Int.{unsigned_abs-mul}
use Rattle.model.specs.declared.node.Triple.{Triple}
use Rattle.model.specs.declared.point.Point.{Point}
use Rattle.model.specs.Families.{signed, rescaled}
use Rattle.model.specs.Placements.{translated}
use Rattle.family.specs.Reaching.{between, near, in_reach}
use Rattle.family.proofs.Fits.{reached}
use Rattle.probe.specs.Moving.{spot_of}
use Rattle.probe.proofs.Bounds.{Small}

abs_neg : (z : ℤ) → nat_abs (neg_ℤ z) ≡ nat_abs z
abs_neg z = omega (arith, ints)

abs_signed : (m z : ℤ) → nat_abs (signed m z) ≡ nat_abs z
abs_signed m z = go (non_neg m)
  where
    go : (b : Bool) → nat_abs (cond b z (neg_ℤ z)) ≡ nat_abs z
    go true = refl
    go false = abs_neg z

-- the factors of a product that is not 0 are no larger
factors : (a b : ℕ) → 1 ≤ a * b → (1 ≤ a) × (a ≤ a * b) × (b ≤ a * b)
factors zero b h = absurd (omega (arith, zero-mul b))
factors (suc a) zero h = absurd (omega (arith, mul-zero (suc a)))
factors (suc a) (suc b) h =
    let one : 1 ≤ suc b = omega arith in
    let eno : 1 ≤ suc a = omega arith in
    let p : suc a * 1 ≤ suc a * suc b = mul-le-mul (omega arith) one in
    let q : 1 * suc b ≤ suc a * suc b = mul-le-mul eno (omega arith) in
    (eno, omega (arith, p, mul-one (suc a)), omega (arith, q, one-mul (suc b)))

divisor : (p : Point) → in_reach p ≡ true → 1 ≤ nat_abs p.w
divisor p e =
    let a = and_parts (near p.x && near p.y && near p.z) (between (pos 1) p.w (pos 1000)) e in
    let b = and_parts (le_z (pos 1) p.w) (le_z p.w (pos 1000)) a.1 in
    omega (arith, ints, b.0)

short : (x v w : ℤ) → nat_abs x ≤ 1000000000 → 1 ≤ nat_abs w → nat_abs (x -ℤ v *ℤ w) ≤ 1000000000 → nat_abs v ≤ 2000000000
short x v w p q r =
    let d : nat_abs (v *ℤ w) ≤ 2000000000 = apart x (v *ℤ w) p r in
    let m = unsigned_abs-mul v w in
    let l : nat_abs v * 1 ≤ nat_abs v * nat_abs w = mul-le-mul (omega arith) q in
    omega (arith, d, m, l, mul-one (nat_abs v))
  where
    apart : (a b : ℤ) → nat_abs a ≤ 1000000000 → nat_abs (a -ℤ b) ≤ 1000000000 → nat_abs b ≤ 2000000000
    apart a b p q = omega (arith, ints)

-- a way that stays in reach is short
pub short_way : (v : Triple) (p : Point) → in_reach p ≡ true → in_reach (translated v p) ≡ true → Small 2000000000 v
short_way v p e f =
    let a = reached p e in
    let b = reached (translated v p) f in
    let d = divisor p e in
    record { x = short p.x v.x p.w a.x d b.x; y = short p.y v.y p.w a.y d b.y; z = short p.z v.z p.w a.z d b.z }

-- factors that keep a point in reach are small
pub small_factors : (v : Triple) (p : Point) → in_reach (rescaled v p) ≡ true → Small 1000 v
small_factors v p f =
    let m = v.x *ℤ v.y *ℤ v.z in
    let one = p.w *ℤ v.x in
    let two = p.w *ℤ v.x *ℤ v.y in
    let all = p.w *ℤ v.x *ℤ v.y *ℤ v.z in
    let s = abs_signed m all in
    let d = divisor (rescaled v p) f in
    let w = (reached (rescaled v p) f).w in
    let e3 = unsigned_abs-mul two v.z in
    let f3 = factors (nat_abs two) (nat_abs v.z) (omega (arith, s, d, e3)) in
    let e2 = unsigned_abs-mul one v.y in
    let f2 = factors (nat_abs one) (nat_abs v.y) (omega (arith, e2, f3.0)) in
    let e1 = unsigned_abs-mul p.w v.x in
    let f1 = factors (nat_abs p.w) (nat_abs v.x) (omega (arith, e1, f2.0)) in
    record { x = omega (arith, s, w, e3, f3.1, e2, f2.1, e1, f1.2); y = omega (arith, s, w, e3, f3.1, e2, f2.2); z = omega (arith, s, w, e3, f3.2) }

-- a point whose spot would need the impossible is gone
pub gone : (p : Point) → (in_reach p ≡ true → ⊥) → None ≡ spot_of p
gone p k = go (in_reach p) refl
  where
    go : (b : Bool) → in_reach p ≡ b → None ≡ cond b (Some p) None
    go true e = absurd (k e)
    go false e = refl
