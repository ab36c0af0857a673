-- A cylinder keeps its points under another spelling of a point, and under the factors that it absorbs. Assumes nothing.
use Rattle.std.specs.Prelude.{◌≡◌, ℕ, zero, suc, ◌*◌, ◌<◌, false, ℤ, pos, negsuc, ◌+ℤ◌, ◌*ℤ◌, neg_ℤ, unsigned_abs, refl}
use Rattle.std.proofs.Common.{sym, subst, mul-pos, arith}
use Rattle.std.specs.Int.Signed.{non_neg}
use Rattle.model.specs.declared.point.Point.{Point}
use Rattle.model.specs.declared.point.Primitive.{Primitive}
use Rattle.model.specs.Families.{times, rescaled}
use Rattle.family.specs.Standard.{in_cylinder, larger_cylinder}
use Rattle.family.specs.Ring.{ring, *ℤ-left-comm}
use Rattle.family.specs.Scaled.{factors, le_times, between_times, and_same}

-- squares, with the square of the common factor in front
squares : (k x y : ℤ) → (k *ℤ x) *ℤ (k *ℤ x) +ℤ (k *ℤ y) *ℤ (k *ℤ y) ≡ (k *ℤ k) *ℤ (x *ℤ x +ℤ y *ℤ y)
squares k x y = simp ring

square : (a k w : ℤ) → (a *ℤ (k *ℤ w)) *ℤ (a *ℤ (k *ℤ w)) ≡ (k *ℤ k) *ℤ ((a *ℤ w) *ℤ (a *ℤ w))
square a k w = simp ring

-- the circle's squares grow by the square of the factor
pub cylinder_place : (r : Primitive) (p : Point) (n : ℕ) → 0 < n → in_cylinder r (times (pos n) p) ≡ in_cylinder r p
cylinder_place r p n h =
    and_same
    (le_times (n * n) (mul-pos h h) (p.x *ℤ p.x +ℤ p.y *ℤ p.y) ((r.sizes.x *ℤ p.w) *ℤ (r.sizes.x *ℤ p.w)) _ _ (squares (pos n) p.x p.y) (square r.sizes.x (pos n) p.w))
    (between_times n h p.z (r.sizes.y *ℤ p.w) _ _ refl (*ℤ-left-comm r.sizes.y (pos n) p.w))

-- the radius and the height of the larger cylinder, with the common factor in front
wide : (n u a w : ℤ) → (a *ℤ (n *ℤ n *ℤ u *ℤ w)) *ℤ (a *ℤ (n *ℤ n *ℤ u *ℤ w)) ≡ (n *ℤ u *ℤ (n *ℤ u)) *ℤ (((a *ℤ n) *ℤ w) *ℤ ((a *ℤ n) *ℤ w))
wide n u a w = simp ring

high : (n u b w : ℤ) → b *ℤ (n *ℤ n *ℤ u *ℤ w) ≡ (n *ℤ n) *ℤ ((b *ℤ u) *ℤ w)
high n u b w = simp ring

both : (k a b : ℤ) → k *ℤ a +ℤ k *ℤ b ≡ k *ℤ (a +ℤ b)
both k a b = simp ring

-- what makes a point that scaling gives, whatever the signs of the factors
from_squares : (r : Primitive) (s t : ℤ) (n u : ℕ) → unsigned_abs s ≡ n → 0 < n → 0 < u → (p v : Point)
    → v.x *ℤ v.x ≡ pos (n * u * (n * u)) *ℤ (p.x *ℤ p.x)
    → v.y *ℤ v.y ≡ pos (n * u * (n * u)) *ℤ (p.y *ℤ p.y)
    → v.z ≡ pos (n * n) *ℤ p.z
    → v.w ≡ pos n *ℤ pos n *ℤ pos u *ℤ p.w
    → in_cylinder (larger_cylinder r (factors s t (pos u))) p ≡ in_cylinder r v
from_squares r s t n u hn hp hu p v ex ey ez ew =
    let nu : 0 < n * u = mul-pos hp hu in
    let sum : v.x *ℤ v.x +ℤ v.y *ℤ v.y ≡ pos (n * u * (n * u)) *ℤ (p.x *ℤ p.x +ℤ p.y *ℤ p.y) = rw (ex, ey) (both (pos (n * u * (n * u))) (p.x *ℤ p.x) (p.y *ℤ p.y)) in
    let aw : (r.sizes.x *ℤ v.w) *ℤ (r.sizes.x *ℤ v.w) ≡ pos (n * u * (n * u)) *ℤ (((r.sizes.x *ℤ pos n) *ℤ p.w) *ℤ ((r.sizes.x *ℤ pos n) *ℤ p.w)) = rw ew (wide (pos n) (pos u) r.sizes.x p.w) in
    let bw : r.sizes.y *ℤ v.w ≡ pos (n * n) *ℤ ((r.sizes.y *ℤ pos u) *ℤ p.w) = rw ew (high (pos n) (pos u) r.sizes.y p.w) in
    rw hn
    (sym (and_same (le_times (n * u * (n * u)) (mul-pos nu nu) (p.x *ℤ p.x +ℤ p.y *ℤ p.y) (((r.sizes.x *ℤ pos n) *ℤ p.w) *ℤ ((r.sizes.x *ℤ pos n) *ℤ p.w)) _ _ sum aw)
    (between_times (n * n) (mul-pos hp hp) p.z ((r.sizes.y *ℤ pos u) *ℤ p.w) _ _ ez bw)))

-- the square of a coordinate, the height and w under each choice of signs
sq_plain : (x n u : ℤ) → (x *ℤ n *ℤ u) *ℤ (x *ℤ n *ℤ u) ≡ (n *ℤ u *ℤ (n *ℤ u)) *ℤ (x *ℤ x)
sq_plain x n u = simp ring

sq_inner : (x n u : ℤ) → (x *ℤ neg_ℤ n *ℤ u) *ℤ (x *ℤ neg_ℤ n *ℤ u) ≡ (n *ℤ u *ℤ (n *ℤ u)) *ℤ (x *ℤ x)
sq_inner x n u = simp ring

sq_outer : (x n u : ℤ) → neg_ℤ (x *ℤ n *ℤ u) *ℤ neg_ℤ (x *ℤ n *ℤ u) ≡ (n *ℤ u *ℤ (n *ℤ u)) *ℤ (x *ℤ x)
sq_outer x n u = simp ring

sq_both : (x n u : ℤ) → neg_ℤ (x *ℤ neg_ℤ n *ℤ u) *ℤ neg_ℤ (x *ℤ neg_ℤ n *ℤ u) ≡ (n *ℤ u *ℤ (n *ℤ u)) *ℤ (x *ℤ x)
sq_both x n u = simp ring

z_plain : (z n : ℤ) → z *ℤ n *ℤ n ≡ (n *ℤ n) *ℤ z
z_plain z n = simp ring

z_twice : (z n : ℤ) → z *ℤ neg_ℤ n *ℤ neg_ℤ n ≡ (n *ℤ n) *ℤ z
z_twice z n = simp ring

z_right : (z n : ℤ) → neg_ℤ (z *ℤ n *ℤ neg_ℤ n) ≡ (n *ℤ n) *ℤ z
z_right z n = simp ring

z_left : (z n : ℤ) → neg_ℤ (z *ℤ neg_ℤ n *ℤ n) ≡ (n *ℤ n) *ℤ z
z_left z n = simp ring

w_plain : (w n u : ℤ) → w *ℤ n *ℤ n *ℤ u ≡ n *ℤ n *ℤ u *ℤ w
w_plain w n u = simp ring

w_twice : (w n u : ℤ) → w *ℤ neg_ℤ n *ℤ neg_ℤ n *ℤ u ≡ n *ℤ n *ℤ u *ℤ w
w_twice w n u = simp ring

w_right : (w n u : ℤ) → neg_ℤ (w *ℤ n *ℤ neg_ℤ n *ℤ u) ≡ n *ℤ n *ℤ u *ℤ w
w_right w n u = simp ring

w_left : (w n u : ℤ) → neg_ℤ (w *ℤ neg_ℤ n *ℤ n *ℤ u) ≡ n *ℤ n *ℤ u *ℤ w
w_left w n u = simp ring

-- the sign of the factors' product
odd_right : (n u : ℤ) → n *ℤ neg_ℤ n *ℤ u ≡ neg_ℤ (n *ℤ n *ℤ u)
odd_right n u = simp ring

odd_left : (n u : ℤ) → neg_ℤ n *ℤ n *ℤ u ≡ neg_ℤ (n *ℤ n *ℤ u)
odd_left n u = simp ring

negative : (k : ℕ) → 0 < k → non_neg (neg_ℤ (pos k)) ≡ false
negative zero h = elim h [ ]
negative (suc k) h = refl

-- the larger cylinder contains the points of the scaled one
pub cylinder_points : (r : Primitive) (s t : ℤ) (u : ℕ) → unsigned_abs s ≡ unsigned_abs t → 0 < unsigned_abs s → 0 < u → (p : Point)
    → in_cylinder (larger_cylinder r (factors s t (pos u))) p ≡ in_cylinder r (rescaled (factors s t (pos u)) p)
cylinder_points r (pos n) (pos m) u e hn hu p =
    subst (λ (m : ℕ). in_cylinder (larger_cylinder r (factors (pos n) (pos m) (pos u))) p ≡ in_cylinder r (rescaled (factors (pos n) (pos m) (pos u)) p)) e
    (from_squares r (pos n) (pos n) n u refl hn hu p (rescaled (factors (pos n) (pos n) (pos u)) p)
    (sq_plain p.x (pos n) (pos u)) (sq_plain p.y (pos n) (pos u)) (z_plain p.z (pos n)) (w_plain p.w (pos n) (pos u)))
cylinder_points r (negsuc n) (negsuc m) u e hn hu p =
    let same : n ≡ m = omega arith in
    subst (λ (m : ℕ). in_cylinder (larger_cylinder r (factors (negsuc n) (negsuc m) (pos u))) p ≡ in_cylinder r (rescaled (factors (negsuc n) (negsuc m) (pos u)) p)) same
    (from_squares r (negsuc n) (negsuc n) (suc n) u refl hn hu p (rescaled (factors (negsuc n) (negsuc n) (pos u)) p)
    (sq_inner p.x (pos (suc n)) (pos u)) (sq_inner p.y (pos (suc n)) (pos u)) (z_twice p.z (pos (suc n))) (w_twice p.w (pos (suc n)) (pos u)))
cylinder_points r (pos n) (negsuc m) u e hn hu p =
    let k : ℕ = suc m in
    let hk : 0 < k = omega arith in
    let sign : non_neg (pos k *ℤ negsuc m *ℤ pos u) ≡ false = rw (odd_right (pos k) (pos u)) (negative (k * k * u) (mul-pos (mul-pos hk hk) hu)) in
    subst (λ (n : ℕ). in_cylinder (larger_cylinder r (factors (pos n) (negsuc m) (pos u))) p ≡ in_cylinder r (rescaled (factors (pos n) (negsuc m) (pos u)) p)) (sym e)
    (from_squares r (pos k) (negsuc m) k u refl hk hu p (rescaled (factors (pos k) (negsuc m) (pos u)) p)
    (rw sign (sq_both p.x (pos k) (pos u))) (rw sign (sq_outer p.y (pos k) (pos u))) (rw sign (z_right p.z (pos k))) (rw sign (w_right p.w (pos k) (pos u))))
cylinder_points r (negsuc m) (pos n) u e hn hu p =
    let k : ℕ = suc m in
    let sign : non_neg (negsuc m *ℤ pos k *ℤ pos u) ≡ false = rw (odd_left (pos k) (pos u)) (negative (k * k * u) (mul-pos (mul-pos hn hn) hu)) in
    subst (λ (n : ℕ). in_cylinder (larger_cylinder r (factors (negsuc m) (pos n) (pos u))) p ≡ in_cylinder r (rescaled (factors (negsuc m) (pos n) (pos u)) p)) e
    (from_squares r (negsuc m) (pos k) k u refl hn hu p (rescaled (factors (negsuc m) (pos k) (pos u)) p)
    (rw sign (sq_outer p.x (pos k) (pos u))) (rw sign (sq_both p.y (pos k) (pos u))) (rw sign (z_left p.z (pos k))) (rw sign (w_left p.w (pos k) (pos u))))
