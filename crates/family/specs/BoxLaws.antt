-- A box keeps its points under another spelling of a point, and under positive factors. Assumes nothing.
use Rattle.std.specs.Prelude.{◌≡◌, ℕ, ◌*◌, ◌<◌, ℤ, pos, negsuc, ◌*ℤ◌, ◌<ℤ◌, refl}
use Rattle.std.proofs.Common.{sym, mul-pos, arith}
use Rattle.std.proofs.lemmas.Int.{ints}
use Rattle.model.specs.declared.point.Point.{Point}
use Rattle.model.specs.declared.point.Primitive.{Primitive}
use Rattle.model.specs.Families.{times, rescaled}
use Rattle.family.specs.Standard.{in_box, larger_box}
use Rattle.family.specs.Ring.{ring, *ℤ-left-comm}
use Rattle.family.specs.Scaled.{factors, between_times, and_same}

-- each face moves as the point's numbers do
pub box_place : (r : Primitive) (p : Point) (n : ℕ) → 0 < n → in_box r (times (pos n) p) ≡ in_box r p
box_place r p n h =
    and_same
    (and_same (between_times n h p.x (r.sizes.x *ℤ p.w) _ _ refl (*ℤ-left-comm r.sizes.x (pos n) p.w))
    (between_times n h p.y (r.sizes.y *ℤ p.w) _ _ refl (*ℤ-left-comm r.sizes.y (pos n) p.w)))
    (between_times n h p.z (r.sizes.z *ℤ p.w) _ _ refl (*ℤ-left-comm r.sizes.z (pos n) p.w))

-- a coordinate and the faces, with the common factor in front
turn : (x t u : ℤ) → x *ℤ t *ℤ u ≡ (t *ℤ u) *ℤ x
turn x t u = simp ring

face_x : (a w s t u : ℤ) → a *ℤ (w *ℤ s *ℤ t *ℤ u) ≡ (t *ℤ u) *ℤ ((a *ℤ s) *ℤ w)
face_x a w s t u = simp ring

face_y : (a w s t u : ℤ) → a *ℤ (w *ℤ s *ℤ t *ℤ u) ≡ (s *ℤ u) *ℤ ((a *ℤ t) *ℤ w)
face_y a w s t u = simp ring

face_z : (a w s t u : ℤ) → a *ℤ (w *ℤ s *ℤ t *ℤ u) ≡ (s *ℤ t) *ℤ ((a *ℤ u) *ℤ w)
face_z a w s t u = simp ring

-- the points of the larger box, by natural factors
natural_points : (r : Primitive) (s t u : ℕ) → 0 < s → 0 < t → 0 < u → (p : Point)
    → in_box (larger_box r (factors (pos s) (pos t) (pos u))) p ≡ in_box r (rescaled (factors (pos s) (pos t) (pos u)) p)
natural_points r s t u hs ht hu p =
    sym (and_same
    (and_same (between_times (t * u) (mul-pos ht hu) p.x ((r.sizes.x *ℤ pos s) *ℤ p.w) _ _ (turn p.x (pos t) (pos u)) (face_x r.sizes.x p.w (pos s) (pos t) (pos u)))
    (between_times (s * u) (mul-pos hs hu) p.y ((r.sizes.y *ℤ pos t) *ℤ p.w) _ _ (turn p.y (pos s) (pos u)) (face_y r.sizes.y p.w (pos s) (pos t) (pos u))))
    (between_times (s * t) (mul-pos hs ht) p.z ((r.sizes.z *ℤ pos u) *ℤ p.w) _ _ (turn p.z (pos s) (pos t)) (face_z r.sizes.z p.w (pos s) (pos t) (pos u))))

-- and by positive ones
pub box_points : (r : Primitive) (s t u : ℤ) → pos 0 <ℤ s → pos 0 <ℤ t → pos 0 <ℤ u → (p : Point)
    → in_box (larger_box r (factors s t u)) p ≡ in_box r (rescaled (factors s t u) p)
box_points r (pos s) (pos t) (pos u) hs ht hu p = natural_points r s t u (omega (arith, ints)) (omega (arith, ints)) (omega (arith, ints)) p
box_points r (negsuc s) t u hs ht hu p = absurd hs.lt
box_points r (pos s) (negsuc t) u hs ht hu p = absurd ht.lt
box_points r (pos s) (pos t) (negsuc u) hs ht hu p = absurd hu.lt
