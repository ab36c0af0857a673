-- The standard family keeps the laws of a family. Assumes nothing.
use Rattle.std.specs.Prelude.{◌≡◌, ℕ, zero, suc, ◌<◌, Bool, true, false, cond, ◌&&◌, ◌||◌, ℤ, pos, ◌*ℤ◌, ◌<ℤ◌, Some, None, Option, ◌==◌, ◌≢◌, int_le, int_lt, unsigned_abs, refl}
use Rattle.std.proofs.Common.{sym, ◌∙◌, ap, subst, inl, inr, arith}
use Rattle.std.proofs.lemmas.Int.{ints}
use Rattle.std.proofs.Math.IntN.{*ℤ-zero}
use Rattle.std.proofs.lemmas.Option.{none-some}
use Rattle.std.proofs.lemmas.Bool.{cases_Bool, true≢false, false≢true, and_parts, eqb-true, or_left, or_right, cond-true, cond-false}
use Rattle.model.specs.declared.node.Triple.{Triple}
use Rattle.model.specs.declared.point.Point.{Point}
use Rattle.model.specs.declared.point.Primitive.{Primitive}
use Rattle.model.specs.Families.{Laws, Absorbs, times, rescaled}
use Rattle.family.specs.Standard.{standard, is_size, is_box, is_cylinder, in_box, in_cylinder, holds, absorbed_by, when, larger_box, larger_cylinder, box_absorbed, cylinder_absorbed}
use Rattle.family.specs.Scaled.{factors, natural}
use Rattle.family.specs.BoxLaws.{box_place, box_points}
use Rattle.family.specs.CylinderLaws.{cylinder_place, cylinder_points}

-- the same place, by a natural factor
natural_place : (r : Primitive) (p : Point) (n : ℕ) → 0 < n → holds r (times (pos n) p) ≡ holds r p
natural_place r p n h = rw (box_place r p n h, cylinder_place r p n h) refl

-- and by any positive one
place : (r : Primitive) (p : Point) (k : ℤ) → pos 0 <ℤ k → holds r (times k p) ≡ holds r p
place r p k h =
    let n = natural k h in
    subst (λ (k : ℤ). holds r (times k p) ≡ holds r p) (sym n.1.0) (natural_place r p n.0 n.1.1)

-- an illegal record contains nothing
empty : (r : Primitive) (p : Point) → standard.legal r ≡ false → holds r p ≡ false
empty r p e = at (is_box r) (is_cylinder r) (in_box r p) (in_cylinder r p) e
  where
    at : (a b x y : Bool) → (a || b) ≡ false → cond a x (cond b y false) ≡ false
    at true b x y e = absurd (true≢false e)
    at false true x y e = absurd (true≢false e)
    at false false x y e = refl

-- an answer that rests on a test: the test, and the answer
when_some : {X : Type 0} (b : Bool) (x q : X) → when b x ≡ Some q → (b ≡ true) × (q ≡ x)
when_some true x q e = (refl, cc)
when_some false x q e = let z : ◌≡◌ {A = ℕ} 0 1 = cc in absurd (zero_one z)
  where
    zero_one : ◌≡◌ {A = ℕ} 0 1 → ⊥
    zero_one e = omega (arith, e)

-- what a box contains, and what a cylinder does
at_box : (r : Primitive) (p : Point) → is_box r ≡ true → holds r p ≡ in_box r p
at_box r p e = cond-true (is_box r) (in_box r p) (cond (is_cylinder r) (in_cylinder r p) false) e

at_cylinder : (r : Primitive) (p : Point) → is_box r ≡ false → is_cylinder r ≡ true → holds r p ≡ in_cylinder r p
at_cylinder r p e f = cond-false (is_box r) (in_box r p) (cond (is_cylinder r) (in_cylinder r p) false) e ∙ cond-true (is_cylinder r) (in_cylinder r p) false f

-- a positive factor is not 0
not_zero : (v : ℤ) → pos 0 <ℤ v → v ≢ pos 0
not_zero v h e = omega (arith, ints)

-- a box that absorbs
box_case : (r : Primitive) (f : Triple) (q : Primitive) → is_box r ≡ true → box_absorbed r f ≡ Some q → Absorbs standard r f q
box_case r f q b e =
    let big = larger_box r f in
    let w = when_some (int_lt (pos 0) f.x && int_lt (pos 0) f.y && int_lt (pos 0) f.z && is_box big) big q e in
    let tests = and_parts (int_lt (pos 0) f.x && int_lt (pos 0) f.y && int_lt (pos 0) f.z) (is_box big) w.0 in
    let xyz = and_parts (int_lt (pos 0) f.x && int_lt (pos 0) f.y) (int_lt (pos 0) f.z) tests.0 in
    let xy = and_parts (int_lt (pos 0) f.x) (int_lt (pos 0) f.y) xyz.0 in
    let hx : pos 0 <ℤ f.x = omega (arith, ints, xy.0) in
    let hy : pos 0 <ℤ f.y = omega (arith, ints, xy.1) in
    let hz : pos 0 <ℤ f.z = omega (arith, ints, xyz.1) in
    subst (λ (q : Primitive). Absorbs standard r f q) (sym w.1)
    (record {
      legal_before = or_left (is_box r) (is_cylinder r) b;
      no_zero = record { x = not_zero f.x hx; y = not_zero f.y hy; z = not_zero f.z hz };
      legal_after = or_left (is_box big) (is_cylinder big) tests.1;
      same_kind = refl;
      same_points = λ p h. at_box big p tests.1 ∙ box_points r f.x f.y f.z hx hy hz p ∙ sym (at_box r (rescaled f p) b);
    })

-- kind 2 is no box
no_box : (k : ℕ) (a b c : Bool) → (k == 2) ≡ true → (k == 1 && a && b && c) ≡ false
no_box k a b c e = subst (λ (k : ℕ). (k == 1 && a && b && c) ≡ false) (sym (eqb-true k 2 e)) refl

-- a cylinder that absorbs
cylinder_case : (r : Primitive) (f : Triple) (q : Primitive) → is_box r ≡ false → is_cylinder r ≡ true → cylinder_absorbed r f ≡ Some q → Absorbs standard r f q
cylinder_case r f q b cy e =
    let big = larger_cylinder r f in
    let w = when_some (unsigned_abs f.x == unsigned_abs f.y && int_lt (pos 0) f.z && is_cylinder big) big q e in
    let tests = and_parts (unsigned_abs f.x == unsigned_abs f.y && int_lt (pos 0) f.z) (is_cylinder big) w.0 in
    let round = and_parts (unsigned_abs f.x == unsigned_abs f.y) (int_lt (pos 0) f.z) tests.0 in
    let same = eqb-true (unsigned_abs f.x) (unsigned_abs f.y) round.0 in
    let hz : pos 0 <ℤ f.z = omega (arith, ints, round.1) in
    let n = natural f.z hz in
    let p1 = and_parts (big.kind == 2 && is_size big.sizes.x && is_size big.sizes.y) true tests.1 in
    let p2 = and_parts (big.kind == 2 && is_size big.sizes.x) (is_size big.sizes.y) p1.0 in
    let p3 = and_parts (big.kind == 2) (is_size big.sizes.x) p2.0 in
    let p4 = and_parts (int_le (pos 1) big.sizes.x) (int_le big.sizes.x (pos 1000000)) p3.1 in
    let hx : 0 < unsigned_abs f.x = wide r.sizes.x (unsigned_abs f.x) p4.0 in
    let hy : 0 < unsigned_abs f.y = subst (λ (k : ℕ). 0 < k) same hx in
    let nobox : is_box big ≡ false = no_box big.kind (is_size big.sizes.x) (is_size big.sizes.y) (is_size big.sizes.z) p3.0 in
    let points : (p : Point) → in_cylinder big p ≡ in_cylinder r (rescaled f p) = λ p.
    subst (λ (u : ℤ). in_cylinder (larger_cylinder r (factors f.x f.y u)) p ≡ in_cylinder r (rescaled (factors f.x f.y u) p)) (sym n.1.0)
    (cylinder_points r f.x f.y n.0 same hx n.1.1 p) in
    subst (λ (q : Primitive). Absorbs standard r f q) (sym w.1)
    (record {
      legal_before = or_right (is_box r) (is_cylinder r) cy;
      no_zero = record { x = sized f.x hx; y = sized f.y hy; z = not_zero f.z hz };
      legal_after = or_right (is_box big) (is_cylinder big) tests.1;
      same_kind = refl;
      same_points = λ p h. at_cylinder big p nobox tests.1 ∙ points p ∙ sym (at_cylinder r (rescaled f p) b cy);
    })
  where
    wide : (a : ℤ) (n : ℕ) → int_le (pos 1) (a *ℤ pos n) ≡ true → 0 < n
    wide a zero e = absurd (false≢true (sym (ap (λ z. int_le (pos 1) z) (*ℤ-zero a)) ∙ e))
    wide a (suc n) e = omega arith

    sized : (v : ℤ) → 0 < unsigned_abs v → v ≢ pos 0
    sized v h e = let z : 0 < unsigned_abs (pos 0) = subst (λ (v : ℤ). 0 < unsigned_abs v) e h in omega arith

-- either
absorbing : (r : Primitive) (f : Triple) (q : Primitive) → absorbed_by r f ≡ Some q → Absorbs standard r f q
absorbing r f q e =
    let rest : Option Primitive = cond (is_cylinder r) (cylinder_absorbed r f) None in
    elim (cases_Bool (is_box r)) [
      | inl b ↦ box_case r f q b (sym (cond-true (is_box r) (box_absorbed r f) rest b) ∙ e)
      | inr b ↦
          let g = sym (cond-false (is_box r) (box_absorbed r f) rest b) ∙ e in
          elim (cases_Bool (is_cylinder r)) [
            | inl cy ↦ cylinder_case r f q b cy (sym (cond-true (is_cylinder r) (cylinder_absorbed r f) None cy) ∙ g)
            | inr cy ↦ absurd (none-some q (sym (cond-false (is_cylinder r) (cylinder_absorbed r f) None cy) ∙ g))
          ]
    ]

-- the standard family is lawful
pub standard_laws : Laws standard
standard_laws = record { illegal_empty = empty; absorbs = absorbing; same_place = λ r p k w h. place r p k h }
