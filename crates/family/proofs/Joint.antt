-- Sizes that each rest on a test make a record that rests on all the tests.
use Rattle.std.proofs.Common.{◌≡◌, ℕ, zero, suc, ◌*◌, Bool, true, false, ◌&&◌, eqb, ℤ, pos, negsuc, neg_ℤ, ◌*ℤ◌, nat_abs, ◌≤ℤ◌, Some, Option, sym, refl, ap, ◌∙◌, subst, arith}
use borrow.Author.Differences.{ints}
use lib.Signed.{le_z, lt_z}
use Rattle.family.specs.Scaled.{and_same}
use Rattle.std.proofs.Math.IntN.{*ℤ-zero}
use Rattle.std.proofs.lemmas.Bool.{and_parts, lt-ltb}
use Rattle.model.specs.declared.node.Triple.{Triple}
use Rattle.model.specs.declared.point.Primitive.{Primitive}
use Rattle.model.specs.Bytes.{is_zero}
use Rattle.family.specs.Standard.{when, joint, is_size, is_box, is_cylinder, larger_box, larger_cylinder, box_absorbed, cylinder_absorbed}

joint_when : (k : ℕ) (x y z : ℤ) (a b c : Bool)
    → joint k (when a x) (when b y) (when c z) ≡ when (a && b && c) (record { kind = k; sizes = record { x = x; y = y; z = z } })
joint_when k x y z false b c = refl
joint_when k x y z true false c = refl
joint_when k x y z true true false = refl
joint_when k x y z true true true = refl

-- the tests of the factors first, and then those of the sizes
box_tests : (s p t q u r : Bool) → ((s && p) && (t && q) && (u && r)) ≡ (s && t && u && (true && p && q && r))
box_tests false p t q u r = refl
box_tests true false false q u r = refl
box_tests true false true q false r = refl
box_tests true false true q true r = refl
box_tests true true false q u r = refl
box_tests true true true false false r = refl
box_tests true true true false true r = refl
box_tests true true true true u r = refl

cylinder_tests : (p u q : Bool) → (p && (u && q) && true) ≡ (true && u && (true && p && q && true))
cylinder_tests false false q = refl
cylinder_tests false true q = refl
cylinder_tests true false q = refl
cylinder_tests true true q = refl

positive_size : (v : ℤ) → is_size v ≡ true → pos 1 ≤ℤ v
positive_size v e = let h = and_parts (le_z (pos 1) v) (le_z v (pos 1000000)) e in omega (arith, ints, h.0)

negative : (k : ℕ) → false ≡ is_size (neg_ℤ (pos k))
negative zero = refl
negative (suc k) = refl

-- a size stays one only under a positive factor
factor_test : (a s : ℤ) → pos 1 ≤ℤ a → is_size (a *ℤ s) ≡ (lt_z (pos 0) s && is_size (a *ℤ s))
factor_test a (pos zero) h = rw (*ℤ-zero a) refl
factor_test a (pos (suc n)) h = rw (lt-ltb 0 (suc n) (omega arith)) refl
factor_test (pos m) (negsuc n) h = sym (negative (m * suc n))
factor_test (negsuc m) (negsuc n) h = absurd (omega (arith, ints))

-- a value, if it is a size
abbrev pub sized : ℤ → Option ℤ
sized v = when (is_size v) v

pub box_joint : (r : Primitive) (f : Triple) → is_box r ≡ true
    → joint r.kind (sized (r.sizes.x *ℤ f.x)) (sized (r.sizes.y *ℤ f.y)) (sized (r.sizes.z *ℤ f.z)) ≡ box_absorbed r f
box_joint r f e =
    let d = and_parts (eqb r.kind 1 && is_size r.sizes.x && is_size r.sizes.y) (is_size r.sizes.z) e in
    let g = and_parts (eqb r.kind 1 && is_size r.sizes.x) (is_size r.sizes.y) d.0 in
    let h = and_parts (eqb r.kind 1) (is_size r.sizes.x) g.0 in
    let a = lt_z (pos 0) f.x in
    let b = lt_z (pos 0) f.y in
    let c = lt_z (pos 0) f.z in
    let x = r.sizes.x *ℤ f.x in
    let y = r.sizes.y *ℤ f.y in
    let z = r.sizes.z *ℤ f.z in
    joint_when r.kind x y z (is_size x) (is_size y) (is_size z)
    ∙ ap (λ (t : Bool). when t (larger_box r f))
    (and_same (and_same (factor_test r.sizes.x f.x (positive_size r.sizes.x h.1)) (factor_test r.sizes.y f.y (positive_size r.sizes.y g.1))) (factor_test r.sizes.z f.z (positive_size r.sizes.z d.1))
    ∙ subst (λ (k : Bool). ((a && is_size x) && (b && is_size y) && (c && is_size z)) ≡ (a && b && c && (k && is_size x && is_size y && is_size z)))
    (sym h.0) (box_tests a (is_size x) b (is_size y) c (is_size z)))

pub cylinder_joint : (r : Primitive) (f : Triple) → is_cylinder r ≡ true → eqb (nat_abs f.x) (nat_abs f.y) ≡ true
    → joint r.kind (sized (r.sizes.x *ℤ pos (nat_abs f.x))) (sized (r.sizes.y *ℤ f.z)) (Some (pos 0)) ≡ cylinder_absorbed r f
cylinder_joint r f e g =
    let d = and_parts (eqb r.kind 2 && is_size r.sizes.x && is_size r.sizes.y) (is_zero r.sizes.z) e in
    let h = and_parts (eqb r.kind 2 && is_size r.sizes.x) (is_size r.sizes.y) d.0 in
    let kind = and_parts (eqb r.kind 2) (is_size r.sizes.x) h.0 in
    let u = lt_z (pos 0) f.z in
    let x = r.sizes.x *ℤ pos (nat_abs f.x) in
    let y = r.sizes.y *ℤ f.z in
    joint_when r.kind x y (pos 0) (is_size x) (is_size y) true
    ∙ ap (λ (t : Bool). when t (larger_cylinder r f))
    (and_same (and_same refl (factor_test r.sizes.y f.z (positive_size r.sizes.y h.1))) refl
    ∙ subst (λ (m : Bool). (is_size x && (u && is_size y) && true) ≡ (m && u && (eqb r.kind 2 && is_size x && is_size y && true))) (sym g)
    (subst (λ (k : Bool). (is_size x && (u && is_size y) && true) ≡ (true && u && (k && is_size x && is_size y && true))) (sym kind.0)
    (cylinder_tests (is_size x) u (is_size y))))
