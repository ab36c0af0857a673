-- Two lawful families side by side are a lawful family. Assumes nothing.
use Rattle.std.specs.Prelude.{◌≡◌, ℕ, ◌+◌, ◌*◌, ◌/◌, ◌%◌, ◌<◌, true, false, ℤ, pos, ◌<ℤ◌, Some, None, Option, refl}
use Rattle.std.proofs.Common.{sym, ◌∙◌, ap, subst, inl, inr, arith}
use Rattle.std.proofs.lemmas.Option.{none-some}
use Rattle.std.proofs.lemmas.Bool.{cases_Bool, eqb-true, eqb-false, cond-true, cond-false, eq-eqb, ne_eqb}
use Rattle.std.specs.Option.{option_map}
use Rattle.model.specs.declared.node.Triple.{Triple}
use Rattle.model.specs.declared.point.Point.{Point}
use Rattle.model.specs.declared.point.Primitive.{Primitive}
use Rattle.model.specs.Families.{Meaning, Laws, Absorbs, times}
use Rattle.family.specs.Beside.{beside, is_first, of_kind, own, outer}

-- where a mapped answer comes from
came_from : {X Y : Type 0} (f : X → Y) (o : Option X) (y : Y) → option_map f o ≡ Some y → (x : X) × ((o ≡ Some x) × (y ≡ f x))
came_from f None y e = absurd (none-some y e)
came_from f (Some x) y e = (x, (refl, cc))

-- a record keeps its kind where its own family's record does
pub outer_kind : (side : ℕ) (r q : Primitive) → r.kind % 2 ≡ side → q.kind ≡ r.kind / 2 → 2 * q.kind + side ≡ r.kind
outer_kind side r q e k = omega arith

-- the outer record's own is the record
own_outer : (side : ℕ) (q : Primitive) → side < 2 → own (outer side q) ≡ q
own_outer side q h = ap (λ (k : ℕ). of_kind k q) (halved q.kind)
  where
    halved : (k : ℕ) → (2 * k + side) / 2 ≡ k
    halved k = omega arith

module _ (m n : Meaning) (lm : Laws m) (ln : Laws n) where
  -- an illegal record contains nothing
  empty : (r : Primitive) (p : Point) → (beside m n).legal r ≡ false → (beside m n).contains r p ≡ false
  empty r p e =
      elim (cases_Bool (is_first r)) [
        | inl b ↦ cond-true (is_first r) _ _ b ∙ lm.illegal_empty (own r) p (sym (cond-true (is_first r) (m.legal (own r)) (n.legal (own r)) b) ∙ e)
        | inr b ↦ cond-false (is_first r) _ _ b ∙ ln.illegal_empty (own r) p (sym (cond-false (is_first r) (m.legal (own r)) (n.legal (own r)) b) ∙ e)
      ]

  -- a place is contained or not however it is written
  place : (r : Primitive) (p : Point) (k : ℤ) → pos 0 <ℤ p.w → pos 0 <ℤ k → (beside m n).contains r (times k p) ≡ (beside m n).contains r p
  place r p k w h = simp (lm.same_place (own r) p k w h, ln.same_place (own r) p k w h)

  -- the first family absorbs
  first_case : (r : Primitive) (f : Triple) (q : Primitive) → is_first r ≡ true → option_map (outer 0) (m.absorbed (own r) f) ≡ Some q → Absorbs (beside m n) r f q
  first_case r f q b e =
      let from = came_from (outer 0) (m.absorbed (own r) f) q e in
      let x = from.0 in
      let law = lm.absorbs (own r) f x from.1.0 in
      let back : own (outer 0 x) ≡ x = own_outer 0 x (omega arith) in
      let b2 : is_first (outer 0 x) ≡ true = eq-eqb ((2 * x.kind + 0) % 2) 0 (omega arith) in
      subst (λ (q : Primitive). Absorbs (beside m n) r f q) (sym from.1.1)
      (record {
        legal_before = cond-true (is_first r) _ _ b ∙ law.legal_before;
        no_zero = law.no_zero;
        legal_after = cond-true (is_first (outer 0 x)) _ _ b2 ∙ ap m.legal back ∙ law.legal_after;
        same_kind = outer_kind 0 r x (eqb-true (r.kind % 2) 0 b) law.same_kind;
        same_points = λ p h. cond-true (is_first (outer 0 x)) _ _ b2 ∙ ap (λ (y : Primitive). m.contains y p) back ∙ law.same_points p h ∙ sym (cond-true (is_first r) _ _ b);
      })

  -- the second does
  second_case : (r : Primitive) (f : Triple) (q : Primitive) → is_first r ≡ false → option_map (outer 1) (n.absorbed (own r) f) ≡ Some q → Absorbs (beside m n) r f q
  second_case r f q b e =
      let from = came_from (outer 1) (n.absorbed (own r) f) q e in
      let x = from.0 in
      let law = ln.absorbs (own r) f x from.1.0 in
      let back : own (outer 1 x) ≡ x = own_outer 1 x (omega arith) in
      let b2 : is_first (outer 1 x) ≡ false = ne_eqb ((2 * x.kind + 1) % 2) 0 (λ z. omega arith) in
      let ne : r.kind % 2 ≡ 0 → ⊥ = eqb-false (r.kind % 2) 0 b in
      let side : r.kind % 2 ≡ 1 = omega arith in
      subst (λ (q : Primitive). Absorbs (beside m n) r f q) (sym from.1.1)
      (record {
        legal_before = cond-false (is_first r) _ _ b ∙ law.legal_before;
        no_zero = law.no_zero;
        legal_after = cond-false (is_first (outer 1 x)) _ _ b2 ∙ ap n.legal back ∙ law.legal_after;
        same_kind = outer_kind 1 r x side law.same_kind;
        same_points = λ p h. cond-false (is_first (outer 1 x)) _ _ b2 ∙ ap (λ (y : Primitive). n.contains y p) back ∙ law.same_points p h ∙ sym (cond-false (is_first r) _ _ b);
      })

  -- either
  absorbing : (r : Primitive) (f : Triple) (q : Primitive) → (beside m n).absorbed r f ≡ Some q → Absorbs (beside m n) r f q
  absorbing r f q e =
      let one : Option Primitive = option_map (outer 0) (m.absorbed (own r) f) in
      let two : Option Primitive = option_map (outer 1) (n.absorbed (own r) f) in
      elim (cases_Bool (is_first r)) [
        | inl b ↦ first_case r f q b (sym (cond-true (is_first r) one two b) ∙ e)
        | inr b ↦ second_case r f q b (sym (cond-false (is_first r) one two b) ∙ e)
      ]

  -- the two are a lawful family
  pub beside_laws : Laws (beside m n)
  beside_laws = record { illegal_empty = empty; absorbs = absorbing; same_place = place }
