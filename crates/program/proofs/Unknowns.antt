-- Primitives that a family finds legal at every index, or illegal at some. Assumes nothing.
use Rattle.std.proofs.Common.{◌≡◌, ℕ, suc, ◌<◌, min, Bool, true, false, cond, not, ◌||◌, eqb, ℤ, pos, negsuc, ◌+ℤ◌, nat_abs, Option, sym, refl, ap, ◌∙◌, subst, inl, inr, mul-zero, arith}
use Rattle.std.proofs.lemmas.Bool.{true≢false, eqb-true, not-false, or_parts, or_right, cases_Bool}
use Rattle.model.specs.declared.law.Context.{Context}
use Rattle.model.specs.declared.node.Linear.{Linear}
use Rattle.model.specs.declared.node.Placement.TheVariants.{Translate}
use Rattle.model.specs.Families.{Meaning}
use Rattle.model.specs.declared.node.Triple.{Triple}
use Rattle.model.specs.Placements.{linear, at, triple}
use Rattle.model.specs.Shapes.{natural}
use Rattle.model.specs.Unrolling.{primitive}
use Rattle.model.specs.Legality.{some_axis, nonzero, beyond, unkind, wild, unknown}
use Rattle.program.specs.Judging.{some_below, turns, turns_asked, illegal}
use Rattle.program.proofs.Indices.{over_indices, some_is, same_below, first_is_enough}

-- a kind that is allowed is no negative number
pub kind_is : (k : ℤ) → unkind k ≡ false → nat_abs k ≡ natural k
kind_is (pos n) e = refl
kind_is (negsuc n) e = absurd (true≢false e)

-- sizes that are too large at some index
pub never_beyond : (c : Context) (v : Linear) (i : ℕ) → i < turns c.around → some_axis (beyond 1000000) (at i v) ≡ true → wild Translate c v ≡ false → ⊥
never_beyond c v i h e w =
    let some = over_indices (λ j. some_axis (beyond 1000000) (at j v)) c.around ∙ some_is (λ j. some_axis (beyond 1000000) (at j v)) (turns c.around) i h e in
    true≢false (sym (or_right (some_axis (beyond 1000000) v.constant) _ (or_right (some_axis (beyond 1000000) v.slope) _ some)) ∙ w)

-- ---- a vector without slope
level : (z : ℤ) → nonzero z ≡ false → z ≡ pos 0
level (pos n) e = ap pos (eqb-true n 0 (not-false (eqb n 0) e))
level (negsuc n) e = absurd (let z = eqb-true (suc n) 0 (not-false (eqb (suc n) 0) e) in omega arith)

still_at : (v : Linear) (i : ℕ) → some_axis nonzero v.slope ≡ false → at i v ≡ at 0 v
still_at v i e =
    let x = or_parts (nonzero v.slope.x) (nonzero v.slope.y || nonzero v.slope.z) e in
    let yz = or_parts (nonzero v.slope.y) (nonzero v.slope.z) x.1 in
    let px = same v.constant.x v.slope.x (level v.slope.x x.0) in
    let py = same v.constant.y v.slope.y (level v.slope.y yz.0) in
    let pz = same v.constant.z v.slope.z (level v.slope.z yz.1) in
    λ k. triple (px k) (py k) (pz k)
  where
    same : (c s : ℤ) → s ≡ pos 0 → linear c s i ≡ linear c s 0
    same c s p = subst (λ t. linear c t i ≡ linear c t 0) (sym p) (ap (λ n. c +ℤ pos n) (mul-zero i))

-- a test of a vector is asked at as many indices as it takes
all_asked : (f : Triple → Bool) (around : Option ℤ) (v : Linear) → some_below (λ i. f (at i v)) (turns_asked around v) ≡ some_below (λ i. f (at i v)) (turns around)
all_asked f around v =
    let P : Bool → Type 0 = λ b. some_below (λ i. f (at i v)) (cond b (turns around) (min (turns around) 1)) ≡ some_below (λ i. f (at i v)) (turns around) in
    elim (cases_Bool (some_axis nonzero v.slope)) [
      | inl e ↦ subst P (sym e) refl
      | inr e ↦ subst P (sym e) (first_is_enough (λ i. f (at i v)) (turns around) (λ i. ap f (still_at v i e)))
    ]

-- a kind and sizes that are allowed are unknown if they are illegal at some index that is asked
pub unknown_is : (m : Meaning) (c : Context) (k : ℤ) (v : Linear) → unkind k ≡ false → wild Translate c v ≡ false → some_below (λ i. illegal m (nat_abs k) (at i v)) (turns_asked c.around v) ≡ unknown m c k v
unknown_is m c k v hk hw =
    all_asked (illegal m (nat_abs k)) c.around v
    ∙ same_below _ (λ i. not (m.legal (primitive k (at i v)))) (turns c.around) each
    ∙ sym (over_indices (λ i. not (m.legal (primitive k (at i v)))) c.around)
  where
    each : (i : ℕ) → i < turns c.around → illegal m (nat_abs k) (at i v) ≡ not (m.legal (primitive k (at i v)))
    each i h =
        elim (cases_Bool (some_axis (beyond 1000000) (at i v))) [
          | inl e ↦ absurd (never_beyond c v i h e hw)
          | inr e ↦ ap (λ b. b || not (m.legal (record { kind = nat_abs k; sizes = at i v }))) e ∙ ap (λ n. not (m.legal (record { kind = n; sizes = at i v }))) (kind_is k hk)
        ]
