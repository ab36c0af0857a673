-- The walk through a tame program answers in the subject's words. Assumes nothing.
use Rattle.std.proofs.Common.{◌≡◌, ℕ, Bool, true, false, cond, not, ◌&&◌, ◌||◌, leb, ℤ, pos, negsuc, Some, None, Ok, Err, refl, ap, ◌∙◌, ap₂, arith}
use borrow.Author.Differences.{ints}
use lib.Signed.{le_z}
use Rattle.std.proofs.lemmas.Bool.{and_parts, not-true, not-false, le-leb}
use Rattle.model.specs.declared.node.Operator.{Operator}
use Rattle.model.specs.declared.node.Triple.{Triple}
use Rattle.model.specs.declared.point.Point.{Point}
use Rattle.model.specs.Families.{Meaning}
use Rattle.model.specs.Legality.{unkind}
use Rattle.model.specs.Placements.{placed}
use Rattle.model.specs.Shapes.{Shape, natural, run, runs}
use Rattle.model.specs.Syntax.{Solid}
use Rattle.model.specs.Tame.{small_vector, taming, tame}
use Rattle.model.specs.Unrolling.{programs, unroll, apply, belonging, primitive, values, value, contains}
use Rattle.model.proofs.Related.{related, Relates, keeps_run}
use Rattle.model.proofs.Unrolled.{at_still}
use Rattle.family.specs.Reaching.{in_reach}
use Rattle.probe.specs.declared.unprobed.Unprobed.TheVariants.{OutOfReach}
use Rattle.probe.specs.Probing.{straying, strays}
use Rattle.probe.specs.Walking.{both, Walk, walking, asked, verdict}

-- two ways to take solids side by side
abbrev beside : {X Y : Type 0} → Shape X → Shape Y → Shape (X × Y)
beside H K = record {
  empty = (H.empty, K.empty);
  prim = λ k q. (H.prim k q, K.prim k q);
  place = λ t v x. (H.place t v x.0, K.place t v x.1);
  join = λ o x y. (H.join o x.0 y.0, K.join o x.1 y.1);
}

first_of : {X Y : Type 0} (H : Shape X) (K : Shape Y) (e : Solid) (i : ℕ) → (run (beside H K) e i).0 ≡ run H e i
first_of H K = keeps_run (beside H K) H (λ x. x.0) (record { on_empty = refl; on_prim = λ k q. refl; on_place = λ t v x. refl; on_join = λ o x y. refl })

second_of : {X Y : Type 0} (H : Shape X) (K : Shape Y) (e : Solid) (i : ℕ) → (run (beside H K) e i).1 ≡ run K e i
second_of H K = keeps_run (beside H K) K (λ x. x.1) (record { on_empty = refl; on_prim = λ k q. refl; on_place = λ t v x. refl; on_join = λ o x y. refl })

-- a tame primitive is asked about
kind_fits : (k : ℤ) → not (unkind k) ≡ true → leb (natural k) 65535 ≡ true
kind_fits (pos n) e =
    let h = and_parts (le_z (pos 0) (pos n)) (le_z (pos n) (pos 65535)) (not-false (le_z (pos 0) (pos n) && le_z (pos n) (pos 65535)) (not-true (unkind (pos n)) e)) in
    le-leb n 65535 (omega (arith, ints, h.1))
kind_fits (negsuc n) e = refl

asks : (m : Meaning) (k : ℤ) (q : Triple) (p : Point) → (not (unkind k) && small_vector q) ≡ true → (asked m).contains (primitive k q) p ≡ m.contains (primitive k q) p
asks m k q p e =
    let h = and_parts (not (unkind k)) (small_vector q) e in
    λ i. (kind_fits k h.0 i && h.1 i) && m.contains (primitive k q) p

-- tame, where it strays, and what it contains
abbrev Told : Type 0
Told = Bool × ((Bool → Point → Bool) × (Point → Bool))

pub record Says (s : Bool → Point → Bool) (c : Point → Bool) (w : Walk) : Type 0 where
  pub here : (p : Point) → w.says (Some p) ≡ cond (s false p) None (Some (c p))
  pub gone : (p : Point) → w.says None ≡ cond (s true p) None (Some (c p))

abbrev R : Told → Walk → Type 0
R x w = x.0 ≡ true → Says x.1.0 x.1.1 w

joined : (o : Operator) (a b c d : Bool) → both o (cond a None (Some c)) (cond b None (Some d)) ≡ cond (a || b) None (Some (apply belonging o c d))
joined o true b c d = refl
joined o false true c d = refl
joined o false false c d = refl

placed_on : (s : Bool → Point → Bool) (c : Point → Bool) (w : Walk) (p : Point) → ((q : Point) → w.says (Some q) ≡ cond (s false q) None (Some (c q))) → ((q : Point) → w.says None ≡ cond (s true q) None (Some (c q)))
    → (r : Bool) → w.says (cond r (Some p) None) ≡ cond (s (false || not r) p) None (Some (c p))
placed_on s c w p h g true = h p
placed_on s c w p h g false = g p

module _ (m : Meaning) where
  abbrev all_told : Shape Told
  all_told = beside taming (beside straying (values belonging m.contains))

  relates : Relates all_told (walking (asked m)) R
  relates = record {
    on_empty = λ e. record { here = λ p. refl; gone = λ p. refl };
    on_prim = λ k q e. record { here = λ p. ap Some (asks m k q p e); gone = λ p. refl };
    on_place = λ t v x w r e. let h = r (and_parts (small_vector v) x.0 e).1 in record {
      here = λ p. placed_on x.1.0 x.1.1 w (placed t v p) h.here h.gone (in_reach (placed t v p));
      gone = λ p. h.gone (placed t v p);
    };
    on_join = λ o x y w u r s e. let t = and_parts x.0 y.0 e in let h = r t.0 in let g = s t.1 in record {
      here = λ p. ap₂ (both o) (h.here p) (g.here p) ∙ joined o (x.1.0 false p) (y.1.0 false p) (x.1.1 p) (y.1.1 p);
      gone = λ p. ap₂ (both o) (h.gone p) (g.gone p) ∙ joined o (x.1.0 true p) (y.1.0 true p) (x.1.1 p) (y.1.1 p);
    };
  }

  -- what the walk says at a point
  pub says_is : (e : Solid) (p : Point) → tame e ≡ true → (run (walking (asked m)) e 0).says (Some p) ≡ cond (strays e p) None (Some (contains m e p))
  unfolding tame strays value
  says_is e p t =
      let K = beside straying (values belonging m.contains) in
      let x = run all_told e 0 in
      let s : x.1.0 false p ≡ strays e p = ap (λ f. f.0 false p) (second_of taming K e 0) ∙ ap (λ f. f false p) (first_of straying (values belonging m.contains) e 0) in
      let c : x.1.1 p ≡ contains m e p = ap (λ f. f.1 p) (second_of taming K e 0) ∙ ap (λ f. f p) (second_of straying (values belonging m.contains) e 0) in
      (related all_told (walking (asked m)) R relates e 0 (first_of taming K e 0 ∙ t)).here p ∙ ap₂ (λ a b. cond a None (Some b)) s c

-- a point strays in a program as in its unrolling
pub unrolled_strays : (e : Solid) (p : Point) → strays (unroll e) p ≡ strays e p
unfolding strays unroll run runs
unrolled_strays e p = ap (λ f. f false p) (keeps_run programs straying (λ x. run straying x 0) (record {
  on_empty = refl;
  on_prim = λ k q. refl;
  on_place = λ t v x. ap (λ u lost r. run straying x 0 (lost || not (in_reach (placed t u r))) (placed t u r)) (at_still 0 v);
  on_join = λ o x y. refl;
}) e 0)

pub verdict_is : (a b : Bool) → verdict (cond a None (Some b)) ≡ cond a (Err OutOfReach) (Ok b)
verdict_is true b = refl
verdict_is false b = refl
