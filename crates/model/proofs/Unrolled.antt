-- A program has the values of its unrolling. Assumes nothing.
use Rattle.std.proofs.Common.{◌≡◌, ℕ, ℤ, pos, ◌+ℤ◌, refl, ap, ◌∙◌}
use lib.IntN.{+ℤ_idr, *ℤ-zero}
use Rattle.model.specs.declared.node.Triple.{Triple}
use Rattle.model.specs.Placements.{at, triple, still, linear}
use Rattle.model.specs.Shapes.{Shape, run, runs}
use Rattle.model.specs.Syntax.{Solid}
use Rattle.model.specs.Unrolling.{programs, unroll, values, value, UnrolledValues}
use Rattle.model.proofs.Related.{keeps_run}

-- a vector without slope is the same at every index
linear_still : (c : ℤ) (i : ℕ) → linear c (pos 0) i ≡ c
linear_still c i = ap (λ z. c +ℤ z) (*ℤ-zero (pos i)) ∙ +ℤ_idr c

pub at_still : (i : ℕ) (v : Triple) → at i (still v) ≡ v
at_still i v = λ j. triple (linear_still v.x i j) (linear_still v.y i j) (linear_still v.z i j)

-- whatever solids are taken as, an unrolling is taken as its program
pub run_unrolled : {X : Type 0} (H : Shape X) (e : Solid) → run H (unroll e) 0 ≡ run H e 0
unfolding unroll run runs
run_unrolled H e =
    keeps_run programs H (λ x. run H x 0)
    (record {
      on_empty = refl;
      on_prim = λ k q. ap (H.prim k) (at_still 0 q);
      on_place = λ t v x. ap (λ u. H.place t u (run H x 0)) (at_still 0 v);
      on_join = λ o x y. refl;
    }) e 0

pub unrolled_values : (V : Type 0) → UnrolledValues V
unfolding value
unrolled_values V A f e p = ap (λ g. g p) (run_unrolled (values A f) e)
