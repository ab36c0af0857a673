use Rattle.std.proofs.Common.{◌≡◌, Bool, cond, Some, None, sym, ap, ◌∙◌}
use Rattle.std.proofs.lemmas.Bool.{cond-true}
use Rattle.std.proofs.lemmas.Option.{cond_some}
use Rattle.model.specs.declared.point.Point.{Point}
use Rattle.model.specs.declared.point.Primitive.{Primitive}
use Rattle.family.specs.declared.family.Reach.TheVariants.{In, Out, OutOfReach}
use Rattle.family.specs.Reaching.{in_reach, reach}
use Rattle.family.specs.Standard.{standard, holds}
use Rattle.family.proofs.standard.StandardFamily.contains.Goals as goal

-- what is answered of a point that is in reach
answered : (r : Primitive) (p q : Point) → cond (in_reach p) (Some p) None ≡ Some q → cond (holds r q) In Out ≡ reach standard r p
answered r p q e =
    let s = cond_some (in_reach p) p q e in
    ap (λ (p : Point). cond (holds r p) In Out) (sym s.1) ∙ sym (cond-true (in_reach p) (cond (holds r p) In Out) OutOfReach s.0)

pub returns-then-holds : goal.returns-then-holds
returns-then-holds c =
    ap (λ (b : Bool). cond b In Out) (sym c.if-holds.true ∙ c.holds.ensures) ∙ answered c.args.primitive.now c.args.at.now c.in-Some.at (sym c.new.ensures ∙ c.in-Some.is)

pub returns-else-holds : goal.returns-else-holds
returns-else-holds c =
    ap (λ (b : Bool). cond b In Out) (sym c.if-holds.false ∙ c.holds.ensures) ∙ answered c.args.primitive.now c.args.at.now c.in-Some.at (sym c.new.ensures ∙ c.in-Some.is)
