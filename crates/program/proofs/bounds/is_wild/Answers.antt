use Rattle.std.proofs.Common.{◌≡◌, Bool, false, ◌||◌, sym, ap, ◌∙◌, arith}
use Rattle.std.proofs.lemmas.Bool.Decides.{nat_tests}
use Rattle.model.specs.Legality.{unfit}
use Rattle.program.specs.Judging.{some_axis_along}
use Rattle.program.proofs.Indices.{by_axis}
use Rattle.program.proofs.bounds.is_wild.Goals as goal

neither : (a b d e : Bool) → false ≡ a → false ≡ b → d ≡ e → d ≡ a || (b || e)
neither a b d e p q r = grind (arith, nat_tests)

pub returns : goal.returns
returns c =
    let v = c.args.v in
    let t = c.args.placement in
    neither _ _ _ _ c.if-is_beyond.ensures c.if-is_beyond-2.ensures
    (c.is_unfit_somewhere.ensures ∙ ap (some_axis_along (unfit t) v) c.turns_around.ensures ∙ sym (by_axis (unfit t) v c.args.context.around))
