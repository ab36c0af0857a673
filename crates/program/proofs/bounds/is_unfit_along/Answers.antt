use Rattle.std.proofs.Common.{not, eqb, sym, ap, ◌∙◌, arith, w64, SFits, to_z, rules}
use mir.Syntax.{w128}
use Rattle.std.proofs.lemmas.Int.{to_z-of_z}
use Rattle.model.specs.Legality.{unfit}
use Rattle.program.proofs.Linears.{by_ends, unsloped}
use Rattle.program.proofs.bounds.is_unfit_along.Goals as goal

pub returns-in-Translate : goal.returns-in-Translate
returns-in-Translate c =
    let near = rw (to_z-of_z w128 c.at.result (search rules) ∙ c.at.ensures) at (sym c.if-is_unfit.ensures) in
    let far = rw (to_z-of_z w128 c.at-in-Translate.result (search rules) ∙ c.at-in-Translate.ensures) at c.is_unfit-in-Translate.ensures in
    let here = c.in-Translate.is in
    rw here (by_ends 1000000 c.args.number c.args.count (λ z. omega arith) (rw here at near) _ (rw here at far))

pub returns-else-number-ne0 : goal.returns-else-number-ne0
returns-else-number-ne0 c =
    let slope = c.args.number.slope in
    let fits : SFits w64 slope = search rules in
    let near = rw (to_z-of_z w128 c.at.result (search rules) ∙ c.at.ensures) at (sym c.if-is_unfit.ensures) in
    ap (λ n. not (eqb n 0)) c.if-number-ne0.false
    ∙ sym (unsloped (unfit c.args.placement) c.args.number c.args.count (sym (to_z-of_z w64 slope fits) ∙ ap (to_z w64) c.if-number-ne0.false) near)
