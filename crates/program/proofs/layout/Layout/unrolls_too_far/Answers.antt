use Rattle.std.proofs.Common.{ltb, ap, ◌∙◌}
use Rattle.model.specs.Limits.{most_unrolled}
use Rattle.model.specs.Counts.{weight}
use Rattle.model.specs.Tables.{held}
use Rattle.program.specs.declared.measure.Measure.{Measure}
use Rattle.program.proofs.Layouts.{tells_whole, past_cap}
use Rattle.program.proofs.layout.Layout.unrolls_too_far.Goals as goal

pub returns : goal.returns
returns c =
    let l = c.args.self.now in
    let told = c.measure_at.ensures.is ∙ tells_whole l in
    ap (λ (t : Measure). ltb most_unrolled t.unrolled) told ∙ past_cap (weight (held l.table))
