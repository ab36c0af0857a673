use Rattle.model.specs.Tables.{held}
use Rattle.program.proofs.Faults.{too_far, near_enough, not_primitives}
use Rattle.program.proofs.layout.Layout.culprit.Goals as goal

pub returns-then-unrolls_too_far : goal.returns-then-unrolls_too_far
returns-then-unrolls_too_far g c =
    too_far (g.F.Family.meaning c.args.family.now) (held c.args.self.now.table) c.args.law c.in-Lengths.is c.if-unrolls_too_far.ensures

pub returns-else-unrolls_too_far : goal.returns-else-unrolls_too_far
returns-else-unrolls_too_far g c =
    near_enough (g.F.Family.meaning c.args.family.now) (held c.args.self.now.table) c.args.law c.first.result c.in-Lengths.is c.if-unrolls_too_far.ensures
    (c.first.ensures (λ p. absurd (not_primitives c.args.law c.in-Lengths.is p)))
