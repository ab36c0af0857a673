use Rattle.model.specs.Orders.{Ordered}
use Rattle.model.specs.Tables.{held}
use Rattle.program.proofs.Faults.{KeptTo}
use Rattle.program.proofs.layout.Layout.fault.Given as goal

abbrev pub invariant-loop-law : goal.invariant-loop-law
invariant-loop-law g l = Ordered (held l.self.table) → KeptTo (g.F.Family.meaning l.family) (held l.self.table) l.law-index
