use Rattle.std.proofs.Common.{arith}
use Rattle.model.specs.Tables.{held}
use Rattle.program.proofs.Faults.{kept_before, fault_found, no_fault}
use Rattle.program.proofs.layout.Layout.fault.Goals as goal

pub returns-in-Some : goal.returns-in-Some
returns-in-Some g c orderless =
    let m = g.F.Family.meaning c.args.family.now in
    let e = held c.args.self.now.table in
    let kept = c.loop-law.invariant orderless in
    fault_found m e c.loop-law.law-index c.in-Some.node (omega arith) kept (c.in-Some.ensures orderless (kept_before m e c.loop-law.law-index (omega arith) kept))

pub returns : goal.returns
returns g c orderless = no_fault (g.F.Family.meaning c.args.family.now) (held c.args.self.now.table) c.loop-law.law-index (omega arith) (c.loop-law.invariant orderless)
