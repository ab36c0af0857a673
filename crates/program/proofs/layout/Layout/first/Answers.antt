use Rattle.std.proofs.Common.{[], ap, ◌∙◌, arith}
use Rattle.std.specs.Result.{result_err}
use Rattle.model.specs.Syntax.{one, solid}
use Rattle.model.specs.Tables.{held}
use Rattle.program.proofs.Layouts.{stands, some_nodes}
use Rattle.program.proofs.Faults.{err_walked}
use Rattle.program.proofs.layout.Layout.first.Goals as goal

pub term-requires : goal.term-requires
term-requires g c = omega (arith, some_nodes c.args.self.now.table)

pub returns : goal.returns
returns g c numbers =
    let l = c.args.self.now in
    c.err.ensures.value ∙ ap result_err (c.term.ensures.judged (one solid) (held l.table) [] (stands l.table) numbers) ∙ err_walked _ _
