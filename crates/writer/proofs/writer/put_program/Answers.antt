use Rattle.std.proofs.Common.{[], length, ap, ◌∙◌, arith}
use Rattle.model.specs.Syntax.{one, solid}
use Rattle.model.specs.Tables.{held}
use Rattle.program.proofs.Layouts.{stands, some_nodes}
use Rattle.writer.proofs.writer.put_program.Goals as goal

pub put_term-requires : goal.put_term-requires
put_term-requires c = omega (arith, some_nodes c.args.table.now, ap length c.as_slice-nodes.ensures.value)

pub returns : goal.returns
returns c = let t = c.args.table.now in (c.put_term.ensures.puts (one solid) (held t) [] (c.as_slice-nodes.ensures.value ∙ stands t)).1
