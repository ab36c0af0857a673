use Rattle.model.specs.Tables.{held}
use Rattle.model.specs.Unrolling.{unroll}
use Rattle.writer.proofs.Parts.{part_comes}
use Rattle.writer.proofs.flat.put_unrolling.Goals as goal

pub returns : goal.returns
returns c = let p = c.args.part.now in c.put_solid.ensures (unroll (held p.layout.table)) (part_comes p)
