use Rattle.std.proofs.Common.{vec_items}
use Rattle.model.proofs.Extents.{depth_program}
use Rattle.model.proofs.table.Table.depth.Goals as goal

pub returns : goal.returns
returns c = let t = c.args.self.now in depth_program c.as_slice-nodes.result.now (vec_items t.nodes) c.parts_extent.result c.as_slice-nodes.ensures.value t.program c.parts_extent.ensures.extent
