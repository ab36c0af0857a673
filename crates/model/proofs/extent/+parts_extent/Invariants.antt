use Rattle.std.proofs.Common.{◌-◌, length}
use Rattle.model.proofs.extent.+parts_extent.Given as goal

abbrev pub decreases-parts_extent : goal.decreases-parts_extent
decreases-parts_extent l = length l.nodes.now - l.place
