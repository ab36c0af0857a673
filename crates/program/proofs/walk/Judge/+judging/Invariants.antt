use Rattle.std.proofs.Common.{◌+◌, ◌-◌, ◌*◌, vec_len}
use Rattle.program.proofs.walk.Judge.+judging.Given as goal

abbrev pub decreases-parts : goal.decreases-parts
decreases-parts g l = 2 * (vec_len l.self.now.layout.now.table.nodes - l.place) + 1

abbrev pub decreases-term : goal.decreases-term
decreases-term g l = 2 * (vec_len l.self.now.layout.now.table.nodes - l.place)
