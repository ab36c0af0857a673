use Rattle.std.proofs.Common.{◌+◌, ◌-◌, ◌*◌, length}
use Rattle.text.proofs.start.+walking.Given as goal

abbrev pub decreases-walk_parts : goal.decreases-walk_parts
decreases-walk_parts l = 2 * (length l.nodes.now - l.place) + 1

abbrev pub decreases-walk_term : goal.decreases-walk_term
decreases-walk_term l = 2 * (length l.nodes.now - l.place)
