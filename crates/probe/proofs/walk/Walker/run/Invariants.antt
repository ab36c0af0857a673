use Rattle.std.proofs.Common.{◌≡◌, ◌+◌, length, vec_items}
use Rattle.program.specs.Elements.{nodes_of}
use Rattle.probe.specs.Walking.{asked, resume, work, turn_says, turn_cost, AllSound, Low}
use Rattle.probe.proofs.walk.Walker.run.Given as goal

abbrev pub invariant-loop-turn : goal.invariant-loop-turn
invariant-loop-turn g l = let nodes = nodes_of l.self.layout.now in let m = asked (g.F.Family.meaning l.self.family.now) in record {
  sound : AllSound nodes 0 (vec_items l.stack.frames);
  low : Low nodes (length (vec_items l.stack.frames)) l.turn;
  same : resume nodes m (vec_items l.stack.frames) (turn_says nodes m l.turn) ≡ turn_says nodes m l.initial.turn;
}

abbrev pub decreases-loop-turn : goal.decreases-loop-turn
decreases-loop-turn g l = let nodes = nodes_of l.self.layout.now in let m = asked (g.F.Family.meaning l.self.family.now) in work nodes m (vec_items l.stack.frames) + turn_cost nodes m l.turn
