use Rattle.program.proofs.measuring.fill.Given as goal
use Rattle.program.proofs.Fills.{Filled}

abbrev pub invariant-loop-place : goal.invariant-loop-place
invariant-loop-place l = Filled l.nodes l.measures l.place
