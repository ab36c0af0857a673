use Rattle.std.proofs.Common.{replicate}
use Rattle.writer.specs.Putting.{Puts}
use Rattle.writer.proofs.flat.put_closings.Given as goal

abbrev pub invariant-loop : goal.invariant-loop
invariant-loop l = Puts (replicate l.counter 41) l.initial.sink l.sink
