use Rattle.std.proofs.Common.{ℕ, ◌+◌, ◌-◌, ◌*◌, ◌≤◌, length}
use Rattle.writer.specs.declared.sink.Sink.{Sink}
use Rattle.writer.specs.Writing.{PartsPut}
use Rattle.writer.proofs.writer.+putting.Given as goal

-- who puts the expressions that are left has put them all
abbrev pub invariant-put_parts-loop : goal.invariant-put_parts-loop
invariant-put_parts-loop l = record {
  ahead : l.initial.next ≤ l.next;
  rest : (r : ℕ) (t : Sink) → PartsPut l.nodes l.next (l.count - l.counter) l.sink r t → PartsPut l.nodes l.initial.next l.count l.initial.sink r t;
}

abbrev pub decreases-put_parts : goal.decreases-put_parts
decreases-put_parts l = 2 * (length l.nodes.now - l.place) + 1

abbrev pub decreases-put_term : goal.decreases-put_term
decreases-put_term l = 2 * (length l.nodes.now - l.place)
