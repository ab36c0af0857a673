use Rattle.std.proofs.Common.{◌-◌, length}
use Rattle.model.specs.Families.{Meaning}
use Rattle.model.specs.Syntax.{solid}
use Rattle.program.specs.Elements.{nodes_of, Holds}
use Rattle.probe.specs.declared.task.Task.{Task}
use Rattle.probe.specs.Walking.{Walk, walking, Leads}
use Rattle.probe.proofs.task.Task.item.Given as goal

-- what leads to the element of the list that is left leads to that of the task's
abbrev pub invariant-loop-term : goal.invariant-loop-term
invariant-loop-term l =
    (m : Meaning) (w : Walk) → Holds (walking m) (nodes_of l.layout) l.fn.self.term l.fn.k solid w
    → (z : Walk) × Holds (walking m) (nodes_of l.layout) l.list.term l.k solid z × ((y : Task) → Leads (nodes_of l.layout) m l.list z y → Leads (nodes_of l.layout) m l.fn.self w y)

abbrev pub decreases-loop-term : goal.decreases-loop-term
decreases-loop-term l = length (nodes_of l.layout) - l.list.term.place
