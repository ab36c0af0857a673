use Rattle.std.proofs.Common.{◌-◌, ◌≤◌}
use Rattle.model.specs.Unrolling.{programs}
use Rattle.program.specs.declared.element.Term.{Term}
use Rattle.program.specs.Elements.{nodes_of, Hops}
use Rattle.program.proofs.element.Term.hop.Given as goal

-- who hops over the terms that are left has hopped over them all
abbrev pub invariant-loop : goal.invariant-loop
invariant-loop l =
    (l.initial.term.place ≤ l.term.place)
    × ((r : Term) → Hops programs (nodes_of l.layout) l.term (l.k - l.counter) r → Hops programs (nodes_of l.layout) l.initial.term l.k r)
