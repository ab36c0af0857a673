use Rattle.std.proofs.Common.{◌-◌, length, Option}
use Rattle.program.specs.declared.element.Item.{Item}
use Rattle.program.specs.Elements.{nodes_of, Finds, Behind}
use Rattle.program.proofs.layout.Layout.seek.Given as goal

-- what is found of the list that is left is found of the whole
abbrev pub invariant-loop-index : goal.invariant-loop-index
invariant-loop-index l =
    (r : Option Item) → Behind (nodes_of l.self) l.list r → Finds (nodes_of l.self) l.list l.k r → Behind (nodes_of l.self) l.fn.list r × Finds (nodes_of l.self) l.fn.list l.fn.k r

abbrev pub decreases-loop-index : goal.decreases-loop-index
decreases-loop-index l = length (nodes_of l.self) - l.list.place
