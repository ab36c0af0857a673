-- The program that a table holds. Assumes nothing.
use Rattle.std.specs.Prelude.{vec_items}
use Rattle.model.specs.Syntax.{Solid}
use Rattle.model.specs.Held.{program}
use Rattle.model.specs.declared.table.Table.{Table}

abbrev pub held : Table → Solid
held t = program (vec_items t.nodes)
