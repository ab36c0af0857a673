use Rattle.std.proofs.Common.{◌∙◌}
use Rattle.program.specs.Elements.{nodes_of}
use Rattle.program.proofs.Items.{no_solid}
use Rattle.program.proofs.Lists.{is_vector, no_vector}
use Rattle.program.proofs.layout.Layout.vector_at.Goals as goal

pub returns-in-Vector-clause-vector : goal.returns-in-Vector-clause-vector
returns-in-Vector-clause-vector c x comes = c.at.ensures ∙ is_vector (nodes_of c.args.self.now) c.args.term x comes c.in-Vector.v c.in-Vector.ensures

pub returns-in-Vector-clause-solid : goal.returns-in-Vector-clause-solid
returns-in-Vector-clause-solid c x comes = absurd (no_solid (nodes_of c.args.self.now) c.args.term.place comes.expr comes.begins c.in-Vector.v c.in-Vector.ensures)

pub returns-in_default-clause-vector : goal.returns-in_default-clause-vector
returns-in_default-clause-vector c x comes =
    absurd (no_vector (nodes_of c.args.self.now) c.args.term.place comes.expr comes.begins c.node_at.result c.node_at.ensures c.in_default.not-Vector)
