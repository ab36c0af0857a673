use Rattle.model.specs.Syntax.{solid, vector}
use Rattle.model.specs.Unrolling.{programs}
use Rattle.program.specs.Elements.{nodes_of}
use Rattle.program.proofs.Items.{item_is}
use Rattle.program.proofs.layout.Layout.vector_item.Goals as goal

pub returns-in-Some-Whole-clause-vector : goal.returns-in-Some-Whole-clause-vector
returns-in-Some-Whole-clause-vector c x has =
    c.vector_at.ensures.vector x (item_is programs (nodes_of c.args.self.now) vector x c.in-Some-Whole.field-0-is (c.in-Some-Whole.ensures.finds vector x has))

pub returns-in-Some-Whole-clause-solid : goal.returns-in-Some-Whole-clause-solid
returns-in-Some-Whole-clause-solid c x has =
    c.vector_at.ensures.solid x (item_is programs (nodes_of c.args.self.now) solid x c.in-Some-Whole.field-0-is (c.in-Some-Whole.ensures.finds solid x has))

pub returns-in-Some-Whole-clause-none : goal.returns-in-Some-Whole-clause-none
returns-in-Some-Whole-clause-none c lacks = absurd (let h = c.in-Some-Whole.ensures.none lacks in cc)

pub returns-in-Some-Placed-clause-vector : goal.returns-in-Some-Placed-clause-vector
returns-in-Some-Placed-clause-vector c x has = absurd (item_is programs (nodes_of c.args.self.now) vector x c.in-Some-Placed.field-0-is (c.in-Some-Placed.ensures.finds vector x has))

pub returns-in-None-clause-vector : goal.returns-in-None-clause-vector
returns-in-None-clause-vector c x has = absurd (c.in-None.ensures.finds vector x has)
