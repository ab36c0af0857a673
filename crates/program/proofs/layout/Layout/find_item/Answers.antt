use Rattle.std.proofs.Common.{ap, arith}
use Rattle.model.specs.Syntax.{many}
use Rattle.program.proofs.layout.Layout.find_item.Goals as goal

pub returns-then-k-measure_at-clause-none : goal.returns-then-k-measure_at-clause-none
returns-then-k-measure_at-clause-none c lacks = absurd (omega (arith, ap (λ m. m.elements) c.measure_at.ensures.is))

-- what has an element is told of as a list with so many
pub returns-else-k-measure_at-clause-finds : goal.returns-else-k-measure_at-clause-finds
returns-else-k-measure_at-clause-finds c s x has =
    absurd (omega (arith, has.within, ap (λ m. m.elements) (c.measure_at.ensures.tells (many s) has.list has.begins.rest has.begins.stands)))
