use Rattle.std.proofs.Common.{rules, tests, arith}
use Rattle.std.proofs.lemmas.Iterator.{YieldsList-from_range}
use Rattle.std.proofs.lemmas.Iterator.Search.{any_from_yields_List}
use Rattle.model.specs.Placements.{linear}
use Rattle.model.specs.Legality.{unfit}
use Rattle.program.proofs.bounds.is_unfit_at_some.Goals as goal

pub returns : goal.returns
returns c = any_from_yields_List (λ i. unfit c.args.placement (linear c.args.number.constant c.args.number.slope i)) _ _ _ c.any.ensures.ran (YieldsList-from_range 0 c.args.count c.args.count (cc) (omega arith)) (λ x b q k. search (rules, tests))
