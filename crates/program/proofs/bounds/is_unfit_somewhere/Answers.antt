use Rattle.std.proofs.Common.{rules, tests}
use Rattle.std.proofs.lemmas.Iterator.{YieldsList-from_slice}
use Rattle.std.proofs.lemmas.Iterator.Search.{any_from_yields_List}
use Rattle.model.specs.Axes.{axes}
use Rattle.model.specs.Legality.{unfit}
use Rattle.program.specs.Judging.{some_along}
use Rattle.program.proofs.bounds.is_unfit_somewhere.Goals as goal

pub returns : goal.returns
returns c = any_from_yields_List (λ a. some_along (unfit c.args.placement) a c.args.count) _ _ _ c.any.ensures.ran (YieldsList-from_slice (axes c.args.v) cc) (λ x b q k. search (rules, tests))
