use Rattle.std.proofs.Common.{◌≡◌, nat_abs, ap, ◌∙◌, arith, w64, rules, tests}
use Rattle.std.proofs.lemmas.Int.{to_z-of_z}
use Rattle.std.proofs.lemmas.Iterator.{YieldsList-from_range}
use Rattle.std.proofs.lemmas.Iterator.Search.{any_from_yields_List}
use Rattle.model.specs.Placements.{at}
use Rattle.program.specs.Judging.{some_below, illegal}
use Rattle.program.proofs.Unknowns.{unknown_is}
use Rattle.program.proofs.primitives.is_unknown.Goals as goal

pub returns : goal.returns
returns g c hk hw =
    let m = g.F.Family.meaning c.args.family.now in
    let turns = c.turns_asked.result in
    let kind : c.in-Ok.kind ≡ nat_abs c.args.kind = c.in-Ok.ensures.1 ∙ ap nat_abs (to_z-of_z w64 c.args.kind c.ranges.kind) in
    any_from_yields_List (λ i. illegal m c.in-Ok.kind (at i c.args.v)) _ _ _ c.any.ensures.ran (YieldsList-from_range 0 turns turns (cc) (omega arith)) (λ x b q k. search (rules, tests))
    ∙ (λ j. some_below (λ i. illegal m (kind j) (at i c.args.v)) (c.turns_asked.ensures j))
    ∙ unknown_is m c.args.context c.args.kind c.args.v hk hw
