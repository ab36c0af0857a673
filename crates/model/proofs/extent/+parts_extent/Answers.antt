use Rattle.std.proofs.Common.{◌+◌, ◌^◌, ◌<◌, length, get_or, arith, rules}
use Rattle.std.proofs.lemmas.List.{drop_more}
use Rattle.model.specs.declared.node.Node.TheVariants.{Empty}
use Rattle.model.specs.declared.depth.Extent.{Extent}
use Rattle.model.proofs.Extents.{term_extent, parts_none, parts_more}
use Rattle.model.proofs.extent.+parts_extent.Goals as goal

pub returns-then-count-eq0-clause-extent : goal.returns-then-count-eq0-clause-extent
returns-then-count-eq0-clause-extent t c = parts_none c.args.nodes.now c.args.place c.args.count (search rules)

pub returns-clause-extent : goal.returns-clause-extent
returns-clause-extent t c =
    let nodes = c.args.nodes.now in
    let place = c.args.place in
    let inner = c.parts_extent-inner.result in
    let short : length nodes < 2 ^ 63 = search rules in
    let here = drop_more nodes place Empty (omega arith) in
    let first : Extent = record { end = inner.end; depth = inner.depth + 1 } in
    let term = term_extent nodes place (get_or nodes place Empty) _ inner short here c.parts.ensures c.parts_extent-inner.ensures.extent in
    parts_more nodes place c.args.count c.max.result first c.parts_extent-rest.result (λ z. omega arith) (omega arith) term c.parts_extent-rest.ensures.extent
