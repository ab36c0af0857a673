use Rattle.std.proofs.Common.{◌≡◌, ◌^◌, ◌<◌, ◌≤◌, ◌⊎◌, length, get_or, arith, rules}
use Rattle.std.proofs.lemmas.List.{drop_more}
use Rattle.model.specs.declared.node.Node.TheVariants.{Empty}
use Rattle.text.proofs.Walks.{own_few, term_walk, parts_none, parts_more}
use Rattle.text.proofs.start.+walking.Goals as goal

pub walk_parts-returns-then-count-eq0-clause-walk : goal.walk_parts-returns-then-count-eq0-clause-walk
walk_parts-returns-then-count-eq0-clause-walk t c =
    let why : (c.args.count ≡ 0) ⊎ (length c.args.nodes.now ≤ c.args.place) = search rules in
    parts_none c.args.nodes.now c.args.place c.args.count c.args.target why

pub walk_parts-returns-clause-walk : goal.walk_parts-returns-clause-walk
walk_parts-returns-clause-walk t c =
    parts_more c.args.nodes.now c.args.place c.args.count c.args.target c.walk_term-first.result c.walk_parts-rest.result (λ z. omega arith) c.walk_term-first.ensures.walk c.walk_parts-rest.ensures.walk

pub walk_term-overflow_add-result : goal.walk_term-overflow_add-result
walk_term-overflow_add-result t c =
    let few = own_few (get_or c.args.nodes.now c.args.place Empty) c.args.place c.walk_parts-parts.result.end c.args.target in
    omega (arith, c.own_tokens.ensures, c.walk_parts-parts.ensures.within)

pub walk_term-returns-clause-within : goal.walk_term-returns-clause-within
walk_term-returns-clause-within t c =
    let inside = c.walk_parts-parts.ensures.within in
    let few = own_few (get_or c.args.nodes.now c.args.place Empty) c.args.place c.walk_parts-parts.result.end c.args.target in
    (omega (arith, inside), inside.1, omega (arith, c.own_tokens.ensures, inside))

pub walk_term-returns-clause-walk : goal.walk_term-returns-clause-walk
walk_term-returns-clause-walk t c =
    let nodes = c.args.nodes.now in
    let node = get_or nodes c.args.place Empty in
    let short : length nodes < 2 ^ 63 = search rules in
    term_walk nodes c.args.place c.args.target node _ c.own_tokens.result c.walk_parts-parts.result short (drop_more nodes c.args.place Empty c.requires.0) c.parts.ensures c.walk_parts-parts.ensures.walk c.own_tokens.ensures
