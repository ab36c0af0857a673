use Rattle.std.proofs.Common.{◌^◌, ◌<◌, length, get_or, inl, inr, arith, rules}
use Rattle.std.proofs.lemmas.List.{drop_more}
use Rattle.model.specs.declared.node.Node.TheVariants.{Empty}
use Rattle.writer.proofs.Puts.{puts_as}
use Rattle.writer.proofs.Programs.{term_put, parts_none, parts_more}
use Rattle.writer.proofs.writer.+putting.Goals as goal

pub put_parts-loop-preserved : goal.put_parts-loop-preserved
put_parts-loop-preserved t c = record {
  ahead = omega (arith, c.loop.invariant.ahead, c.put_term-next.ensures.ahead);
  rest = λ r v p. c.loop.invariant.rest r v
      (parts_more c.args.nodes.now c.loop.next c.put_term-next.result r _ (λ z. omega arith) c.byte.ensures c.put_term-next.ensures.puts
      (λ ks es rest is stands. p ks es rest (omega arith) stands));
}

pub put_parts-returns-then-next-nodes-clause-puts : goal.put_parts-returns-then-next-nodes-clause-puts
put_parts-returns-then-next-nodes-clause-puts t c =
    c.loop.invariant.rest c.loop.next c.loop.sink (parts_none c.args.nodes.now c.loop.next _ c.loop.sink (inr c.if-next-nodes.true))

pub put_parts-returns-clause-puts : goal.put_parts-returns-clause-puts
put_parts-returns-clause-puts t c = c.loop.invariant.rest c.loop.next c.loop.sink (parts_none c.args.nodes.now c.loop.next _ c.loop.sink (inl (omega arith)))

pub put_term-returns-clause-puts : goal.put_term-returns-clause-puts
put_term-returns-clause-puts t c =
    let nodes = c.args.nodes.now in
    let place = c.args.place in
    let short : length nodes < 2 ^ 63 = search rules in
    term_put nodes place c.put_parts-next.result (get_or nodes place Empty) short (drop_more nodes place Empty c.requires)
    c.parts.ensures c.put_opening.ensures c.put_parts-next.ensures.puts (puts_as c.closing.ensures c.bytes.ensures)
