use Rattle.std.proofs.Common.{◌<◌, [], length, None, vec_items, sym, ap, ◌∙◌, append-nil, arith}
use Rattle.std.proofs.lemmas.Bool.{cond_below}
use Rattle.model.specs.Syntax.{one, solid, size}
use Rattle.model.specs.Nodes.{flatten}
use Rattle.model.specs.Tables.{held}
use Rattle.model.specs.Tokens.{tokens}
use Rattle.model.specs.Texts.{feed_of}
use Rattle.model.specs.Starts.{before, nth_span}
use Rattle.model.proofs.Holding.{program_nodes}
use Rattle.model.proofs.Readable.{length_flatten}
use Rattle.text.specs.Starting.{passed}
use Rattle.text.proofs.start.first_token.Goals as goal

pub walk_term-requires : goal.walk_term-requires
walk_term-requires c =
    let t = c.args.table.now in
    let long = ap length c.as_slice-nodes.ensures.value in
    let same = ap length (program_nodes (vec_items t.nodes) t.program) in
    let sized = length_flatten (held t) in
    (omega (arith, c.size.ensures), omega (arith, t.few, t.nodes.ok.0))

pub returns : goal.returns
returns c =
    let t = c.args.table.now in
    let e = held t in
    let feed = feed_of c.args.text.now in
    let node = c.args.node in
    let stands = c.as_slice-nodes.ensures.value ∙ sym (program_nodes (vec_items t.nodes) t.program) ∙ sym (append-nil (flatten e)) in
    let few : node < size e = omega (arith, c.size.ensures) in
    let count = (c.walk_term.ensures.walk (one solid) e [] stands).1 ∙ ap (passed e) (omega arith) ∙ sym (cond_below node (size e) (before e node) (length (tokens e)) few) in
    c.span_after.ensures ∙ ap (nth_span feed) count ∙ cond_below node (size e) (nth_span feed (before e node)) None few
