use Rattle.std.proofs.Common.{◌≡◌, ◌-◌, [], ◌∷◌, ◌++◌, get_or, replicate, sym, ap, ◌∙◌, arith, w64, SFits, rules}
use Rattle.std.proofs.lemmas.List.{nil_from_length}
use Rattle.std.proofs.lemmas.Int.{to_z-of_z}
use Rattle.model.specs.declared.node.Node.TheVariants as v
use Rattle.model.specs.Syntax.{Empty, solid}
use Rattle.model.specs.Placements.{at as at_index}
use Rattle.model.specs.Shapes.{run, union_of}
use Rattle.model.specs.Spelling.{text_of}
use Rattle.model.specs.Unrolling.{programs}
use Rattle.model.specs.Axes.{exact}
use Rattle.program.specs.Elements.{nodes_of}
use Rattle.writer.specs.Unrolls.{placing}
use Rattle.writer.proofs.Puts.{puts_then, puts_as}
use Rattle.program.proofs.Items.{first_part, item_is, list_long, list_holds}
use Rattle.program.proofs.Solids.{is_empty, is_primitive, is_placed, is_joined, is_folded, no_solid}
use Rattle.writer.proofs.Unions.{text_placed, text_joined, text_empty, unions, unions_more, text_union}
use Rattle.writer.proofs.flat.+unrolling.Goals as goal

pub put_item-returns-in-None : goal.put_item-returns-in-None
put_item-returns-in-None t c x has = absurd (c.in-None.ensures.finds solid x has)

pub put_item-returns-in-Some-Whole : goal.put_item-returns-in-Some-Whole
put_item-returns-in-Some-Whole t c x has =
    c.put_solid.ensures x (item_is programs (nodes_of c.args.layout.now) solid x c.in-Some-Whole.field-0-is (c.in-Some-Whole.ensures.finds solid x has))

pub put_item-returns-in-Some-Placed : goal.put_item-returns-in-Some-Placed
put_item-returns-in-Some-Placed t c x has =
    let m = item_is programs (nodes_of c.args.layout.now) solid x c.in-Some-Placed.field-0-is (c.in-Some-Placed.ensures.finds solid x has) in
    let p = c.in-Some-Placed.placement in
    let by = c.vector_item.ensures.vector m.by m.vectors in
    puts_as (ap (λ q. placing p q ++ (text_of m.of ++ (41 ∷ []))) by ∙ text_placed p m.by m.of ∙ ap text_of m.is)
    (puts_then c.put_placing.ensures (puts_then (c.put_item.ensures m.of m.solids) c.byte.ensures))

pub put_solid-returns-in-Empty : goal.put_solid-returns-in-Empty
put_solid-returns-in-Empty t c x comes =
    puts_as (text_empty ∙ ap text_of (is_empty programs (nodes_of c.args.layout.now) c.args.term x comes c.in-Empty.ensures)) c.bytes.ensures

pub put_solid-returns-in-Primitive : goal.put_solid-returns-in-Primitive
put_solid-returns-in-Primitive t c x comes =
    let k = c.in-Primitive.kind in
    let fits : SFits w64 k = search rules in
    let q = exact c.at.result in
    puts_as (ap (λ z. text_of (programs.prim z q)) (to_z-of_z w64 k fits) ∙ ap (λ y. text_of (programs.prim k y)) c.at.ensures
    ∙ ap text_of (is_primitive programs (nodes_of c.args.layout.now) c.args.term x comes k c.in-Primitive.sizes c.in-Primitive.ensures))
    c.put_primitive.ensures

pub put_solid-returns-in-Place : goal.put_solid-returns-in-Place
put_solid-returns-in-Place t c x comes =
    let here = c.in-Place.ensures in
    let p = c.in-Place.placement in
    let a = c.in-Place.v in
    let first = first_part c.args.layout.now c.args.term c.part-first.result (v.Place p a) here (omega arith) c.part-first.ensures in
    let o = is_placed programs (nodes_of c.args.layout.now) c.args.term x comes c.part-first.result p a first.1 here in
    puts_as (ap (λ q. placing p q ++ (text_of o.of ++ (41 ∷ []))) c.at-in-Place.ensures ∙ text_placed p (at_index c.args.term.index a) o.of ∙ ap text_of o.is)
    (puts_then c.put_placing.ensures (puts_then (c.put_solid.ensures o.of o.comes) c.byte.ensures))

pub put_solid-returns-in-Join : goal.put_solid-returns-in-Join
put_solid-returns-in-Join t c x comes =
    let here = c.in-Join.ensures in
    let f = c.in-Join.operator in
    let first = first_part c.args.layout.now c.args.term c.part-first.result (v.Join f) here (omega arith) c.part-first.ensures in
    let o = is_joined programs (nodes_of c.args.layout.now) c.args.term x comes c.part-first.result c.next.result f first.1 here c.next.ensures.after c.next.ensures.index in
    puts_as (text_joined f o.a o.b ∙ ap text_of o.is)
    (puts_then c.put_joining.ensures (puts_then (c.put_solid-in-Join.ensures o.a o.comes_a) (puts_then c.byte-in-Join.ensures
    (puts_then (c.put_solid-in-Join-2.ensures o.b o.comes_b) c.byte-in-Join-2.ensures))))

pub put_solid-returns-in-Fold : goal.put_solid-returns-in-Fold
put_solid-returns-in-Fold t c x comes =
    let here = c.in-Fold.ensures in
    let first = first_part c.args.layout.now c.args.term c.part-first.result v.Fold here (omega arith) c.part-first.ensures in
    let o = is_folded programs (nodes_of c.args.layout.now) c.args.term x comes c.part-first.result first.1 here in
    puts_as (ap text_of o.is) (c.put_union.ensures o.list o.begins)

pub put_solid-returns-in_default : goal.put_solid-returns-in_default
put_solid-returns-in_default t c x comes =
    absurd (no_solid (nodes_of c.args.layout.now) c.args.term.place comes.expr comes.begins c.node_at.result c.node_at.ensures
    c.in_default.not-Empty c.in_default.not-Primitive c.in_default.not-Place c.in_default.not-Join c.in_default.not-Fold)

pub put_union-returns-then-count-eq0 : goal.put_union-returns-then-count-eq0
put_union-returns-then-count-eq0 t c l begins =
    let long = list_long programs (nodes_of c.args.layout.now) c.args.list l begins c.measure_at-count.result c.measure_at-count.ensures.tells in
    let nil = nil_from_length (run programs l c.args.list.index) (omega (arith, long.1)) in
    puts_as (text_empty ∙ ap (λ xs. text_of (union_of programs xs)) (sym nil)) c.bytes.ensures

pub put_union-loop-k-preserved : goal.put_union-loop-k-preserved
put_union-loop-k-preserved t c l begins =
    let nodes = nodes_of c.args.layout.now in
    let xs = run programs l c.args.list.index in
    let k = c.loop-k.k in
    let long = list_long programs nodes c.args.list l begins c.measure_at-count.result c.measure_at-count.ensures.tells in
    let item = c.put_item.ensures (get_or xs k Empty) (list_holds programs nodes c.args.list l begins k (omega (arith, long.0))) in
    puts_as (unions_more k xs (omega (arith, long.1))) (puts_then (c.loop-k.invariant l begins) (puts_then c.put_joining.ensures (puts_then item c.byte.ensures)))

pub put_union-returns : goal.put_union-returns
put_union-returns t c l begins =
    let nodes = nodes_of c.args.layout.now in
    let xs = run programs l c.args.list.index in
    let last = c.measure_at-count.result.elements - 1 in
    let long = list_long programs nodes c.args.list l begins c.measure_at-count.result c.measure_at-count.ensures.tells in
    let done : c.loop-k.k ≡ last = omega arith in
    let item = c.put_item-2.ensures (get_or xs last Empty) (list_holds programs nodes c.args.list l begins last (omega (arith, long.0))) in
    puts_as (ap (λ n. unions n xs ++ (text_of (get_or xs last Empty) ++ replicate last 41)) done ∙ text_union last xs (omega (arith, long.1)))
    (puts_then (c.loop-k.invariant l begins) (puts_then item c.put_closings.ensures))
