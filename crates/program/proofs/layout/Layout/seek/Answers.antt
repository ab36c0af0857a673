use Rattle.std.proofs.Common.{Some, None, arith, w64, SFits, rules}
use Rattle.model.specs.declared.node.Node.TheVariants as v
use Rattle.model.specs.Syntax.{Kind, Solid, solid, vector}
use Rattle.model.specs.Shapes.{Val}
use Rattle.model.specs.Unrolling.{programs}
use Rattle.program.specs.declared.element.Item.TheVariants.{Whole, Placed}
use Rattle.program.specs.Elements.{nodes_of, Holds, IsItem}
use Rattle.program.proofs.Items.{behind_first, behind_part, no_list, no_vectors}
use Rattle.program.proofs.Lists.{in_list, in_repeat, in_tabulate, index_fits, in_left, in_right, in_map2}
use Rattle.program.proofs.layout.Layout.seek.Goals as goal

pub loop-index-init : goal.loop-index-init
loop-index-init c = λ r behind finds. (behind, finds)

pub returns-in-List : goal.returns-in-List
returns-in-List c =
    let l = c.args.self.now in
    let x = c.loop-index in
    let u = c.part-first.result in
    let r = x.invariant (Some (Whole c.hop.result)) (behind_first l x.list u c.hop.result (v.List _) c.in-List.ensures (omega arith) c.part-first.ensures c.hop.ensures.ahead)
    (λ k y has. in_list l x.list x.k k y has u c.hop.result _ c.part-first.ensures c.in-List.ensures c.hop.ensures.hops) in
    record { behind = r.0; finds = r.1 }

pub returns-in-Repeat : goal.returns-in-Repeat
returns-in-Repeat c =
    let l = c.args.self.now in
    let x = c.loop-index in
    let u = c.part-first.result in
    let r = x.invariant (Some (Whole u)) (behind_first l x.list u u (v.Repeat _) c.in-Repeat.ensures (omega arith) c.part-first.ensures (omega arith))
    (λ k y has. in_repeat l x.list x.k k y has u _ c.part-first.ensures c.in-Repeat.ensures) in
    record { behind = r.0; finds = r.1 }

pub returns-in-Ok : goal.returns-in-Ok
returns-in-Ok c =
    let l = c.args.self.now in
    let x = c.loop-index in
    let u = c.part-first.result in
    let r = x.invariant (Some (Whole (record { place = u.place; index = c.in-Ok.index }))) (behind_first l x.list u u (v.Tabulate _) c.in-Tabulate.ensures (omega arith) c.part-first.ensures (omega arith))
    (λ k y has. in_tabulate l x.list x.k k y has u _ c.part-first.ensures c.in-Tabulate.ensures c.in-Ok.index c.in-Ok.ensures.1) in
    record { behind = r.0; finds = r.1 }

pub returns-in-Err : goal.returns-in-Err
returns-in-Err c =
    let x = c.loop-index in
    let fits : SFits w64 c.in-Tabulate.field-0 = search rules in
    let r = x.invariant None tt (λ k y has. c.in-Err.ensures (index_fits c.args.self.now x.list x.k k y has c.in-Tabulate.field-0 fits c.in-Tabulate.ensures)) in
    record { behind = r.0; finds = r.1 }

pub loop-index-preserved-then-k-left : goal.loop-index-preserved-then-k-left
loop-index-preserved-then-k-left c =
    let l = c.args.self.now in
    let x = c.loop-index in
    let u = c.part-first.result in
    let first = behind_first l x.list u u v.Concat c.in-Concat.ensures (omega arith) c.part-first.ensures (omega arith) in
    λ r behind finds. x.invariant r (behind_part (nodes_of l) x.list u r first behind)
    (λ k y has. finds k y (in_left l x.list x.k k y has u c.measure_at-left.result c.part-first.ensures c.in-Concat.ensures c.measure_at-left.ensures.tells c.if-k-left.true))

pub loop-index-preserved : goal.loop-index-preserved
loop-index-preserved c =
    let l = c.args.self.now in
    let x = c.loop-index in
    let u = c.part-first.result in
    let w = c.next-list.result in
    let second = behind_first l x.list u w v.Concat c.in-Concat.ensures (omega arith) c.part-first.ensures c.next-list.ensures.ahead in
    λ r behind finds. x.invariant r (behind_part (nodes_of l) x.list w r second behind)
    (λ k y has. finds k y (in_right l x.list x.k k y has u w c.measure_at-left.result c.part-first.ensures c.in-Concat.ensures c.measure_at-left.ensures.tells
    c.next-list.ensures.after c.next-list.ensures.index c.if-k-left.false))

pub returns-in-Map2 : goal.returns-in-Map2
returns-in-Map2 c =
    let l = c.args.self.now in
    let x = c.loop-index in
    let u = c.part-first.result in
    let w = c.next.result in
    let here = c.in-Map2.ensures in
    let r = Some (Placed c.in-Map2.placement (record { vectors = u; solids = w; k = x.k })) in
    let finds : (k : Kind) (y : Val Solid k) → Holds programs (nodes_of l) x.list x.k k y → IsItem programs (nodes_of l) r k y = λ k.
    elim k as (λ k. (y : Val Solid k) → Holds programs (nodes_of l) x.list x.k k y → IsItem programs (nodes_of l) r k y) [
      | solid ↦ λ y has. in_map2 l x.list x.k y has u w c.in-Map2.placement c.part-first.ensures here c.next.ensures.after c.next.ensures.index
      | vector ↦ λ y has. no_vectors (nodes_of l) x.list.place has.list has.begins c.in-Map2.placement here
    ] in
    let f = x.invariant r (behind_first l x.list u w (v.Map2 _) here (omega arith) c.part-first.ensures c.next.ensures.ahead) finds in
    record { behind = f.0; finds = f.1 }

pub returns-in_default : goal.returns-in_default
returns-in_default c =
    let x = c.loop-index in
    let d = c.in_default in
    let r = x.invariant None tt
    (λ k y has. no_list (nodes_of c.args.self.now) x.list.place has.list has.begins c.node_at.result c.node_at.ensures d.not-List d.not-Repeat d.not-Tabulate d.not-Concat d.not-Map2) in
    record { behind = r.0; finds = r.1 }
