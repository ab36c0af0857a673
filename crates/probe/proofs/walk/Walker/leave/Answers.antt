use Rattle.std.proofs.Common.{◌<◌, ◌≤◌, vec_items, arith}
use Rattle.model.specs.Syntax.{solid, many}
use Rattle.model.specs.Counts.{count}
use Rattle.program.specs.Elements.{nodes_of}
use Rattle.program.proofs.Items.{list_long, list_holds}
use Rattle.program.proofs.Layouts.{few_nodes}
use Rattle.probe.specs.declared.task.Frame.TheVariants.{Rest}
use Rattle.probe.specs.Terms.{term}
use Rattle.probe.specs.Walking.{asked, walking}
use Rattle.probe.proofs.Leaving.{last_of, leave_left, leave_right, leave_done, leave_next}
use Rattle.probe.proofs.walk.Walker.leave.Goals as goal

pub returns-in-Left : goal.returns-in-Left
returns-in-Left g c = let r = c.in-Left in
    rw c.push_reserved.ensures.items (leave_left _ _ _ c.args.frame r.operator r.right c.args.held r.is c.requires.sound)

pub returns-in-Right : goal.returns-in-Right
returns-in-Right g c = let r = c.in-Right in
    leave_right _ _ _ c.args.frame r.operator r.left c.args.held c.applied.result r.is c.applied.ensures c.requires.sound

pub returns-then-next-measure_at : goal.returns-then-next-measure_at
returns-then-next-measure_at g c = let r = c.in-Rest in
    let m = asked (g.F.Family.meaning c.args.self.now.family.now) in
    let nodes = nodes_of c.args.self.now.layout.now in let fs = vec_items c.args.stack.now.frames in
    let list = (last_of nodes fs c.args.frame (Rest r.list r.next r.earlier) r.is c.requires.sound).1 in
    let n = list_long (walking m) nodes r.list.term (term nodes (many solid) r.list.term.place) list c.measure_at.result c.measure_at.ensures.tells in
    let few : r.next < count (term nodes (many solid) r.list.term.place) = omega (arith, n.0, c.if-next-measure_at.true) in
    rw c.push_reserved-then-next-measure_at.ensures.items
    (leave_next nodes fs m c.args.frame r.list c.item-element.result r.next r.earlier c.args.held c.applied-any.result r.is c.applied-any.ensures few (few_nodes c.args.self.now.layout.now)
    (c.item-element.ensures m _ (list_holds (walking m) nodes r.list.term (term nodes (many solid) r.list.term.place) list r.next few)) c.requires.sound)

pub returns-else-next-measure_at : goal.returns-else-next-measure_at
returns-else-next-measure_at g c = let r = c.in-Rest in
    let m = asked (g.F.Family.meaning c.args.self.now.family.now) in
    let nodes = nodes_of c.args.self.now.layout.now in let fs = vec_items c.args.stack.now.frames in
    let list = (last_of nodes fs c.args.frame (Rest r.list r.next r.earlier) r.is c.requires.sound).1 in
    let n = list_long (walking m) nodes r.list.term (term nodes (many solid) r.list.term.place) list c.measure_at.result c.measure_at.ensures.tells in
    let done : count (term nodes (many solid) r.list.term.place) ≤ r.next = omega (arith, n.0, c.if-next-measure_at.false) in
    leave_done nodes fs m c.args.frame r.list r.next r.earlier c.args.held c.applied-any.result r.is c.applied-any.ensures done c.requires.sound
