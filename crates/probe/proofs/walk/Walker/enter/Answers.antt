use Rattle.std.proofs.Common.{Some, vec_items, sym, refl, ap, ◌∙◌, arith, w64, SFits, rules}
use Rattle.std.proofs.lemmas.Int.{to_z-of_z}
use Rattle.model.specs.declared.node.Node.TheVariants as v
use Rattle.model.specs.declared.node.Triple.{Triple}
use Rattle.model.specs.Placements.{at}
use Rattle.model.specs.Unrolling.{primitive}
use Rattle.program.specs.Elements.{nodes_of}
use Rattle.program.proofs.Items.{first_part}
use Rattle.program.proofs.Layouts.{few_nodes}
use Rattle.probe.specs.Moving.{moves}
use Rattle.probe.specs.Walking.{asked, holds, resume}
use Rattle.probe.proofs.Frames.{resume_none}
use Rattle.probe.proofs.Entering.{prim_on, prim_none, place_on, join_on, fold_on, rest_on}
use Rattle.probe.proofs.walk.Walker.enter.Goals as goal

pub returns-in-Some : goal.returns-in-Some
returns-in-Some g c =
    let m = asked (g.F.Family.meaning c.args.self.now.family.now) in
    let x = c.args.task in let k = c.in-Primitive.kind in
    let f : SFits w64 c.in-Primitive.kind = search rules in
    let e = c.contains-held.ensures ∙ (λ i. m.contains (primitive (to_z-of_z w64 k f i) (c.at.ensures i)) c.in-Some.at) in
    prim_on _ m _ x c.requires.sound c.requires.low.0 c.requires.low.1 k c.in-Primitive.sizes c.contains-held.result c.in-Primitive.ensures
    (ap (holds m (primitive k (at x.term.index c.in-Primitive.sizes))) c.in-Some.is ∙ ap Some (sym e))

pub returns-in-None : goal.returns-in-None
returns-in-None g c =
    let m = asked (g.F.Family.meaning c.args.self.now.family.now) in
    let nodes = nodes_of c.args.self.now.layout.now in let fs = vec_items c.args.stack.now.frames in
    let x = c.args.task in let k = c.in-Primitive.kind in let q = c.in-Primitive.sizes in
    (refl, ap (resume nodes m fs) (prim_none nodes m fs x c.requires.sound c.requires.low.0 c.requires.low.1 k q c.in-Primitive.ensures (ap (holds m (primitive k (at x.term.index q))) c.in-None.is)) ∙ resume_none nodes m fs)

pub returns-in-Place : goal.returns-in-Place
returns-in-Place g c =
    let m = asked (g.F.Family.meaning c.args.self.now.family.now) in
    let x = c.args.task in let n = c.in-Place in
    let f = first_part c.args.self.now.layout.now x.term c.part-first.result (v.Place n.placement n.vector) n.ensures (omega arith) c.part-first.ensures in
    place_on _ m _ x c.requires.sound c.requires.low.0 c.requires.low.1 c.part-first.result n.placement n.vector c.moved.result f.1 n.ensures
    (c.moved.ensures ∙ ap (λ (u : Triple). moves n.placement u x.spot) c.at-in-Place.ensures)

pub returns-in-Join : goal.returns-in-Join
returns-in-Join g c =
    let m = asked (g.F.Family.meaning c.args.self.now.family.now) in
    let x = c.args.task in let o = c.in-Join.operator in let next = c.next.ensures in
    let f = first_part c.args.self.now.layout.now x.term c.part-first.result (v.Join o) c.in-Join.ensures (omega arith) c.part-first.ensures in
    rw (c.push_reserved.ensures.items, c.with_term-right.ensures, c.with_term.ensures)
    (join_on _ m _ x c.requires.sound c.requires.low.0 c.requires.low.1 c.part-first.result c.next.result o f.1 c.in-Join.ensures next.after next.index next.ahead)

pub returns-in-Fold : goal.returns-in-Fold
returns-in-Fold g c =
    let m = asked (g.F.Family.meaning c.args.self.now.family.now) in
    let layout = c.args.self.now.layout.now in let x = c.args.task in
    let f = first_part layout x.term c.part-first.result v.Fold c.in-Fold.ensures (omega arith) c.part-first.ensures in
    rw (c.push_reserved-in-Fold.ensures.items, c.with_term-list.ensures)
    (fold_on _ m _ x c.requires.sound c.requires.low.0 c.requires.low.1 c.part-first.result f.1 c.in-Fold.ensures (few_nodes layout))

pub returns-in_default : goal.returns-in_default
returns-in_default g c = let r = c.in_default in let h = c.node_at.ensures in
    let m = asked (g.F.Family.meaning c.args.self.now.family.now) in
    rest_on _ m _ c.args.task c.requires.sound c.requires.low.0 c.requires.low.1 (λ k q e. r.not-Primitive k q (h ∙ sym e)) (λ t q e. r.not-Place t q (h ∙ sym e)) (λ o e. r.not-Join o (h ∙ sym e)) (λ e. r.not-Fold (h ∙ sym e))
