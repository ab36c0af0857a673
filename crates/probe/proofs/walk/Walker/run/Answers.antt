use Rattle.std.proofs.Common.{◌≡◌, List, [], ◌∷◌, length, Some, vec_items, sym, ap, ◌∙◌, subst, arith}
use Rattle.model.specs.declared.node.Node.{Node}
use Rattle.model.specs.Families.{Meaning}
use Rattle.model.specs.Tables.{held}
use Rattle.program.specs.Elements.{nodes_of}
use Rattle.probe.specs.declared.task.Frame.{Frame}
use Rattle.probe.specs.declared.task.Turn.{Turn}
use Rattle.probe.specs.Walking.{Answer, asked, resume, AllSound, said, turn_says, verdict}
use Rattle.probe.proofs.Terms.{stands}
use Rattle.probe.proofs.Parts.{root}
use Rattle.probe.proofs.walk.Walker.run.Goals as goal

resume_empty : (nodes : List Node) (m : Meaning) (fs : List Frame) (a : Answer) → fs ≡ [] → resume nodes m fs a ≡ a
unfolding resume
resume_empty nodes m fs a e = ap (λ l. resume nodes m l a) e

none_left : (fs : List Frame) → length fs ≡ 0 → fs ≡ []
none_left [] e = cc
none_left (f ∷ fs) e = absurd (omega arith)

pub loop-turn-init : goal.loop-turn-init
loop-turn-init g c =
    let e = c.clear.ensures.items in
    let layout = c.args.self.now.layout.now in
    let m = asked (g.F.Family.meaning c.args.self.now.family.now) in
    record {
      sound = subst (AllSound (nodes_of layout) 0) (sym e) tt;
      low = (omega (arith, ap (λ (l : List Frame). length l) e), stands (nodes_of layout) 0 (held layout.table) (root layout c.requires));
      same = resume_empty (nodes_of layout) m (vec_items c.clear.new.self) (said (nodes_of layout) m (record { term = record { place = 0; index = 0 }; spot = Some c.args.at })) e;
    }

pub returns-in-None : goal.returns-in-None
returns-in-None g c =
    let z = c.in-None.ensures.cases in
    let n : length (vec_items c.loop-turn.stack.frames) ≡ 0 = omega (arith, z.0, c.loop-turn.stack.frames.ok.0) in
    let e = none_left (vec_items c.loop-turn.stack.frames) n in
    let m = asked (g.F.Family.meaning c.args.self.now.family.now) in
    let ns = nodes_of c.args.self.now.layout.now in
    let fs = vec_items c.loop-turn.stack.frames in
    ap verdict (sym (sym c.loop-turn.invariant.same ∙ ap (λ (t : Turn). resume ns m fs (turn_says ns m t)) c.in-Leave.is ∙ resume_empty ns m fs (Some c.in-Leave.held) e))
