use Rattle.std.proofs.Common.{◌≡◌, Bool, true, false, cond, Some, None, Ok, Err, sym, refl, ap, ◌∙◌}
use Rattle.model.specs.declared.node.Triple.{Triple}
use Rattle.model.specs.declared.point.Point.{Point}
use Rattle.model.specs.Tables.{held}
use Rattle.model.specs.Unrolling.{unroll, contains}
use Rattle.program.specs.Elements.{nodes_of}
use Rattle.probe.specs.declared.unprobed.Unprobed.TheVariants.{Far, OutOfReach}
use Rattle.probe.specs.Probing.{far, point, strays, answer}
use Rattle.probe.specs.Walking.{said, asked, verdict}
use Rattle.probe.proofs.Parts.{answers}
use Rattle.probe.proofs.answer.probe.Goals as goal

near_some : (at : Triple) (p : Point) → Some p ≡ cond (far at) None (Some (point at)) → (far at ≡ false) × (p ≡ point at)
near_some at p e = go (far at) e
  where
    go : (b : Bool) → Some p ≡ cond b None (Some (point at)) → (b ≡ false) × (p ≡ point at)
    go true e = let z : ⊥ = cc in absurd z
    go false e = (refl, cc)

near_none : (at : Triple) → None ≡ cond (far at) None (Some (point at)) → far at ≡ true
near_none at e = go (far at) e
  where
    go : (b : Bool) → None ≡ cond b None (Some (point at)) → b ≡ true
    go true e = refl
    go false e = let z : ⊥ = cc in absurd z

pub returns-in_default : goal.returns-in_default
unfolding answer
returns-in_default g c =
    let m = g.F.Family.meaning c.args.family.now in
    let e = unroll (held c.args.part.now.layout.table) in
    let p = point c.args.at in
    sym (ap (λ (b : Bool). cond b (Err Far) (cond (strays e p) (Err OutOfReach) (Ok (contains m e p)))) (near_none c.args.at c.in_default.ensures))

pub returns : goal.returns
returns g c =
    let part = c.args.part.now in
    let m = g.F.Family.meaning c.args.family.now in
    let h = near_some c.args.at c.in-Some.at c.in-Some.ensures in
    c.run.ensures ∙ ap (λ (p : Point). verdict (said (nodes_of part.layout) (asked m) (record { term = record { place = 0; index = 0 }; spot = Some p }))) h.1 ∙ answers part m c.args.at h.0
