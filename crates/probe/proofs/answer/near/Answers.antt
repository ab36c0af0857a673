use Rattle.std.proofs.Common.{Bool, cond, Some, None, sym, ap, ◌∙◌, w64, SFits, rules}
use Rattle.std.proofs.lemmas.Int.{to_z-of_z}
use Rattle.probe.specs.Probing.{point}
use Rattle.probe.proofs.Parts.{near_point}
use Rattle.probe.proofs.answer.near.Goals as goal

pub returns : goal.returns
returns c =
    let at = c.args.at in
    let fx : SFits w64 c.args.at.x = search rules in
    let fy : SFits w64 c.args.at.y = search rules in
    let fz : SFits w64 c.args.at.z = search rules in
    let n = simp to_z-of_z at c.new.ensures in
    let e = sym c.if-is_beyond.ensures in
    n ∙ ap (λ (b : Bool). cond b (Some (point at)) None) (near_point at e) ∙ sym (ap (λ (b : Bool). cond b None (Some (point at))) e)
