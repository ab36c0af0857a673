use Rattle.std.proofs.Common.{sym, ap, ap₂, ◌∙◌, arith, w64, SFits, rules}
use Rattle.std.proofs.lemmas.Int.{to_z-of_z}
use Rattle.model.specs.Axes.{exact}
use Rattle.model.specs.Placements.{translated}
use Rattle.family.specs.Reaching.{in_reach}
use Rattle.family.proofs.Fits.{reached}
use Rattle.probe.specs.Moving.{spot_of}
use Rattle.probe.proofs.Bounds.{kept, bounded_some, bounded_none}
use Rattle.probe.proofs.Outside.{short_way, gone}
use Rattle.probe.proofs.spot.slid.Goals as goal

pub returns-in_err-by : goal.returns-in_err-by
returns-in_err-by c =
    let v = exact c.args.vector in
    let near = ap in_reach (sym c.point-x.ensures.is) ∙ c.point-x.ensures.near in
    c.from_residual.ensures ∙ gone (translated v c.args.at) (λ e. bounded_none 2000000000 v c.in_err-by.ensures (short_way v c.args.at near e))

pub shifted-requires : goal.shifted-requires
shifted-requires c =
    let p = c.point-x.result in let r = reached p c.point-x.ensures.near in let b = bounded_some 2000000000 (exact c.args.vector) c.in_ok-by.by c.in_ok-by.ensures in
    record { near = kept p.x 1000000000 r.x (omega arith); small = kept c.in_ok-by.by.x 2000000000 b.1.x (omega arith); fine = kept p.w 1000 r.w (omega arith) }

pub shifted-requires-2 : goal.shifted-requires-2
shifted-requires-2 c =
    let p = c.point-x.result in let r = reached p c.point-x.ensures.near in let b = bounded_some 2000000000 (exact c.args.vector) c.in_ok-by.by c.in_ok-by.ensures in
    record { near = kept p.y 1000000000 r.y (omega arith); small = kept c.in_ok-by.by.y 2000000000 b.1.y (omega arith); fine = kept p.w 1000 r.w (omega arith) }

pub shifted-requires-3 : goal.shifted-requires-3
shifted-requires-3 c =
    let p = c.point-x.result in let r = reached p c.point-x.ensures.near in let b = bounded_some 2000000000 (exact c.args.vector) c.in_ok-by.by c.in_ok-by.ensures in
    record { near = kept p.z 1000000000 r.z (omega arith); small = kept c.in_ok-by.by.z 2000000000 b.1.z (omega arith); fine = kept p.w 1000 r.w (omega arith) }

pub returns : goal.returns
returns c =
    let p = c.point-x.result in let u = c.in_ok-by.by in
    let b = bounded_some 2000000000 (exact c.args.vector) u c.in_ok-by.ensures in
    let fx : SFits w64 p.x = search rules in
    let fy : SFits w64 p.y = search rules in
    let fz : SFits w64 p.z = search rules in
    let fw : SFits w64 p.w = search rules in
    let gx : SFits w64 u.x = search rules in
    let gy : SFits w64 u.y = search rules in
    let gz : SFits w64 u.z = search rules in
    let sx : SFits w64 c.shifted.result = search rules in
    let sy : SFits w64 c.shifted-2.result = search rules in
    let sz : SFits w64 c.shifted-3.result = search rules in
    let x = simp to_z-of_z at c.shifted.ensures in
    let y = simp to_z-of_z at c.shifted-2.ensures in
    let z = simp to_z-of_z at c.shifted-3.ensures in
    let n = simp to_z-of_z at c.new.ensures in
    n ∙ ap spot_of ((λ i. record { x = x i; y = y i; z = z i; w = p.w }) ∙ ap₂ translated b.0 c.point-x.ensures.is)
