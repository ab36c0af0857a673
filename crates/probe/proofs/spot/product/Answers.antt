use Rattle.std.proofs.Common.{◌*ℤ◌, w64, SFits}
use Rattle.std.proofs.lemmas.Int.{to_z-of_z}
use Rattle.probe.proofs.Bounds.{products}
use Rattle.probe.proofs.spot.product.Goals as goal

pub overflow_mul-result-2 : goal.overflow_mul-result-2
overflow_mul-result-2 c =
    let f = c.ranges.a in let g = c.ranges.b in let h = c.ranges.c in
    let p = products c.args.a c.args.b c.args.c c.requires.near c.requires.second c.requires.third in
    let two : SFits w64 (c.args.a *ℤ c.args.b) = p.two in
    simp to_z-of_z p.three

pub returns : goal.returns
returns c =
    let f = c.ranges.a in let g = c.ranges.b in let h = c.ranges.c in
    let p = products c.args.a c.args.b c.args.c c.requires.near c.requires.second c.requires.third in
    let two : SFits w64 (c.args.a *ℤ c.args.b) = p.two in
    let three : SFits w64 (c.args.a *ℤ c.args.b *ℤ c.args.c) = p.three in
    record { is = simp to_z-of_z; small = simp to_z-of_z p.small }
