use Rattle.std.proofs.Common.{◌-ℤ◌, ◌*ℤ◌, w64, SFits}
use Rattle.std.proofs.lemmas.Int.{to_z-of_z}
use Rattle.probe.proofs.Bounds.{shifts}
use Rattle.probe.proofs.spot.shifted.Goals as goal

pub overflow_sub-result : goal.overflow_sub-result
overflow_sub-result c =
    let f = c.ranges.by in let g = c.ranges.w in let h = c.ranges.coordinate in
    let s = shifts c.args.coordinate c.args.by c.args.w c.requires.near c.requires.small c.requires.fine in
    let way : SFits w64 (c.args.by *ℤ c.args.w) = s.way in
    simp to_z-of_z s.shifted

pub returns : goal.returns
returns c =
    let f = c.ranges.by in let g = c.ranges.w in let h = c.ranges.coordinate in
    let s = shifts c.args.coordinate c.args.by c.args.w c.requires.near c.requires.small c.requires.fine in
    let way : SFits w64 (c.args.by *ℤ c.args.w) = s.way in
    let all : SFits w64 (c.args.coordinate -ℤ c.args.by *ℤ c.args.w) = s.shifted in
    simp to_z-of_z
