use Rattle.std.proofs.Common.{w64, SFits, arith, rules}
use Rattle.std.proofs.lemmas.Int.{to_z-of_z}
use Rattle.family.proofs.Fits.{two_fit, three_fit}
use Rattle.family.proofs.catalogue.in_half_space.Goals as goal

pub overflow_add-result : goal.overflow_add-result
overflow_add-result c = grind (arith, to_z-of_z, two_fit)

pub overflow_add-result-2 : goal.overflow_add-result-2
overflow_add-result-2 c = grind (arith, to_z-of_z, two_fit, three_fit)

pub returns : goal.returns
returns c =
    let row = c.args.row.now in
    let fp : SFits w64 c.args.row.now.p = search rules in
    let fq : SFits w64 c.args.row.now.q = search rules in
    let fr : SFits w64 c.args.row.now.r = search rules in
    let two = two_fit row.p row.q c.point-at.result fp fq c.point-at.ensures.near in
    let three = three_fit row.p row.q row.r c.point-at.result fp fq fr c.point-at.ensures.near in
    grind (arith, to_z-of_z)
