use Rattle.std.proofs.Common.{arith}
use Rattle.std.proofs.lemmas.Int.{to_z-of_z}
use Rattle.family.proofs.Fits.{squares_fit}
use Rattle.family.proofs.standard.in_circle.Goals as goal

pub overflow_add-result : goal.overflow_add-result
overflow_add-result c = grind (arith, to_z-of_z, squares_fit)

pub returns : goal.returns
returns c =
    let p = c.point-x.result in
    let fits = squares_fit p c.point-x.ensures.near in
    grind (arith, to_z-of_z)
