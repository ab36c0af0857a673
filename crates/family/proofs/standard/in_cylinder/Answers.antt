use Rattle.std.proofs.Common.{◌*ℤ◌, w64, SFits, arith}
use Rattle.std.proofs.lemmas.Int.{to_z-of_z}
use Rattle.family.proofs.Fits.{radius_fits}
use Rattle.family.proofs.standard.in_cylinder.Goals as goal

pub overflow_mul-primitive : goal.overflow_mul-primitive
overflow_mul-primitive c = grind (arith, to_z-of_z, radius_fits)

pub returns-then-in_circle : goal.returns-then-in_circle
returns-then-in_circle c =
    let fits : SFits w64 (c.args.primitive.now.sizes.x *ℤ c.point-z.result.w) = radius_fits c.args.primitive.now c.point-z.result c.requires c.point-z.ensures.near in
    grind (arith, to_z-of_z, c.if-in_circle.ensures)

pub returns-else-in_circle : goal.returns-else-in_circle
returns-else-in_circle c =
    let fits : SFits w64 (c.args.primitive.now.sizes.x *ℤ c.point-z.result.w) = radius_fits c.args.primitive.now c.point-z.result c.requires c.point-z.ensures.near in
    grind (arith, to_z-of_z, c.if-in_circle.ensures)
