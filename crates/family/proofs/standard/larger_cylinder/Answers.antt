use Rattle.std.proofs.Common.{◌≡◌, ◌*ℤ◌, nat_abs, pos, sym, ap, ◌∙◌, w64, SFits, arith, rules}
use borrow.Author.Differences.{ints}
use mir.Syntax.{w128}
use Rattle.std.proofs.lemmas.Int.{to_z-of_z}
use Rattle.std.proofs.lemmas.Bool.{eq-eqb}
use Rattle.family.proofs.Fits.{unsigned_fits}
use Rattle.family.proofs.Joint.{cylinder_joint}
use Rattle.family.proofs.standard.larger_cylinder.Goals as goal

pub overflow_mul-from : goal.overflow_mul-from
overflow_mul-from c =
    let sx : SFits w64 c.args.primitive.now.sizes.x = search rules in
    let fx : SFits w64 c.args.factors.x = search rules in
    let nx : c.unsigned_abs-across.result ≡ nat_abs c.args.factors.x = simp to_z-of_z at c.unsigned_abs-across.ensures.value in
    let ex : c.from.result ≡ c.args.primitive.now.sizes.x = simp to_z-of_z at c.from.ensures in
    let en : c.from-2.result ≡ pos (nat_abs c.args.factors.x) = c.from-2.ensures ∙ ap pos nx in
    let gx : SFits w128 c.from.result = search rules in
    let gn : SFits w128 c.from-2.result = search rules in
    simp to_z-of_z (simp (ex, en) (unsigned_fits c.args.primitive.now.sizes.x c.args.factors.x sx fx))

pub returns : goal.returns
returns c =
    let sx : SFits w64 c.args.primitive.now.sizes.x = search rules in
    let sy : SFits w64 c.args.primitive.now.sizes.y = search rules in
    let fx : SFits w64 c.args.factors.x = search rules in
    let fy : SFits w64 c.args.factors.y = search rules in
    let fz : SFits w64 c.args.factors.z = search rules in
    let nx : c.unsigned_abs-across.result ≡ nat_abs c.args.factors.x = simp to_z-of_z at c.unsigned_abs-across.ensures.value in
    let ny : c.unsigned_abs.result ≡ nat_abs c.args.factors.y = simp to_z-of_z at c.unsigned_abs.ensures.value in
    let same : nat_abs c.args.factors.x ≡ nat_abs c.args.factors.y = sym nx ∙ c.if-across-unsigned_abs.false ∙ ny in
    let ex : c.from.result ≡ c.args.primitive.now.sizes.x = simp to_z-of_z at c.from.ensures in
    let en : c.from-2.result ≡ pos (nat_abs c.args.factors.x) = c.from-2.ensures ∙ ap pos nx in
    let gx : SFits w128 c.args.primitive.now.sizes.x = omega (arith, ints) in
    let gn : SFits w128 (pos (nat_abs c.args.factors.x)) = omega (arith, ints) in
    let gp : SFits w128 (c.args.primitive.now.sizes.x *ℤ pos (nat_abs c.args.factors.x)) = unsigned_fits c.args.primitive.now.sizes.x c.args.factors.x sx fx in
    let x = simp (ex, en, to_z-of_z) at c.as_size.ensures in
    let gz : SFits w128 c.product.result = search rules in
    let pz : c.product.result ≡ c.args.primitive.now.sizes.y *ℤ c.args.factors.z = simp to_z-of_z at c.product.ensures in
    let z = simp to_z-of_z at c.as_size-2.ensures in
    c.joined.ensures ∙ simp (x, z, pz) (cylinder_joint c.args.primitive.now c.args.factors c.requires (eq-eqb (nat_abs c.args.factors.x) (nat_abs c.args.factors.y) same))
