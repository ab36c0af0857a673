use Rattle.std.proofs.Common.{◌≡◌, ◌*ℤ◌, ◌∙◌, w64, SFits, rules}
use mir.Syntax.{w128}
use Rattle.std.proofs.lemmas.Int.{to_z-of_z}
use Rattle.family.proofs.Joint.{box_joint}
use Rattle.family.proofs.standard.larger_box.Goals as goal

pub returns : goal.returns
returns c =
    let sx : SFits w64 c.args.primitive.now.sizes.x = search rules in
    let fx : SFits w64 c.args.factors.x = search rules in
    let gx : SFits w128 c.product.result = search rules in
    let px : c.product.result ≡ c.args.primitive.now.sizes.x *ℤ c.args.factors.x = simp to_z-of_z at c.product.ensures in
    let x = simp to_z-of_z at c.as_size.ensures in
    let sy : SFits w64 c.args.primitive.now.sizes.y = search rules in
    let fy : SFits w64 c.args.factors.y = search rules in
    let gy : SFits w128 c.product-2.result = search rules in
    let py : c.product-2.result ≡ c.args.primitive.now.sizes.y *ℤ c.args.factors.y = simp to_z-of_z at c.product-2.ensures in
    let y = simp to_z-of_z at c.as_size-2.ensures in
    let sz : SFits w64 c.args.primitive.now.sizes.z = search rules in
    let fz : SFits w64 c.args.factors.z = search rules in
    let gz : SFits w128 c.product-3.result = search rules in
    let pz : c.product-3.result ≡ c.args.primitive.now.sizes.z *ℤ c.args.factors.z = simp to_z-of_z at c.product-3.ensures in
    let z = simp to_z-of_z at c.as_size-3.ensures in
    c.joined.ensures ∙ simp (x, y, z, px, py, pz) (box_joint c.args.primitive.now c.args.factors c.requires)
