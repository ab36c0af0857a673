use Rattle.std.proofs.Common.{◌≤◌, ap, ℤ, pos, ◌*ℤ◌, nat_abs, ◌∙◌, ap₂, arith, w64, SFits, to_z, of_z, rules}
use Rattle.std.proofs.lemmas.Int.{to_z-of_z}
use Rattle.model.specs.Axes.{exact}
use Rattle.model.specs.Families.{signed, rescaled}
use Rattle.family.proofs.Fits.{abs_bound, reached}
use Rattle.probe.specs.Moving.{spot_of}
use Rattle.probe.proofs.Bounds.{kept, products, bounded_some, bounded_none}
use Rattle.probe.proofs.Outside.{small_factors, gone}
use Rattle.probe.proofs.spot.scaled.Goals as goal

divisor_fits : (w x : ℤ) → SFits w64 w → SFits w64 x → nat_abs w ≤ 1000 → nat_abs x ≤ 1000 → SFits w64 (to_z w64 (of_z w64 w) *ℤ to_z w64 (of_z w64 x))
divisor_fits w x f g p q = simp to_z-of_z (products w x (pos 0) (omega arith) q (omega arith)).two

divisor_small : (w x : ℤ) → SFits w64 w → SFits w64 x → nat_abs w ≤ 1000 → nat_abs x ≤ 1000 → nat_abs (to_z w64 (of_z w64 (to_z w64 (of_z w64 w) *ℤ to_z w64 (of_z w64 x)))) ≤ 1000000000
divisor_small w x f g p q =
    let two : SFits w64 (w *ℤ x) = (products w x (pos 0) (omega arith) q (omega arith)).two in
    let b : nat_abs (w *ℤ x) ≤ 1000000 = abs_bound w x 1000 1000 p q in
    simp to_z-of_z (omega (arith, b))

pub returns-in_err-by : goal.returns-in_err-by
returns-in_err-by c =
    let v = exact c.args.vector in
    c.from_residual.ensures ∙ gone (rescaled v c.args.at) (λ e. bounded_none 1000 v c.in_err-by.ensures (small_factors v c.args.at e))

pub product-m-requires : goal.product-m-requires
product-m-requires c =
    let p = c.point-x.result in let u = c.in_ok-by.by in let r = reached p c.point-x.ensures.near in let s = (bounded_some 1000 (exact c.args.vector) u c.in_ok-by.ensures).1 in
    record { near = kept u.x 1000000000 (omega (arith, s.x)) (omega arith); second = kept u.y 1000 s.y (omega arith); third = kept u.z 1000 s.z (omega arith) }

pub product-requires : goal.product-requires
product-requires c =
    let p = c.point-x.result in let u = c.in_ok-by.by in let r = reached p c.point-x.ensures.near in let s = (bounded_some 1000 (exact c.args.vector) u c.in_ok-by.ensures).1 in
    record { near = kept p.x 1000000000 r.x (omega arith); second = kept u.y 1000 s.y (omega arith); third = kept u.z 1000 s.z (omega arith) }

pub product-requires-2 : goal.product-requires-2
product-requires-2 c =
    let p = c.point-x.result in let u = c.in_ok-by.by in let r = reached p c.point-x.ensures.near in let s = (bounded_some 1000 (exact c.args.vector) u c.in_ok-by.ensures).1 in
    record { near = kept p.y 1000000000 r.y (omega arith); second = kept u.x 1000 s.x (omega arith); third = kept u.z 1000 s.z (omega arith) }

pub product-requires-3 : goal.product-requires-3
product-requires-3 c =
    let p = c.point-x.result in let u = c.in_ok-by.by in let r = reached p c.point-x.ensures.near in let s = (bounded_some 1000 (exact c.args.vector) u c.in_ok-by.ensures).1 in
    record { near = kept p.z 1000000000 r.z (omega arith); second = kept u.x 1000 s.x (omega arith); third = kept u.y 1000 s.y (omega arith) }

pub overflow_mul-w : goal.overflow_mul-w
overflow_mul-w c =
    let p = c.point-x.result in let u = c.in_ok-by.by in let r = reached p c.point-x.ensures.near in let s = (bounded_some 1000 (exact c.args.vector) u c.in_ok-by.ensures).1 in
    divisor_fits p.w u.x (search rules) (search rules) r.w s.x

pub product-requires-4 : goal.product-requires-4
product-requires-4 c =
    let p = c.point-x.result in let u = c.in_ok-by.by in let r = reached p c.point-x.ensures.near in let s = (bounded_some 1000 (exact c.args.vector) u c.in_ok-by.ensures).1 in
    record { near = divisor_small p.w u.x (search rules) (search rules) r.w s.x; second = kept u.y 1000 s.y (omega arith); third = kept u.z 1000 s.z (omega arith) }

pub returns : goal.returns
returns c =
    let p = c.point-x.result in let u = c.in_ok-by.by in let r = reached p c.point-x.ensures.near in
    let b = bounded_some 1000 (exact c.args.vector) u c.in_ok-by.ensures in
    let px : SFits w64 p.x = search rules in
    let py : SFits w64 p.y = search rules in
    let pz : SFits w64 p.z = search rules in
    let pw : SFits w64 p.w = search rules in
    let ux : SFits w64 u.x = search rules in
    let uy : SFits w64 u.y = search rules in
    let uz : SFits w64 u.z = search rules in
    let d : SFits w64 (p.w *ℤ u.x) = (products p.w u.x (pos 0) (omega arith) b.1.x (omega arith)).two in
    let fm : SFits w64 c.product-m.result = search rules in
    let fx : SFits w64 c.product.result = search rules in
    let fy : SFits w64 c.product-2.result = search rules in
    let fz : SFits w64 c.product-3.result = search rules in
    let fw : SFits w64 c.product-4.result = search rules in
    let gx : SFits w64 c.with_sign.result = search rules in
    let gy : SFits w64 c.with_sign-2.result = search rules in
    let gz : SFits w64 c.with_sign-3.result = search rules in
    let gw : SFits w64 c.with_sign-4.result = search rules in
    let m = simp to_z-of_z at c.product-m.ensures.is in
    let x = simp to_z-of_z at c.product.ensures.is in
    let y = simp to_z-of_z at c.product-2.ensures.is in
    let z = simp to_z-of_z at c.product-3.ensures.is in
    let w = simp to_z-of_z at c.product-4.ensures.is in
    let sx = simp to_z-of_z at c.with_sign.ensures in
    let sy = simp to_z-of_z at c.with_sign-2.ensures in
    let sz = simp to_z-of_z at c.with_sign-3.ensures in
    let sw = simp to_z-of_z at c.with_sign-4.ensures in
    let n = simp to_z-of_z at c.new.ensures in
    n ∙ ap spot_of ((λ i. record {
      x = (sx ∙ ap₂ signed m x) i;
      y = (sy ∙ ap₂ signed m y) i;
      z = (sz ∙ ap₂ signed m z) i;
      w = (sw ∙ ap₂ signed m w) i;
    }) ∙ ap₂ rescaled b.0 c.point-x.ensures.is)
