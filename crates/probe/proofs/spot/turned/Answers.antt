use Rattle.std.proofs.Common.{◌≡◌, ℕ, ℤ, ap, ap₂, ◌∙◌, arith, w64, SFits, rules}
use mir.Syntax.{w128}
use Rattle.std.proofs.lemmas.Int.{to_z-of_z}
use Rattle.model.specs.Axes.{exact}
use Rattle.model.specs.Placements.{Quarter, quarter, quarters, first, second, back, rotated}
use Rattle.family.proofs.Fits.{reached}
use Rattle.probe.specs.Moving.{Turned, spot_of}
use Rattle.probe.proofs.Bounds.{kept}
use Rattle.probe.proofs.spot.turned.Goals as goal

-- the numbers of a plane that a call turned back
turned_is : (q : ℕ) (k : Quarter) (a b c d : ℤ) → quarters q ≡ k → Turned q a b c d → (c ≡ first (back k) a b) × (d ≡ second (back k) a b)
turned_is q k a b c d e t = (t.first_is ∙ ap (λ j. first (back j) a b) e, t.second_is ∙ ap (λ j. second (back j) a b) e)

pub turn_back-x-requires : goal.turn_back-x-requires
turn_back-x-requires c = let r = reached c.point-x.result c.point-x.ensures.near in
    (kept c.point-x.result.x 1000000000 r.x (omega arith), kept c.point-x.result.y 1000000000 r.y (omega arith))

pub turn_back-z-requires : goal.turn_back-z-requires
turn_back-z-requires c = let r = reached c.point-x.result c.point-x.ensures.near in
    (kept c.point-x.result.z 1000000000 r.z (omega arith), kept c.turn_back-x.result.0 1000000000 c.turn_back-x.ensures.near_first (omega arith))

pub returns : goal.returns
returns c =
    let v = c.args.vector in let p = c.point-x.result in
    let vx : SFits w128 v.x = search rules in
    let vy : SFits w128 v.y = search rules in
    let vz : SFits w128 v.z = search rules in
    let px : SFits w64 p.x = search rules in
    let py : SFits w64 p.y = search rules in
    let pz : SFits w64 p.z = search rules in
    let pw : SFits w64 p.w = search rules in
    let x0 : SFits w64 c.turn_back-x.result.0 = search rules in
    let x1 : SFits w64 c.turn_back-x.result.1 = search rules in
    let z0 : SFits w64 c.turn_back-z.result.0 = search rules in
    let z1 : SFits w64 c.turn_back-z.result.1 = search rules in
    let y0 : SFits w64 c.turn_back-y.result.0 = search rules in
    let y1 : SFits w64 c.turn_back-y.result.1 = search rules in
    let tz = turned_is _ _ _ _ _ _ (simp to_z-of_z at c.quarter.ensures) (simp to_z-of_z at c.turn_back-x.ensures) in
    let ty = turned_is _ _ _ _ _ _ (simp to_z-of_z at c.quarter-2.ensures) (simp to_z-of_z at c.turn_back-z.ensures) in
    let tx = turned_is _ _ _ _ _ _ (simp to_z-of_z at c.quarter-3.ensures) (simp to_z-of_z at c.turn_back-y.ensures) in
    let across = ty.0 ∙ ap (first (back (quarter v.y)) p.z) tz.0 in
    let n = simp to_z-of_z at c.new.ensures in
    n ∙ ap spot_of ((λ i. record {
      x = (ty.1 ∙ ap (second (back (quarter v.y)) p.z) tz.0) i;
      y = (tx.0 ∙ ap₂ (first (back (quarter v.x))) tz.1 across) i;
      z = (tx.1 ∙ ap₂ (second (back (quarter v.x))) tz.1 across) i;
      w = p.w;
    }) ∙ ap (rotated (exact v)) c.point-x.ensures.is)
