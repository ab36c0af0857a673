use Rattle.std.proofs.Common.{◌≡◌, ℕ, Bool, true, false, cond, not, ◌&&◌, leb, Some, None, sym, refl, ap, ◌∙◌, w64}
use Rattle.std.proofs.lemmas.Int.{to_z-of_z}
use Rattle.model.specs.declared.node.Triple.{Triple}
use Rattle.model.specs.declared.point.Point.{Point}
use Rattle.model.specs.Axes.{exact}
use Rattle.model.specs.Families.{Meaning}
use Rattle.model.specs.Legality.{some_axis, beyond}
use Rattle.model.specs.Shapes.{natural}
use Rattle.program.specs.Narrow.{bounded}
use Rattle.probe.specs.Walking.{asked, kind_of}
use Rattle.probe.proofs.asked.contains.Goals as goal

module _ (m : Meaning) (n : ℕ) (v : Triple) (p : Point) where
  abbrev Asked : Bool
  Asked = (asked m).contains (record { kind = n; sizes = v }) p

  both_some : (k : ℕ) (q : Triple) → Some k ≡ kind_of n → Some q ≡ bounded 1000000 v → m.contains (record { kind = k; sizes = q }) p ≡ Asked
  both_some k q e f = go (leb n 65535) (some_axis (beyond 1000000) v) e f
    where
      go : (a b : Bool) → Some k ≡ cond a (Some n) None → Some q ≡ cond b None (Some v) → m.contains (record { kind = k; sizes = q }) p ≡ ((a && not b) && m.contains (record { kind = n; sizes = v }) p)
      go true false e f = let x : k ≡ n = cc in let y : q ≡ v = cc in λ i. m.contains (record { kind = x i; sizes = y i }) p
      go true true e f = let z : ⊥ = cc in absurd z
      go false b e f = let z : ⊥ = cc in absurd z

  no_kind : None ≡ kind_of n → false ≡ Asked
  no_kind e = go (leb n 65535) e
    where
      go : (a : Bool) → None ≡ cond a (Some n) None → false ≡ ((a && not (some_axis (beyond 1000000) v)) && m.contains (record { kind = n; sizes = v }) p)
      go true e = let z : ⊥ = cc in absurd z
      go false e = refl

  no_sizes : None ≡ bounded 1000000 v → false ≡ Asked
  no_sizes e = go (leb n 65535) (some_axis (beyond 1000000) v) e
    where
      go : (a b : Bool) → None ≡ cond b None (Some v) → false ≡ ((a && not b) && m.contains (record { kind = n; sizes = v }) p)
      go true true e = refl
      go false true e = refl
      go a false e = let z : ⊥ = cc in absurd z

pub returns-in-Some-Some : goal.returns-in-Some-Some
returns-in-Some-Some g c =
    let k = ap (λ z. kind_of (natural z)) (to_z-of_z w64 c.args.kind c.ranges.kind) in
    c.is_in.ensures ∙ both_some (g.F.Family.meaning c.args.family.now) (natural c.args.kind) (exact c.args.sizes) c.args.at c.in-Some-Some.kind c.in-Some-Some.sizes (c.in-Some-Some.ensures ∙ k) c.in-Some-Some.ensures'

pub returns-in_default : goal.returns-in_default
returns-in_default g c = no_sizes (g.F.Family.meaning c.args.family.now) (natural c.args.kind) (exact c.args.sizes) c.args.at c.in_default.ensures'

pub returns-in_default-2 : goal.returns-in_default-2
returns-in_default-2 g c =
    let k = ap (λ z. kind_of (natural z)) (to_z-of_z w64 c.args.kind c.ranges.kind) in
    no_kind (g.F.Family.meaning c.args.family.now) (natural c.args.kind) (exact c.args.sizes) c.args.at (sym c.in_default.is-0 ∙ c.kind_of.ensures ∙ k)
