-- What a family of primitives means, and the laws that every family keeps. Assumes nothing.
use Rattle.std.specs.Prelude.{◌≡◌, Bool, true, false, cond, ℤ, pos, ◌*ℤ◌, neg_ℤ, ◌<ℤ◌, Some, Option}
use Rattle.std.specs.Int.Signed.{non_neg}
use Rattle.model.specs.declared.node.Triple.{Triple}
use Rattle.model.specs.declared.point.Point.{Point}
use Rattle.model.specs.declared.point.Primitive.{Primitive}

-- the legal records, the points that each contains, and the record, if any, that absorbs three factors
pub record Meaning : Type 0 where
  pub legal : Primitive → Bool
  pub contains : Primitive → Point → Bool
  pub absorbed : Primitive → Triple → Option Primitive

-- a number, negated if m is negative
abbrev pub signed : ℤ → ℤ → ℤ
signed m v = cond (non_neg m) v (neg_ℤ v)

-- the point that A contains exactly if A scaled by the factors contains p
abbrev pub rescaled : Triple → Point → Point
rescaled f p = let m : ℤ = f.x *ℤ f.y *ℤ f.z in record {
  x = signed m (p.x *ℤ f.y *ℤ f.z);
  y = signed m (p.y *ℤ f.x *ℤ f.z);
  z = signed m (p.z *ℤ f.x *ℤ f.y);
  w = signed m (p.w *ℤ f.x *ℤ f.y *ℤ f.z);
}

-- the point with each number k times as large: for a positive k the same place
abbrev pub times : ℤ → Point → Point
times k p = record { x = k *ℤ p.x; y = k *ℤ p.y; z = k *ℤ p.z; w = k *ℤ p.w }

-- no factor is 0
pub record NoZero (f : Triple) : Type 0 where
  pub x : f.x ≡ pos 0 → ⊥
  pub y : f.y ≡ pos 0 → ⊥
  pub z : f.z ≡ pos 0 → ⊥

-- what holds if r absorbs the factors f as q: only a legal record absorbs, and no factor 0; q is legal, of r's kind, and r scaled
pub record Absorbs (m : Meaning) (r : Primitive) (f : Triple) (q : Primitive) : Type 0 where
  pub legal_before : m.legal r ≡ true
  pub no_zero : NoZero f
  pub legal_after : m.legal q ≡ true
  pub same_kind : q.kind ≡ r.kind
  pub same_points : (p : Point) → pos 0 <ℤ p.w → m.contains q p ≡ m.contains r (rescaled f p)

-- what every family keeps: an illegal record contains nothing, an absorbing one is as above, and a place is contained or not however its point is written
pub record Laws (m : Meaning) : Type 0 where
  pub illegal_empty : (r : Primitive) (p : Point) → m.legal r ≡ false → m.contains r p ≡ false
  pub absorbs : (r : Primitive) (f : Triple) (q : Primitive) → m.absorbed r f ≡ Some q → Absorbs m r f q
  pub same_place : (r : Primitive) (p : Point) (k : ℤ) → pos 0 <ℤ p.w → pos 0 <ℤ k → m.contains r (times k p) ≡ m.contains r p
