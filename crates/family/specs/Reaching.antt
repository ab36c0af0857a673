-- Which points a call tests, and what it answers of them. Assumes nothing.
use Rattle.std.specs.Prelude.{Bool, cond, ◌&&◌, ℤ, pos, neg_ℤ, int_le}
use Rattle.model.specs.declared.point.Point.{Point}
use Rattle.model.specs.declared.point.Primitive.{Primitive}
use Rattle.model.specs.Families.{Meaning}
use Rattle.family.specs.declared.family.Reach.{Reach}
use Rattle.family.specs.declared.family.Reach.TheVariants.{In, Out, OutOfReach}

-- v lies between two bounds, which belong to it
abbrev pub between : ℤ → ℤ → ℤ → Bool
between least v most = int_le least v && int_le v most

-- the largest coordinate that is tested
abbrev pub farthest : ℤ
farthest = pos 1000000000

-- a coordinate that is tested
abbrev pub near : ℤ → Bool
near v = between (neg_ℤ farthest) v farthest

-- a point that is tested
abbrev pub in_reach : Point → Bool
in_reach p = near p.x && near p.y && near p.z && between (pos 1) p.w (pos 1000)

-- what a call answers: out of reach, or else whether the record contains the point
abbrev pub reach : Meaning → Primitive → Point → Reach
reach m r p = cond (in_reach p) (cond (m.contains r p) In Out) OutOfReach
