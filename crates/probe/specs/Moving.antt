-- Where a point gets to by placements. Assumes nothing.
use Rattle.std.specs.Prelude.{◌≡◌, ℕ, ◌≤◌, cond, ℤ, Some, None, Option, unsigned_abs}
use Rattle.model.specs.declared.node.Placement.{Placement}
use Rattle.model.specs.declared.node.Triple.{Triple}
use Rattle.model.specs.declared.point.Point.{Point}
use Rattle.model.specs.Placements.{placed, quarters, back, first, second}
use Rattle.family.specs.Reaching.{in_reach}

-- a plane turned back by so many quarters, as far from 0 as before
pub record Turned (q : ℕ) (a b c d : ℤ) : Type 0 where
  pub first_is : c ≡ first (back (quarters q)) a b
  pub second_is : d ≡ second (back (quarters q)) a b
  pub near_first : unsigned_abs c ≤ 1000000000
  pub near_second : unsigned_abs d ≤ 1000000000

-- where a point has got to: nowhere, if it got out of reach
abbrev pub Spot : Type 0
Spot = Option Point

-- the spot of a point
abbrev pub spot_of : Point → Spot
spot_of p = cond (in_reach p) (Some p) None

-- where a placement takes a spot; what is gone stays gone
abbrev pub moves : Placement → Triple → Spot → Spot
moves t v (Some p) = spot_of (placed t v p)
moves t v None = None
