-- What a probe answers. Assumes nothing.
use Rattle.std.specs.Prelude.{ℕ, Bool, false, cond, not, ◌||◌, pos, Ok, Err, Result}
use Rattle.model.specs.declared.node.Triple.{Triple}
use Rattle.model.specs.declared.point.Point.{Point}
use Rattle.model.specs.Families.{Meaning}
use Rattle.model.specs.Syntax.{Solid}
use Rattle.model.specs.Placements.{placed}
use Rattle.model.specs.Shapes.{Shape, run}
use Rattle.model.specs.Unrolling.{contains}
use Rattle.family.specs.Reaching.{in_reach}
use Rattle.model.specs.Legality.{some_axis, beyond}
use Rattle.probe.specs.declared.unprobed.Unprobed.{Unprobed}
use Rattle.probe.specs.declared.unprobed.Unprobed.TheVariants.{Far, OutOfReach}

-- the number by which a caller is told
abbrev pub refusal : Unprobed → ℕ
refusal Far = 10
refusal OutOfReach = 17

-- whether a point that has been out of reach, or gets so on its way, comes to a primitive
abbrev pub straying : Shape (Bool → Point → Bool)
straying = record {
  empty = λ lost p. false;
  prim = λ k q lost p. lost;
  place = λ t v f lost p. f (lost || not (in_reach (placed t v p))) (placed t v p);
  join = λ o f g lost p. f lost p || g lost p;
}

unfoldable pub strays : Solid → Point → Bool
strays e p = run straying e 0 false p

-- some coordinate is too large
abbrev pub far : Triple → Bool
far at = some_axis (beyond 1000000) at

-- a point of whole micrometres
abbrev pub point : Triple → Point
point at = record { x = at.x; y = at.y; z = at.z; w = pos 1 }

-- what is answered of a point and an unrolled program
unfoldable pub answer : Meaning → Solid → Triple → Result Bool Unprobed
answer m e at = cond (far at) (Err Far) (cond (strays e (point at)) (Err OutOfReach) (Ok (contains m e (point at))))
