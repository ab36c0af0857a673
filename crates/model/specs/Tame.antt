-- Programs whose unrolling has no large number. Assumes nothing.
use Rattle.std.specs.Prelude.{Bool, true, not, ◌&&◌}
use Rattle.model.specs.declared.node.Triple.{Triple}
use Rattle.model.specs.Syntax.{Solid}
use Rattle.model.specs.Shapes.{Shape, run}
use Rattle.model.specs.Legality.{some_axis, beyond, unkind}

-- no number of the vector is beyond 1,000,000 either way
abbrev pub small_vector : Triple → Bool
small_vector v = not (some_axis (beyond 1000000) v)

-- solids taken as whether their kinds are kinds and their numbers small
abbrev pub taming : Shape Bool
taming = record {
  empty = true;
  prim = λ k q. not (unkind k) && small_vector q;
  place = λ t v x. small_vector v && x;
  join = λ o x y. x && y;
}

unfoldable pub tame : Solid → Bool
tame e = run taming e 0
