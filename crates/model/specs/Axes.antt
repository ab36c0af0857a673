-- The numbers of a vector along x, y and z. Assumes nothing.
use Rattle.std.specs.Prelude.{List, [], ◌∷◌}
use Rattle.model.specs.declared.node.Triple.{Triple}
use Rattle.model.specs.declared.node.Linear.{Linear}
use Rattle.model.specs.declared.numeral.Numeral.{Numeral}
use Rattle.model.specs.declared.numeral.Wide.{Wide}
use Rattle.model.specs.Placements.{triple}

-- the three numbers of a vector, each with its slope
abbrev pub axes : Linear → List Numeral
axes v =
    record { constant = v.constant.x; slope = v.slope.x } ∷ record { constant = v.constant.y; slope = v.slope.y }
    ∷ record { constant = v.constant.z; slope = v.slope.z } ∷ []

-- three numbers as a vector
abbrev pub exact : Wide → Triple
exact w = triple w.x w.y w.z
