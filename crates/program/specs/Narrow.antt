-- Vectors whose numbers are small. Assumes nothing.
use Rattle.std.specs.Prelude.{ℕ, cond, Some, None, Option}
use Rattle.model.specs.declared.node.Triple.{Triple}
use Rattle.model.specs.Legality.{some_axis, beyond}

-- a vector, if none of its numbers is farther from 0 than m
abbrev pub bounded : ℕ → Triple → Option Triple
bounded m v = cond (some_axis (beyond m) v) None (Some v)
