-- The words of a row, as a list. Assumes nothing.
use Rattle.std.specs.Prelude.{ℕ, List, [], ◌∷◌}
use Rattle.rows.specs.declared.line.Five.{Five}

-- the five words in their order
abbrev pub listed : Five → List (List ℕ)
listed ws = ws.profile.now ∷ ws.p.now ∷ ws.q.now ∷ ws.r.now ∷ ws.d.now ∷ []
