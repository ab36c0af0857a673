-- The terms of a table, by their places. Assumes nothing.
use Rattle.std.specs.Prelude.{ℕ, List, [], ◌∷◌, drop}
use Rattle.model.specs.declared.node.Node.{Node}
use Rattle.model.specs.Syntax.{Sort, Expr}
use Rattle.model.specs.Held.{read, only}
use Rattle.program.specs.Elements.{Begins}

module _ (nodes : List Node) where
  -- the expression of a sort that begins at a place
  unfoldable pub term : (s : Sort) → ℕ → Expr s
  term s place = only (read (s ∷ []) (drop place nodes))

  -- it does begin there, and no order stands in it
  abbrev pub Stands : Sort → ℕ → Type 0
  Stands s place = Begins nodes place (term s place)
