-- Places: nodes are numbered from 0 in reading order. Assumes nothing.
use Rattle.std.specs.Prelude.{ℕ, suc, ◌+◌, List, ◌∷◌}
use Rattle.model.specs.Syntax.{Sort, Head, arity, Expr, Exprs, node, more, size}

-- putting y for the x at a place of an expression gives another
mutual
  pub data Puts {t : Sort} (x y : Expr t) : (s : Sort) → ℕ → Expr s → Expr s → Type 0 where
    here : Puts x y t 0 x y
    under : {s : Sort} {h : Head s} {i : ℕ} {es es' : Exprs (arity h)} → PutsIn x y (arity h) i es es' → Puts x y s (suc i) (node h es) (node h es')

  pub data PutsIn {t : Sort} (x y : Expr t) : (ss : List Sort) → ℕ → Exprs ss → Exprs ss → Type 0 where
    first : {s : Sort} {ss : List Sort} {i : ℕ} {e e' : Expr s} {es : Exprs ss} → Puts x y s i e e' → PutsIn x y (s ∷ ss) i (more e es) (more e' es)
    later : {s : Sort} {ss : List Sort} {i : ℕ} {e : Expr s} {es es' : Exprs ss} → PutsIn x y ss i es es' → PutsIn x y (s ∷ ss) (size e + i) (more e es) (more e es')
