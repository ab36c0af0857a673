-- Proper orders: each number once. Assumes nothing.
use Rattle.std.specs.Prelude.{◌≡◌, ℕ, zero, suc, ◌+◌, ◌<◌, cond, List, [], ◌∷◌, ◌++◌, length, replicate, ◌==◌}
use Rattle.model.specs.Syntax.{Sort, many, num, Head, arity, empty, prim, place, join, fold, vec, list, repeat, tab, concat, sort, unsort, map2, number, Expr, Exprs, node, none, more}
use Rattle.model.specs.Held.{only}
use Rattle.model.specs.Counts.{count}

-- how often j stands in a list
abbrev pub times_in : ℕ → List ℕ → ℕ
times_in j [] = 0
times_in j (k ∷ p) = cond (j == k) 1 0 + times_in j p

-- an order for n elements has each of 0 to n - 1 once
pub record Order (p : List ℕ) (n : ℕ) : Type 0 where
  pub sized : length p ≡ n
  pub each : (j : ℕ) → j < n → times_in j p ≡ 1

-- the numbers in front of a list, and what stands behind them
abbrev pub number_in : Expr num → ℕ
number_in (node (number j) es) = j

abbrev pub order_in : (ss : List Sort) (n : ℕ) → Exprs (replicate n num ++ ss) → List ℕ
order_in ss zero es = []
order_in ss (suc n) (more e es) = number_in e ∷ order_in ss n es

abbrev pub behind : (ss : List Sort) (n : ℕ) → Exprs (replicate n num ++ ss) → Exprs ss
behind ss zero es = es
behind ss (suc n) (more e es) = behind ss n es

-- the order of a Sort or Unsort is one for as many elements as its list has
abbrev pub Proper : {s : Sort} (h : Head s) → Exprs (arity h) → Type 0
Proper empty es = Unit {0}
Proper (prim k v) es = Unit {0}
Proper (place t v) es = Unit {0}
Proper (join o) es = Unit {0}
Proper fold es = Unit {0}
Proper (vec v) es = Unit {0}
Proper (list n) es = Unit {0}
Proper (repeat n) es = Unit {0}
Proper (tab n) es = Unit {0}
Proper concat es = Unit {0}
Proper (sort {k} n) es = Order (order_in (many k ∷ []) n es) (count (only (behind (many k ∷ []) n es)))
Proper (unsort {k} n) es = Order (order_in (many k ∷ []) n es) (count (only (behind (many k ∷ []) n es)))
Proper (map2 t) es = Unit {0}
Proper (number j) es = Unit {0}

-- all orders of a program are proper
unfoldable mutual
  pub Ordered : {s : Sort} → Expr s → Type 0
  Ordered (node h es) = Proper h es × AllOrdered es

  pub AllOrdered : {ss : List Sort} → Exprs ss → Type 0
  AllOrdered none = Unit {0}
  AllOrdered (more e es) = Ordered e × AllOrdered es
