-- What is judged of a program's nodes, one law at a time. Assumes nothing.
use Rattle.std.specs.Prelude.{◌≡◌, ℕ, ◌+◌, ◌≤◌, min, Bool, cond, not, ◌||◌, List, ◌++◌, length, drop, ℤ, Some, None, Ok, Err, Option, Result, slice_index, slice_index_or, vec_items}
use Rattle.std.specs.List.{list_any, range_with_len}
use Rattle.model.specs.declared.law.Law.{Law}
use Rattle.model.specs.declared.law.Law.TheVariants.{Size, Loops, Numbers, Primitives, Pairs, Lengths}
use Rattle.model.specs.declared.law.Context.{Context}
use Rattle.model.specs.declared.node.Node.{Node}
use Rattle.model.specs.declared.node.Triple.{Triple}
use Rattle.model.specs.declared.node.Linear.{Linear}
use Rattle.model.specs.declared.numeral.Numeral.{Numeral}
use Rattle.model.specs.Axes.{axes}
use Rattle.model.specs.Families.{Meaning}
use Rattle.model.specs.Syntax.{Sort, Expr, Exprs, Solid, size, sizes}
use Rattle.model.specs.Nodes.{parts, flatten, flattens}
use Rattle.model.specs.Placements.{linear}
use Rattle.model.specs.Shapes.{natural}
use Rattle.model.specs.Counts.{elements}
use Rattle.model.specs.Legality.{some_axis, nonzero, beyond, first, firsts, culprit}
use Rattle.program.specs.declared.judge.Counts.{Counts}
use Rattle.program.specs.declared.layout.Layout.{Layout}
use Rattle.program.specs.declared.measure.Measure.{Measure}
use Rattle.program.specs.Measures.{nothing}

-- how many indices the loop around a node has: without one there is the index 0
abbrev pub turns : Option ℤ → ℕ
turns None = 1
turns (Some n) = natural n

-- at how many of them a vector is asked: without slope it is at all as at the first
abbrev pub turns_asked : Option ℤ → Linear → ℕ
turns_asked around v = cond (some_axis nonzero v.slope) (turns around) (min (turns around) 1)

-- f holds of some number below n
abbrev pub some_below : (ℕ → Bool) → ℕ → Bool
some_below f n = list_any f (range_with_len 0 n)

-- f holds of a linear number at some index below n
abbrev pub some_along : (ℤ → Bool) → Numeral → ℕ → Bool
some_along f a n = some_below (λ i. f (linear a.constant a.slope i)) n

-- f holds of a vector's x, y or z at some index below n
abbrev pub some_axis_along : (ℤ → Bool) → Linear → ℕ → Bool
some_axis_along f v n = list_any (λ a. some_along f a n) (axes v)

-- sizes that are too large for any kind, or that a family finds illegal
abbrev pub illegal : Meaning → ℕ → Triple → Bool
illegal m kind v = some_axis (beyond 1000000) v || not (m.legal (record { kind = kind; sizes = v }))

-- the elements told of the term at a place, and of the two behind its node, as if it had two parts
abbrev pub counts_told : List Measure → ℕ → Counts
counts_told ms place = record {
  own = (slice_index_or ms place nothing).elements;
  first = (slice_index_or ms (place + 1) nothing).elements;
  second = (slice_index_or ms (place + 1 + (slice_index_or ms (place + 1) nothing).nodes) nothing).elements;
}

-- the elements told of a node and, if it has two parts, of these are those that the counts of its parts give
abbrev pub Counted : Counts → Node → List ℕ → Type 0
Counted k n cs = (k.own ≡ elements n cs) × (2 ≤ parts n → (k.first ≡ slice_index cs 0) × (k.second ≡ slice_index cs 1))

-- what a walk answers: where it ends if no node breaks the law, or the first node that does
abbrev pub walked : Option ℕ → ℕ → Result ℕ ℕ
walked None end = Ok end
walked (Some n) end = Err n

-- the expression at a place was judged; by the law on primitives, if it keeps the law on numbers
abbrev pub TermJudged : Meaning → Law → Layout → ℕ → Context → Result ℕ ℕ → Type 0
TermJudged m law l place c r =
    (s : Sort) (e : Expr s) (rest : List Node) → drop place (vec_items l.table.nodes) ≡ flatten e ++ rest
    → (law ≡ Primitives → first m Numbers c e place ≡ None) → r ≡ walked (first m law c e place) (place + size e)

-- the same of so many expressions in a row
abbrev pub PartsJudged : Meaning → Law → Layout → ℕ → ℕ → Context → Result ℕ ℕ → Type 0
PartsJudged m law l place n c r =
    (ss : List Sort) (es : Exprs ss) (rest : List Node) → length ss ≡ n → drop place (vec_items l.table.nodes) ≡ flattens es ++ rest
    → (law ≡ Primitives → firsts m Numbers c es place ≡ None) → r ≡ walked (firsts m law c es place) (place + sizes es)

-- the law that has to be kept before a law is judged by the walk: the family is asked of allowed numbers, and the unrolling counted of equal lists
abbrev pub KeptBefore : Meaning → Solid → Law → Type 0
KeptBefore m e Size = Unit {0}
KeptBefore m e Loops = Unit {0}
KeptBefore m e Numbers = Unit {0}
KeptBefore m e Primitives = culprit m e Numbers ≡ None
KeptBefore m e Pairs = Unit {0}
KeptBefore m e Lengths = culprit m e Pairs ≡ None
