-- What a walk with a stack of frames still has to answer. Assumes nothing.
use Rattle.std.specs.Prelude.{◌≡◌, ℕ, suc, ◌+◌, ◌-◌, ◌*◌, ◌<◌, ◌≤◌, Bool, false, cond, not, ◌&&◌, List, [], ◌∷◌, length, drop, Some, None, Ok, Err, Option, Result, nat_le}
use Rattle.model.specs.declared.node.Node.{Node}
use Rattle.model.specs.declared.node.Operator.{Operator}
use Rattle.model.specs.declared.node.Operator.TheVariants.{Union}
use Rattle.model.specs.declared.point.Primitive.{Primitive}
use Rattle.model.specs.Families.{Meaning}
use Rattle.model.specs.Legality.{some_axis, beyond}
use Rattle.model.specs.Syntax.{solid, one, many}
use Rattle.model.specs.Shapes.{Shape, run}
use Rattle.model.specs.Unrolling.{primitive, apply, belonging}
use Rattle.program.specs.declared.element.Term.{Term}
use Rattle.probe.specs.declared.task.Task.{Task}
use Rattle.probe.specs.declared.task.Frame.{Frame}
use Rattle.probe.specs.declared.task.Frame.TheVariants.{Left, Right, Rest}
use Rattle.probe.specs.declared.task.Turn.{Turn}
use Rattle.probe.specs.declared.task.Turn.TheVariants.{Enter, Leave}
use Rattle.probe.specs.declared.unprobed.Unprobed.{Unprobed}
use Rattle.probe.specs.declared.unprobed.Unprobed.TheVariants.{OutOfReach}
use Rattle.probe.specs.Moving.{Spot, moves}
use Rattle.probe.specs.Terms.{term, Stands}

-- ---- what a family is asked
-- a kind that a legal primitive can have
abbrev pub kind_of : ℕ → Option ℕ
kind_of k = cond (nat_le k 65535) (Some k) None

-- a record with a kind and sizes that a legal primitive can have
abbrev pub askable : Primitive → Bool
askable r = nat_le r.kind 65535 && not (some_axis (beyond 1000000) r.sizes)

-- a family's meaning, where any other record contains nothing: the code asks about no other
abbrev pub asked : Meaning → Meaning
asked m = record { legal = m.legal; contains = λ r p. askable r && m.contains r p; absorbed = m.absorbed }

-- ---- answers
-- whether a solid contains the point, if the point did not get lost
abbrev pub Answer : Type 0
Answer = Option Bool

abbrev pub both : Operator → Answer → Answer → Answer
both o None b = None
both o (Some a) None = None
both o (Some a) (Some b) = Some (apply belonging o a b)

-- the walk through a solid: its answer at each spot, and how many nodes it comes to
pub record Walk : Type 0 where
  pub says : Spot → Answer
  pub turns : ℕ

abbrev pub holds : Meaning → Primitive → Spot → Answer
holds m r (Some p) = Some (m.contains r p)
holds m r None = None

abbrev pub walking : Meaning → Shape Walk
walking m = record {
  empty = record { says = λ s. Some false; turns = 1 };
  prim = λ k q. record { says = holds m (primitive k q); turns = 1 };
  place = λ t v f. record { says = λ s. f.says (moves t v s); turns = suc f.turns };
  join = λ o f g. record { says = λ s. both o (f.says s) (g.says s); turns = suc (f.turns + g.turns) };
}

-- what the elements of a list say together
abbrev pub any : List Walk → Spot → Answer
any [] s = Some false
any (f ∷ fs) s = both Union (f.says s) (any fs s)

-- more than a walk makes turns through the nodes that stand behind a place
abbrev pub reserve : ℕ → ℕ
reserve place = 4 * (640 - place)

-- each element with so much in reserve
abbrev pub total : ℕ → List Walk → ℕ
total c [] = 0
total c (f ∷ fs) = (2560 * f.turns + c) + total c fs

module _ (nodes : List Node) where
  -- a frame that has so many below it: it stands behind them in the table
  abbrev pub Sound : ℕ → Frame → Type 0
  Sound t (Left o x) = (t < x.term.place) × Stands nodes (one solid) x.term.place
  Sound t (Right o b) = Unit {0}
  Sound t (Rest x k b) = (t < x.term.place) × Stands nodes (many solid) x.term.place

  -- the bottom frame is the first
  abbrev pub AllSound : ℕ → List Frame → Type 0
  AllSound t [] = Unit {0}
  AllSound t (f ∷ fs) = Sound t f × AllSound (suc t) fs

  -- so many frames stand before what is entered
  abbrev pub Low : ℕ → Turn → Type 0
  Low t (Enter x) = (t ≤ x.term.place) × Stands nodes (one solid) x.term.place
  Low t (Leave b) = Unit {0}

  module _ (m : Meaning) where
    -- the walks of a solid and of a list's elements, by the term's place and index
    abbrev pub walk : Term → Walk
    walk t = run (walking m) (term nodes (one solid) t.place) t.index

    abbrev pub walks : Term → List Walk
    walks t = run (walking m) (term nodes (many solid) t.place) t.index

    abbrev pub said : Task → Answer
    said x = (walk x.term).says x.spot

    abbrev pub cost : Task → ℕ
    cost x = 2560 * (walk x.term).turns + reserve x.term.place

    -- what becomes of an answer
    abbrev pub after : Frame → Answer → Answer
    after (Left o x) a = both o a (said x)
    after (Right o b) a = both o (Some b) a
    after (Rest x k b) a = both Union (both Union (Some b) a) (any (drop k (walks x.term)) x.spot)

    unfoldable pub resume : List Frame → Answer → Answer
    resume [] a = a
    resume (f ∷ fs) a = after f (resume fs a)

    -- more than the turns to come
    abbrev pub left : Frame → ℕ
    left (Left o x) = 2 + cost x
    left (Right o b) = 1
    left (Rest x k b) = 1 + total (reserve x.term.place) (drop k (walks x.term))

    unfoldable pub work : List Frame → ℕ
    work [] = 0
    work (f ∷ fs) = left f + work fs

    abbrev pub turn_says : Turn → Answer
    turn_says (Enter x) = said x
    turn_says (Leave b) = Some b

    abbrev pub turn_cost : Turn → ℕ
    turn_cost (Enter x) = cost x
    turn_cost (Leave b) = 0

    -- a turn from the frames fs and the turn t leads to gs and u
    pub record Goes (fs : List Frame) (t : Turn) (gs : List Frame) (u : Turn) : Type 0 where
      pub same : resume gs (turn_says u) ≡ resume fs (turn_says t)
      pub less : work gs + turn_cost u < work fs + turn_cost t
      pub sound : AllSound 0 gs
      pub low : Low (length gs) u

    abbrev pub Turns : List Frame → Turn → List Frame → Result Turn Unprobed → Type 0
    Turns fs t gs (Ok u) = Goes fs t gs u
    Turns fs t gs (Err e) = (e ≡ OutOfReach) × (resume fs (turn_says t) ≡ None)

    -- the task y says what the walk w says at the spot of x, in no more turns, and stands behind x
    pub record Leads (x : Task) (w : Walk) (y : Task) : Type 0 where
      pub stands : Stands nodes (one solid) y.term.place
      pub behind : x.term.place < y.term.place
      pub same : said y ≡ w.says x.spot
      pub turns : (walk y.term).turns ≤ w.turns

abbrev pub verdict : Answer → Result Bool Unprobed
verdict None = Err OutOfReach
verdict (Some b) = Ok b
