-- The turns that go into a term. Assumes nothing.
use Rattle.std.proofs.Common.{◌≡◌, ℕ, ◌+◌, ◌*◌, ◌≤◌, Bool, false, List, [], ◌∷◌, ◌++◌, length, get_or, ℤ, Some, None, sym, refl, ap, ◌∙◌, arith}
use Rattle.model.specs.declared.node.Node.{Node}
use Rattle.model.specs.declared.node.Node.TheVariants as v
use Rattle.model.specs.declared.node.Operator.{Operator}
use Rattle.model.specs.declared.node.Operator.TheVariants.{Union}
use Rattle.model.specs.declared.node.Placement.{Placement}
use Rattle.model.specs.declared.node.Linear.{Linear}
use Rattle.model.specs.Families.{Meaning}
use Rattle.model.specs.Syntax.{solid, one, empty, prim, place, join, fold, Expr, node}
use Rattle.model.specs.Placements.{at}
use Rattle.model.specs.Shapes.{union_of, run}
use Rattle.model.specs.Unrolling.{primitive}
use Rattle.program.specs.declared.element.Term.{Term}
use Rattle.program.specs.Elements.{Begins, Follows, Comes}
use Rattle.program.proofs.Items.{under, head_here}
use Rattle.program.proofs.Solids.{is_primitive, is_placed, is_joined, is_folded}
use Rattle.probe.specs.declared.task.Task.{Task}
use Rattle.probe.specs.declared.task.Frame.{Frame}
use Rattle.probe.specs.declared.task.Frame.TheVariants.{Left, Rest}
use Rattle.probe.specs.declared.task.Turn.TheVariants.{Enter, Leave}
use Rattle.probe.specs.Moving.{Spot, moves}
use Rattle.probe.specs.Terms.{term, Stands}
use Rattle.probe.specs.Walking.{both, Walk, walking, holds, any, reserve, total, AllSound, walk, walks, said, Goes}
use Rattle.probe.proofs.Terms.{term_is, stands, inside, comes, walk_is}
use Rattle.probe.proofs.Frames.{or_false, or_nothing, goes_stay, goes_push}

-- a Fold says what its elements say together
union_says : (m : Meaning) (fs : List Walk) (s : Spot) → (union_of (walking m) fs).says s ≡ any fs s
union_says m [] s = refl
union_says m (f ∷ []) s = sym (or_nothing (f.says s))
union_says m (f ∷ g ∷ fs) s = ap (both Union (f.says s)) (union_says m (g ∷ fs) s)

union_turns : (m : Meaning) (c : ℕ) (fs : List Walk) → c ≤ 2560 → total c fs ≤ 2560 * (union_of (walking m) fs).turns + c
union_turns m c [] h = omega arith
union_turns m c (f ∷ []) h = omega arith
union_turns m c (f ∷ g ∷ fs) h = omega (arith, union_turns m c (g ∷ fs) h)

-- a term at a spot
abbrev pub task : Term → Spot → Task
task t s = record { term = t; spot = s }

module _ (nodes : List Node) (m : Meaning) (fs : List Frame) (x : Task) (sound : AllSound nodes 0 fs) (low : length fs ≤ x.term.place) (st : Stands nodes (one solid) x.term.place) where
  abbrev now : Walk
  now = walk nodes m x.term

  here : Comes (walking m) nodes x.term solid now
  here = comes nodes m x.term st

  -- a solid that is answered at once
  leaf : (b : Bool) (w : Walk) → w ≡ now → w.says x.spot ≡ Some b → 1 ≤ w.turns → Goes nodes m fs (Enter x) fs (Leave b)
  leaf b w e p q = goes_stay nodes m fs (Enter x) (Leave b) (sym p ∙ ap (λ u. u.says x.spot) e) (omega (arith, ap (λ (u : Walk). u.turns) e)) sound tt

  pub prim_on : (k : ℤ) (q : Linear) (b : Bool) → v.Primitive k q ≡ get_or nodes x.term.place v.Empty → holds m (primitive k (at x.term.index q)) x.spot ≡ Some b → Goes nodes m fs (Enter x) fs (Leave b)
  prim_on k q b e h = leaf b ((walking m).prim k (at x.term.index q)) (is_primitive (walking m) nodes x.term now here k q e) h (omega arith)

  pub prim_none : (k : ℤ) (q : Linear) → v.Primitive k q ≡ get_or nodes x.term.place v.Empty → holds m (primitive k (at x.term.index q)) x.spot ≡ None → said nodes m x ≡ None
  prim_none k q e h = sym (ap (λ u. u.says x.spot) (is_primitive (walking m) nodes x.term now here k q e)) ∙ h

  pub place_on : (u : Term) (t : Placement) (a : Linear) (s : Spot) → u ≡ under x.term → v.Place t a ≡ get_or nodes x.term.place v.Empty → s ≡ moves t (at x.term.index a) x.spot
      → Goes nodes m fs (Enter x) fs (Enter (task u s))
  place_on u t a s first e p =
      let o = is_placed (walking m) nodes x.term now here u t a first e in
      let w = walk_is nodes m u o.of o.comes in
      let z : u.place ≡ x.term.place + 1 = ap (λ y. y.place) first in
      let turns = ap (λ (y : Walk). y.turns) w.0 in
      let all = ap (λ (y : Walk). y.turns) o.is in
      goes_stay nodes m fs (Enter x) (Enter (task u s)) ((λ j. (w.0 j).says (p j)) ∙ ap (λ y. y.says x.spot) o.is) (omega arith) sound (omega arith, w.1)

  pub join_on : (u w : Term) (o : Operator) → u ≡ under x.term → v.Join o ≡ get_or nodes x.term.place v.Empty → Follows nodes u w → w.index ≡ u.index → u.place ≤ w.place
      → Goes nodes m fs (Enter x) (fs ++ Left o (task w x.spot) ∷ []) (Enter (task u x.spot))
  join_on u w o first e after same ahead =
      let p = is_joined (walking m) nodes x.term now here u w o first e after same in
      let l = walk_is nodes m u p.a p.comes_a in
      let r = walk_is nodes m w p.b p.comes_b in
      let z : u.place ≡ x.term.place + 1 = ap (λ y. y.place) first in
      let tl = ap (λ (y : Walk). y.turns) l.0 in
      let tr = ap (λ (y : Walk). y.turns) r.0 in
      let all = ap (λ (y : Walk). y.turns) p.is in
      goes_push nodes m fs (Left o (task w x.spot)) (Enter x) (Enter (task u x.spot)) ((λ j. both o ((l.0 j).says x.spot) ((r.0 j).says x.spot)) ∙ ap (λ y. y.says x.spot) p.is) (omega arith)
      sound (omega arith, r.1) (omega arith, l.1)

  pub fold_on : (u : Term) → u ≡ under x.term → v.Fold ≡ get_or nodes x.term.place v.Empty → length nodes ≤ 640 → Goes nodes m fs (Enter x) (fs ++ Rest (task u x.spot) 0 false ∷ []) (Leave false)
  fold_on u first e few =
      let p = is_folded (walking m) nodes x.term now here u first e in
      let ws : walks nodes m u ≡ run (walking m) p.list u.index = ap (λ l. run (walking m) l u.index) (term_is nodes u.place p.list p.begins) in
      let a : union_of (walking m) (walks nodes m u) ≡ now = ap (union_of (walking m)) ws ∙ p.is in
      let i = inside nodes (one solid) x.term.place st in
      let z : u.place ≡ x.term.place + 1 = ap (λ y. y.place) first in
      let c : reserve u.place ≤ 2560 = omega arith in
      let turns = ap (λ (y : Walk). y.turns) a in
      let most = union_turns m (reserve u.place) (walks nodes m u) c in
      goes_push nodes m fs (Rest (task u x.spot) 0 false) (Enter x) (Leave false)
      (or_false (any (walks nodes m u) x.spot) ∙ sym (union_says m (walks nodes m u) x.spot) ∙ ap (λ y. y.says x.spot) a)
      (omega arith) sound (omega arith, stands nodes u.place p.list p.begins) tt

  -- no other node but Empty begins a solid
  pub rest_on : ((k : ℤ) (q : Linear) → v.Primitive k q ≡ get_or nodes x.term.place v.Empty → ⊥) → ((t : Placement) (q : Linear) → v.Place t q ≡ get_or nodes x.term.place v.Empty → ⊥)
      → ((o : Operator) → v.Join o ≡ get_or nodes x.term.place v.Empty → ⊥) → (v.Fold ≡ get_or nodes x.term.place v.Empty → ⊥) → Goes nodes m fs (Enter x) fs (Leave false)
  unfolding run
  rest_on a b c f = leaf false (walking m).empty (sym (go (term nodes (one solid) x.term.place) st)) refl (omega arith)
    where
      go : (e : Expr (one solid)) → Begins nodes x.term.place e → run (walking m) e x.term.index ≡ (walking m).empty
      go (node empty es) w = refl
      go (node (prim k q) es) w = absurd (a k q (sym (head_here nodes x.term.place (prim k q) es w)))
      go (node (place t q) es) w = absurd (b t q (sym (head_here nodes x.term.place (place t q) es w)))
      go (node (join o) es) w = absurd (c o (sym (head_here nodes x.term.place (join o) es w)))
      go (node fold es) w = absurd (f (sym (head_here nodes x.term.place fold es w)))
