-- What leads to an element of a list. Assumes nothing.
use Rattle.std.proofs.Common.{◌≡◌, ℕ, List, Some, None, Option, ap, ◌∙◌, subst, arith}
use Rattle.model.specs.declared.node.Node.{Node}
use Rattle.model.specs.declared.node.Placement.{Placement}
use Rattle.model.specs.declared.node.Triple.{Triple}
use Rattle.model.specs.Families.{Meaning}
use Rattle.model.specs.Syntax.{solid, vector}
use Rattle.model.specs.Unrolling.{programs}
use Rattle.program.specs.declared.element.Term.{Term}
use Rattle.program.specs.declared.element.Both.{Both}
use Rattle.program.specs.declared.element.Item.{Item}
use Rattle.program.specs.declared.element.Item.TheVariants.{Whole, Placed}
use Rattle.program.specs.Elements.{Holds, IsItem, Finds, Behind}
use Rattle.program.proofs.Taken.{finds_in}
use Rattle.probe.specs.declared.task.Task.{Task}
use Rattle.probe.specs.Moving.{Spot, moves}
use Rattle.probe.specs.Walking.{Walk, walking, Leads}
use Rattle.probe.proofs.Terms.{walk_is}
use Rattle.probe.proofs.Entering.{task}

module _ (nodes : List Node) (m : Meaning) (x : Task) (k : ℕ) (w : Walk) (h : Holds (walking m) nodes x.term k solid w) (r : Option Item) (finds : Finds nodes x.term k r) (behind : Behind nodes x.term r) where
  -- the item that is found, as it is
  found : (i : Option Item) → r ≡ i → IsItem (walking m) nodes i solid w × Behind nodes x.term i
  found i e = subst (λ z. IsItem (walking m) nodes z solid w × Behind nodes x.term z) e (finds_in (walking m) nodes x.term k r finds w h, behind)

  pub led_whole : (t : Term) → r ≡ Some (Whole t) → Leads nodes m x w (task t x.spot)
  led_whole t e =
      let f = found (Some (Whole t)) e in
      let i = walk_is nodes m t w f.0 in
      record { stands = i.1; behind = f.1.1; same = ap (λ y. y.says x.spot) i.0; turns = omega (arith, ap (λ (y : Walk). y.turns) i.0) }

  -- a placed solid is as the element of the solids, from the spot that the placement leads to
  pub placed_on : (p : Placement) (both : Both) (by : Triple) (s : Spot) → r ≡ Some (Placed p both) → ((u : Triple) → Holds programs nodes both.vectors both.k vector u → by ≡ u) → s ≡ moves p by x.spot
      → (z : Walk) × Holds (walking m) nodes both.solids both.k solid z × ((y : Task) → Leads nodes m (task both.solids s) z y → Leads nodes m x w y)
  placed_on p both by s e is_by moved =
      let f = found (Some (Placed p both)) e in
      let i = f.0 in
      let turns = ap (λ (z : Walk). z.turns) i.is in (
        i.of,
        i.solids,
        λ y l. record {
          stands = l.stands;
          behind = omega (arith, f.1.1, l.behind);
          same = l.same ∙ ap i.of.says (moved ∙ ap (λ u. moves p u x.spot) (is_by i.by i.vectors)) ∙ ap (λ z. z.says x.spot) i.is;
          turns = omega (arith, l.turns, turns);
        },
      )

  pub led_none : (y : Task) → r ≡ None → Leads nodes m x w y
  led_none y e = absurd (found None e).0
