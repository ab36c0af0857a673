-- What an item is in the unrolling, it is in every way to take solids. Assumes nothing.
use Rattle.std.proofs.Common.{◌≡◌, ℕ, List, get_or, Some, None, Option, sym, refl, ap, ◌∙◌}
use Rattle.model.specs.declared.node.Node.{Node}
use Rattle.model.specs.Syntax.{solid, many, Expr, Solid, node, none, more, fold, sort, number}
use Rattle.model.specs.Shapes.{Shape, idle, run, runs}
use Rattle.model.specs.Unrolling.{programs}
use Rattle.model.proofs.Related.{keeps_run}
use Rattle.model.proofs.Unrolled.{at_still}
use Rattle.program.specs.declared.element.Term.{Term}
use Rattle.program.specs.declared.element.Item.{Item}
use Rattle.program.specs.declared.element.Item.TheVariants.{Whole, Placed}
use Rattle.program.specs.Elements.{Holds, IsItem, Finds}

module _ {X : Type 0} (H : Shape X) where
  -- a solid without lists is taken as the program that it unrolls
  pub taken : (e : Solid) (i : ℕ) → run H (run programs e i) 0 ≡ run H e i
  unfolding run runs
  taken e i =
      keeps_run programs H (λ x. run H x 0)
      (record {
        on_empty = refl;
        on_prim = λ k q. ap (H.prim k) (at_still 0 q);
        on_place = λ t v x. ap (λ u. H.place t u (run H x 0)) (at_still 0 v);
        on_join = λ o x y. refl;
      }) e i

  -- the element j of a list, as a program: the union of the list that is sorted to it alone
  abbrev pick : ℕ → Expr (many solid) → Solid
  pick j l = node fold (more (node (sort 1) (more (node (number j) none) (more l none))) none)

  pub taken_at : (l : Expr (many solid)) (i j : ℕ) → run H (get_or (run programs l i) j (idle programs solid)) 0 ≡ get_or (run H l i) j (idle H solid)
  unfolding run runs
  taken_at l i j = taken (pick j l) i

  module _ (nodes : List Node) where
    taken_held : (t : Term) (j : ℕ) (x : Solid) → Holds programs nodes t j solid x → Holds H nodes t j solid (run H x 0)
    taken_held t j x h = record { list = h.list; begins = h.begins; within = h.within; is = sym (taken_at h.list t.index j) ∙ ap (λ y. run H y 0) h.is }

    taken_item : (r : Option Item) (x : Solid) → IsItem programs nodes r solid x → IsItem H nodes r solid (run H x 0)
    unfolding run runs
    taken_item None x is = is
    taken_item (Some (Whole t)) x is = record { expr = is.expr; begins = is.begins; is = sym (taken is.expr t.index) ∙ ap (λ y. run H y 0) is.is }
    taken_item (Some (Placed p both)) x is =
        record {
          by = is.by;
          of = run H is.of 0;
          vectors = is.vectors;
          solids = taken_held both.solids both.k is.of is.solids;
          is = ap (λ q. H.place p q (run H is.of 0)) (sym (at_still 0 is.by)) ∙ ap (λ y. run H y 0) is.is;
        }

    item_as : (r : Option Item) {x y : X} → x ≡ y → IsItem H nodes r solid x → IsItem H nodes r solid y
    item_as None e is = is
    item_as (Some (Whole t)) e is = record { expr = is.expr; begins = is.begins; is = is.is ∙ e }
    item_as (Some (Placed p both)) e is = record { by = is.by; of = is.of; vectors = is.vectors; solids = is.solids; is = is.is ∙ e }

    -- the item that is found is the element of a list of solids
    pub finds_in : (t : Term) (j : ℕ) (r : Option Item) → Finds nodes t j r → (x : X) → Holds H nodes t j solid x → IsItem H nodes r solid x
    finds_in t j r found x has =
        let y = get_or (run programs has.list t.index) j (idle programs solid) in
        item_as r (taken_at has.list t.index j ∙ has.is)
        (taken_item r y (found solid y (record { list = has.list; begins = has.begins; within = has.within; is = refl })))
