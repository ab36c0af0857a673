-- What a solid comes to, by its node. Assumes nothing.
use Rattle.std.proofs.Common.{◌≡◌, ℕ, ◌+◌, true, ◌&&◌, List, [], ◌∷◌, ◌++◌, get_or, drop, ℤ, sym, refl, ap, ◌∙◌, subst}
use Rattle.std.proofs.lemmas.Bool.{and_parts}
use Rattle.model.specs.declared.node.Node.{Node}
use Rattle.model.specs.declared.node.Node.TheVariants as v
use Rattle.model.specs.declared.node.Operator.{Operator}
use Rattle.model.specs.declared.node.Placement.{Placement}
use Rattle.model.specs.declared.node.Linear.{Linear}
use Rattle.model.specs.Syntax.{solid, one, many, Head, arity, Expr, Exprs, Solid, node, textual_head, textuals}
use Rattle.model.specs.Syntax as S
use Rattle.model.specs.Nodes.{node_of, flattens}
use Rattle.model.specs.Held.{only}
use Rattle.model.specs.Placements.{at}
use Rattle.model.specs.Shapes.{Shape, made_of, union_of, run, runs}
use Rattle.program.specs.declared.element.Term.{Term}
use Rattle.program.specs.Elements.{Begins, Follows, Comes}
use Rattle.program.proofs.Items.{under, opened, head_here, part_begins, part_run, Pair, pair, left_begins, right_begins}

-- a solid that is placed comes to what its part comes to, placed
pub record PlacedPart {X : Type 0} (H : Shape X) (nodes : List Node) (u : Term) (make : X → X) (x : X) : Type 0 where
  pub of : X
  pub comes : Comes H nodes u solid of
  pub is : make of ≡ x

-- two solids that are joined, of which the second stands at w
pub record JoinedParts {X : Type 0} (H : Shape X) (nodes : List Node) (u w : Term) (make : X → X → X) (x : X) : Type 0 where
  pub a : X
  pub b : X
  pub comes_a : Comes H nodes u solid a
  pub comes_b : Comes H nodes w solid b
  pub is : make a b ≡ x

-- a list whose union it is
pub record FoldedPart {X : Type 0} (H : Shape X) (nodes : List Node) (u : Term) (x : X) : Type 0 where
  pub list : Expr (many solid)
  pub begins : Begins nodes u.place list
  pub is : union_of H (run H list u.index) ≡ x

module _ {X : Type 0} (H : Shape X) (nodes : List Node) (t : Term) (x : X) (comes : Comes H nodes t solid x) where
  -- what is known of a solid with this head
  record Known (h : Head (one solid)) : Type 0 where
    parts : Exprs (arity h)
    rest : List Node
    stand : drop (t.place + 1) nodes ≡ flattens parts ++ rest
    plain : (textual_head h && textuals parts) ≡ true
    is : made_of H h (λ i. runs H parts i) t.index ≡ x

  known : (h : Head (one solid)) → node_of h ≡ get_or nodes t.place v.Empty → Known h
  unfolding run
  known h here =
      let o = opened nodes t.place h comes.expr here comes.begins in
      record { parts = o.parts; rest = o.rest; stand = o.stand; plain = o.plain; is = ap (λ (e : Solid). run H e t.index) (sym o.is) ∙ comes.is }

  pub is_empty : v.Empty ≡ get_or nodes t.place v.Empty → H.empty ≡ x
  is_empty here = (known S.empty here).is

  pub is_primitive : (k : ℤ) (a : Linear) → v.Primitive k a ≡ get_or nodes t.place v.Empty → H.prim k (at t.index a) ≡ x
  is_primitive k a here = (known (S.prim k a) here).is

  pub is_placed : (u : Term) (p : Placement) (a : Linear) → u ≡ under t → v.Place p a ≡ get_or nodes t.place v.Empty → PlacedPart H nodes u (H.place p (at t.index a)) x
  is_placed u p a first here =
      let o = known (S.place p a) here in
      let part : Comes H nodes (under t) solid (run H (only o.parts) t.index) =
      record { expr = only o.parts; begins = part_begins nodes (t.place + 1) o.parts o.rest o.stand (and_parts true (textuals o.parts) o.plain).1; is = refl } in
      record {
        of = run H (only o.parts) t.index;
        comes = subst (λ w. Comes H nodes w solid (run H (only o.parts) t.index)) (sym first) part;
        is = ap (H.place p (at t.index a)) (part_run H o.parts t.index) ∙ o.is;
      }

  pub is_joined : (u w : Term) (o : Operator) → u ≡ under t → v.Join o ≡ get_or nodes t.place v.Empty → Follows nodes u w → w.index ≡ u.index → JoinedParts H nodes u w (H.join o) x
  unfolding runs
  is_joined u w f first here after same =
      let o = known (S.join f) here in
      let p = subst (λ y. Pair nodes y.place o.parts) (sym first) (pair nodes (t.place + 1) o.parts o.rest o.stand (and_parts true (textuals o.parts) o.plain).1) in
      record {
        a = run H p.left u.index;
        b = run H p.right u.index;
        comes_a = record { expr = p.left; begins = left_begins p; is = refl };
        comes_b = record { expr = p.right; begins = right_begins u w p after; is = ap (λ i. run H p.right i) same };
        is = ap (λ y. H.join f (run H p.left y.index) (run H p.right y.index)) first
            ∙ ap (λ (ps : Exprs (one solid ∷ one solid ∷ [])). H.join f (runs H ps t.index).0 (runs H ps t.index).1.0) (sym p.is) ∙ o.is;
      }

  pub is_folded : (u : Term) → u ≡ under t → v.Fold ≡ get_or nodes t.place v.Empty → FoldedPart H nodes u x
  is_folded u first here =
      let o = known S.fold here in
      let part : FoldedPart H nodes (under t) x = record {
        list = only o.parts;
        begins = part_begins nodes (t.place + 1) o.parts o.rest o.stand (and_parts true (textuals o.parts) o.plain).1;
        is = ap (union_of H) (part_run H o.parts t.index) ∙ o.is;
      } in
      subst (λ w. FoldedPart H nodes w x) (sym first) part

-- a solid has no other node
pub no_solid : (nodes : List Node) (place : ℕ) (e : Solid) → Begins nodes place e → (n : Node) → n ≡ get_or nodes place v.Empty → (n ≡ v.Empty → ⊥) → ((k : ℤ) (a : Linear) → n ≡ v.Primitive k a → ⊥)
    → ((p : Placement) (a : Linear) → n ≡ v.Place p a → ⊥) → ((o : Operator) → n ≡ v.Join o → ⊥) → (n ≡ v.Fold → ⊥) → ⊥
no_solid nodes place (node S.empty es) b n here f g h i j = f (here ∙ head_here nodes place S.empty es b)
no_solid nodes place (node (S.prim k a) es) b n here f g h i j = g k a (here ∙ head_here nodes place (S.prim k a) es b)
no_solid nodes place (node (S.place p a) es) b n here f g h i j = h p a (here ∙ head_here nodes place (S.place p a) es b)
no_solid nodes place (node (S.join o) es) b n here f g h i j = i o (here ∙ head_here nodes place (S.join o) es b)
no_solid nodes place (node S.fold es) b n here f g h i j = j (here ∙ head_here nodes place S.fold es b)
