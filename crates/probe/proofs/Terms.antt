-- The terms of a table, and what they come to. Assumes nothing.
use Rattle.std.proofs.Common.{◌≡◌, ℕ, ◌<◌, List, [], ◌∷◌, ◌++◌, length, sym, refl, ap, ◌∙◌, ap₂, subst, append_assoc, arith}
use Rattle.model.specs.declared.node.Node.{Node}
use Rattle.model.specs.Families.{Meaning}
use Rattle.model.specs.Syntax.{Sort, one, solid, arity, Expr, Exprs, node, none, more}
use Rattle.model.specs.Nodes.{flatten, flattens}
use Rattle.model.specs.Held.{read_on, read, only, fore, aft}
use Rattle.model.specs.Shapes.{run}
use Rattle.model.proofs.Readable.{headed}
use Rattle.program.specs.declared.element.Term.{Term}
use Rattle.program.specs.Elements.{Begins, Comes}
use Rattle.program.proofs.Places.{span}
use Rattle.probe.specs.Terms.{term, Stands}
use Rattle.probe.specs.Walking.{Walk, walking, walk}

-- ---- reading the nodes of an expression, whatever follows them
abbrev join : {as' ss : List Sort} → Exprs as' → Exprs ss → Exprs (as' ++ ss)
join none fs = fs
join (more e es) fs = more e (join es fs)

fore_join : {as' : List Sort} (ss : List Sort) (es : Exprs as') (fs : Exprs ss) → fore as' ss (join es fs) ≡ es
fore_join ss none fs = refl
fore_join ss (more e es) fs = ap (more e) (fore_join ss es fs)

aft_join : {as' : List Sort} (ss : List Sort) (es : Exprs as') (fs : Exprs ss) → aft as' ss (join es fs) ≡ fs
aft_join ss none fs = refl
aft_join ss (more e es) fs = aft_join ss es fs

mutual
  unfolding flatten flattens

  read_one : {s : Sort} (e : Expr s) (ss : List Sort) (r : List Node) → read (s ∷ ss) (flatten e ++ r) ≡ more e (read ss r)
  read_one (node {s} h es) ss r =
      ap (λ o. read_on s ss o (λ g. read (arity g ++ ss) (flattens es ++ r))) (headed h)
      ∙ ap (λ fs. more (node h (fore (arity h) ss fs)) (aft (arity h) ss fs)) (read_more es ss r)
      ∙ ap₂ (λ a b. more (node h a) b) (fore_join ss es (read ss r)) (aft_join ss es (read ss r))

  read_more : {as' : List Sort} (es : Exprs as') (ss : List Sort) (r : List Node) → read (as' ++ ss) (flattens es ++ r) ≡ join es (read ss r)
  read_more none ss r = refl
  read_more (more {s = s} {ss = as'} e es) ss r =
      ap (read (s ∷ (as' ++ ss))) (append_assoc (flatten e) (flattens es) r) ∙ read_one e (as' ++ ss) (flattens es ++ r) ∙ ap (more e) (read_more es ss r)

module _ (nodes : List Node) where
  pub term_is : {s : Sort} (place : ℕ) (e : Expr s) → Begins nodes place e → term nodes s place ≡ e
  unfolding term
  term_is {s} place e b = ap (λ l. only (read (s ∷ []) l)) b.stands ∙ ap only (read_one e [] b.rest)

  pub stands : {s : Sort} (place : ℕ) (e : Expr s) → Begins nodes place e → Stands nodes s place
  stands {s} place e b = subst (λ (x : Expr s). Begins nodes place x) (sym (term_is place e b)) b

  -- a term has a node
  pub inside : (s : Sort) (place : ℕ) → Stands nodes s place → place < length nodes
  inside s place st = let long = span nodes place (term nodes s place) st.rest st.stands in omega arith

  module _ (m : Meaning) where
    -- a solid comes to its walk, and to nothing else
    pub comes : (t : Term) → Stands nodes (one solid) t.place → Comes (walking m) nodes t solid (walk nodes m t)
    comes t st = record { expr = term nodes (one solid) t.place; begins = st; is = refl }

    pub walk_is : (t : Term) (w : Walk) → Comes (walking m) nodes t solid w → (walk nodes m t ≡ w) × Stands nodes (one solid) t.place
    walk_is t w c = (ap (λ e. run (walking m) e t.index) (term_is t.place c.expr c.begins) ∙ c.is, stands t.place c.expr c.begins)
