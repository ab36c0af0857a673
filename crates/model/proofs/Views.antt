-- What stands behind a node: the parts of the expression that begins with it. So the list of nodes says what the expression is. Assumes nothing.
use Rattle.std.proofs.Common.{◌≡◌, List, ◌∷◌, ◌++◌, sym, refl, ap, ap₂, ◌∙◌, append_assoc}
use mathlib.Core.Path.{path_j}
use mathlib.Core.List.{head-eq_of_cons-eq, tail-eq_of_cons-eq}
use Rattle.model.specs.declared.node.Node.{Node}
use Rattle.model.specs.Syntax.{Sort, Head, arity, Expr, Exprs, node, none, more}
use Rattle.model.specs.Nodes.{node_of, flatten, flattens}
use Rattle.model.proofs.Readable.{same_head}

-- the parts of an expression, if it has the head
pub record Parts {s : Sort} (h : Head s) (e : Expr s) (xs rest : List Node) : Type 0 where
  pub parts : Exprs (arity h)
  pub is : e ≡ node h parts
  pub stand : xs ≡ flattens parts ++ rest

-- an expression that begins with a head's node has that head
pub view : {s : Sort} (h : Head s) (e : Expr s) {xs rest : List Node} → node_of h ∷ xs ≡ flatten e ++ rest → Parts h e xs rest
unfolding flatten
view h (node h' es) {xs} {rest} q =
    path_j (λ g _. (fs : Exprs (arity g)) → xs ≡ flattens fs ++ rest → Parts h (node g fs) xs rest)
    (λ fs e. record { parts = fs; is = refl; stand = e }) (same_head h h' (head-eq_of_cons-eq q)) es (tail-eq_of_cons-eq q)

-- equal lists of nodes, equal expressions
mutual
  unfolding flatten flattens

  pub reads : {s : Sort} (e e' : Expr s) (r r' : List Node) → flatten e ++ r ≡ flatten e' ++ r' → (e ≡ e') × (r ≡ r')
  reads (node h es) e' r r' q =
      let v = view h e' q in
      let a = reads_all es v.parts r r' v.stand in
      (ap (λ fs. node h fs) a.0 ∙ sym v.is, a.1)

  pub reads_all : {ss : List Sort} (es es' : Exprs ss) (r r' : List Node) → flattens es ++ r ≡ flattens es' ++ r' → (es ≡ es') × (r ≡ r')
  reads_all none none r r' q = (refl, q)
  reads_all (more e es) (more e' es') r r' q =
      let a = reads e e' (flattens es ++ r) (flattens es' ++ r') (sym (append_assoc (flatten e) (flattens es) r) ∙ q ∙ append_assoc (flatten e') (flattens es') r') in
      let b = reads_all es es' r r' a.1 in
      (ap₂ more a.0 b.0, b.1)
