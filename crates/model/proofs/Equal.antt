-- The derived `==` of nodes decides whether they are equal. Assumes nothing.
use Rattle.std.proofs.Common.{◌≡◌, ℤ, Bool, true, List, Decides, sym, refl, subst, ap, ◌∙◌}
use Rattle.std.proofs.lemmas.Bool.Decides.{Decides-int_eq, Decides-eqb, Decides-and, Decides-like}
use Rattle.std.specs.Cmp.Lexicographic.{pointwise}
use Rattle.std.proofs.lemmas.Slice.Eq.{slice_eq-Decides}
use Rattle.model.specs.Nodes.{flatten}
use Rattle.model.specs.Held.{whole, program}
use Rattle.model.proofs.Holding.{program_nodes}
use Rattle.model.specs.declared.node.Node.{Node}
use Rattle.model.specs.declared.node.Node.TheVariants as v
use Rattle.model.specs.declared.node.Placement.{Placement}
use Rattle.model.specs.declared.node.Placement.TheVariants as p
use Rattle.model.specs.declared.node.Operator.{Operator}
use Rattle.model.specs.declared.node.Operator.TheVariants as o
use Rattle.model.specs.declared.node.Triple.{Triple}
use Rattle.model.specs.declared.node.Linear.{Linear}
use Rattle.model.specs.contracts.node.PlacementPartialEq.TheImpl as placement
use Rattle.model.specs.contracts.node.OperatorPartialEq.TheImpl as operator
use Rattle.model.specs.contracts.node.TriplePartialEq.TheImpl as triple
use Rattle.model.specs.contracts.node.LinearPartialEq.TheImpl as linear
use Rattle.model.specs.contracts.node.NodePartialEq.TheImpl as node

-- a test decides it whose truth gives the equation, and that holds of a value and itself
decides_by : {A : Type 0} (f : A → A → Bool) → ((a b : A) → f a b ≡ true → a ≡ b) → ((a : A) → f a a ≡ true) → (a b : A) → Decides (f a b) (a ≡ b)
decides_by {A} f same self a b = (same a b, λ q. subst (λ (x : A). f a x ≡ true) q (self a))

triples : (a b : Triple) → Decides ((triple.ghosts).eq a b) (a ≡ b)
triples a b =
    Decides-like _ (λ h. λ i. record { x = h.0 i; y = h.1.0 i; z = h.1.1 i }) (λ q. (ap (λ t. t.x) q, (ap (λ t. t.y) q, ap (λ t. t.z) q)))
    (Decides-and _ _ (Decides-int_eq a.x b.x) (Decides-and _ _ (Decides-int_eq a.y b.y) (Decides-int_eq a.z b.z)))

linears : (a b : Linear) → Decides ((linear.ghosts).eq a b) (a ≡ b)
linears a b =
    Decides-like _ (λ h. λ i. record { constant = h.0 i; slope = h.1 i }) (λ q. (ap (λ t. t.constant) q, ap (λ t. t.slope) q))
    (Decides-and _ _ (triples a.constant b.constant) (triples a.slope b.slope))

placements : (a b : Placement) → (placement.ghosts).eq a b ≡ true → a ≡ b
placements p.Translate p.Translate e = refl
placements p.Scale p.Scale e = refl
placements p.Rotate p.Rotate e = refl
placements a b e = cc

placement_self : (a : Placement) → (placement.ghosts).eq a a ≡ true
placement_self p.Translate = refl
placement_self _ = refl

operators : (a b : Operator) → (operator.ghosts).eq a b ≡ true → a ≡ b
operators o.Union o.Union e = refl
operators o.Diff o.Diff e = refl
operators o.Inter o.Inter e = refl
operators a b e = cc

operator_self : (a : Operator) → (operator.ghosts).eq a a ≡ true
operator_self o.Union = refl
operator_self _ = refl

sized : (k m : ℤ) (a b : Linear) → Decides ((node.ghosts).eq (v.Primitive k a) (v.Primitive m b)) ((k ≡ m) × (a ≡ b))
sized k m a b = Decides-and _ _ (Decides-int_eq k m) (linears a b)

placed : (t u : Placement) (a b : Linear) → Decides ((node.ghosts).eq (v.Place t a) (v.Place u b)) ((t ≡ u) × (a ≡ b))
placed t u a b = Decides-and _ _ (decides_by (placement.ghosts).eq placements placement_self t u) (linears a b)

same : (a b : Node) → (node.ghosts).eq a b ≡ true → a ≡ b
same v.Empty v.Empty e = refl
same (v.Primitive k a) (v.Primitive m b) e = let h = (sized k m a b).0 e in λ i. v.Primitive (h.0 i) (h.1 i)
same (v.Place t a) (v.Place u b) e = let h = (placed t u a b).0 e in λ i. v.Place (h.0 i) (h.1 i)
same (v.Join o) (v.Join p) e = ap v.Join (operators o p e)
same v.Fold v.Fold e = refl
same (v.Vector a) (v.Vector b) e = ap v.Vector ((linears a b).0 e)
same (v.List n) (v.List m) e = ap v.List ((Decides-eqb n m).0 e)
same (v.Repeat n) (v.Repeat m) e = ap v.Repeat ((Decides-int_eq n m).0 e)
same (v.Tabulate n) (v.Tabulate m) e = ap v.Tabulate ((Decides-int_eq n m).0 e)
same v.Concat v.Concat e = refl
same (v.Sort n) (v.Sort m) e = ap v.Sort ((Decides-eqb n m).0 e)
same (v.Unsort n) (v.Unsort m) e = ap v.Unsort ((Decides-eqb n m).0 e)
same (v.Map2 t) (v.Map2 u) e = ap v.Map2 (placements t u e)
same (v.Number i) (v.Number j) e = ap v.Number ((Decides-eqb i j).0 e)
same a b e = cc

self : (a : Node) → (node.ghosts).eq a a ≡ true
self (v.Primitive k a) = (sized k k a a).1 (refl, refl)
self (v.Place t a) = (placed t t a a).1 (refl, refl)
self (v.Join o) = operator_self o
self (v.Vector a) = (linears a a).1 refl
self (v.List n) = (Decides-eqb n n).1 refl
self (v.Repeat n) = (Decides-int_eq n n).1 refl
self (v.Tabulate n) = (Decides-int_eq n n).1 refl
self (v.Sort n) = (Decides-eqb n n).1 refl
self (v.Unsort n) = (Decides-eqb n n).1 refl
self (v.Map2 t) = placement_self t
self (v.Number j) = (Decides-eqb j j).1 refl
self _ = refl

pub decided : (a b : Node) → Decides ((node.ghosts).eq a b) (a ≡ b)
decided = decides_by (node.ghosts).eq same self

-- equal lists of nodes, equal programs; and back
pub same_programs : (xs ys ns ms : List Node) (r : Bool) → xs ≡ ns → ys ≡ ms → whole ns ≡ true → whole ms ≡ true → r ≡ pointwise (node.ghosts).eq xs ys → Decides r (program ns ≡ program ms)
same_programs xs ys ns ms r p q v w e =
    let same = slice_eq-Decides decided xs ys r e in
    (λ t. ap program (sym p ∙ same.0 t ∙ q), λ t. same.1 (p ∙ sym (program_nodes ns v) ∙ ap flatten t ∙ program_nodes ms w ∙ sym q))
