-- The parts of an expression, by the node at its place. Assumes nothing.
use Rattle.std.proofs.Common.{◌≡◌, ℕ, ◌+◌, ◌-◌, ◌^◌, ◌<◌, ◌≤◌, min, true, ◌&&◌, List, [], ◌∷◌, ◌++◌, length, get_or, drop, ℤ, Some, None, Option, sym, refl, ap, ◌∙◌, subst, ⊎_elim, append_assoc, append-nil, arith}
use Rattle.std.proofs.lemmas.List.{drop_more, get_or_past}
use Rattle.std.proofs.lemmas.Bool.{and_parts, cases_lt, false≢true}
use Rattle.model.specs.declared.node.Node.{Node}
use Rattle.model.specs.declared.node.Node.TheVariants as v
use Rattle.model.specs.declared.node.Placement.{Placement}
use Rattle.model.specs.declared.node.Linear.{Linear}
use Rattle.model.specs.Syntax.{Kind, solid, vector, Sort, one, many, Head, arity, Expr, Exprs, Solid, node, none, more, textual_head, textual, textuals}
use Rattle.model.specs.Syntax as S
use Rattle.model.specs.Nodes.{node_of, flatten, flattens}
use Rattle.model.specs.Held.{head_at, sorted_on, only}
use Rattle.model.specs.Spelling.{closing_text}
use Rattle.model.specs.Shapes.{Shape, Val, run, runs}
use Rattle.model.specs.Counts.{count}
use Rattle.model.proofs.Readable.{headed}
use Rattle.model.proofs.Extents.{split_cons}
use Rattle.model.proofs.Views.{view}
use Rattle.model.proofs.Counted.{length_run}
use Rattle.program.specs.declared.layout.Layout.{Layout}
use Rattle.program.specs.declared.measure.Measure.{Measure}
use Rattle.program.specs.declared.element.Term.{Term}
use Rattle.program.specs.declared.element.Item.{Item}
use Rattle.program.specs.declared.element.Item.TheVariants.{Whole, Placed}
use Rattle.program.specs.Elements.{nodes_of, Begins, Behind, IsItem, TellsHere, part, Follows, Holds}
use Rattle.program.proofs.Layouts.{few_nodes}
use Rattle.program.proofs.Places.{span}

-- a node that a bracket closes stands within the list
inside : (nodes : List Node) (place : ℕ) (n : Node) → n ≡ get_or nodes place v.Empty → 0 < length (closing_text n) → place < length nodes
inside nodes place n here closed =
    ⊎_elim (λ l. l)
    (λ l. let none : length (closing_text n) ≡ 0 = ap (λ m. length (closing_text m)) (here ∙ get_or_past nodes place v.Empty l) in absurd (omega arith))
    (cases_lt place (length nodes))

-- the first part of a term that has one
abbrev pub under : Term → Term
under t = record { place = t.place + 1; index = t.index }

pub first_part : (l : Layout) (t u : Term) (n : Node) → n ≡ get_or (nodes_of l) t.place v.Empty → 0 < length (closing_text n) → u ≡ part t → (t.place < length (nodes_of l)) × (u ≡ under t)
first_part l t u n here closed is =
    let few = few_nodes l in
    let h = inside (nodes_of l) t.place n here closed in
    let e : min (t.place + 1) (2 ^ 64 - 1) ≡ t.place + 1 = omega arith in
    (h, is ∙ ap (λ p. record { place = p; index = t.index }) e)

-- what stands at the first part of a node or after it stands behind the node, and so does what is found there
pub behind_first : (l : Layout) (t u w : Term) (n : Node) → n ≡ get_or (nodes_of l) t.place v.Empty → 0 < length (closing_text n) → u ≡ part t → u.place ≤ w.place
    → (t.place < length (nodes_of l)) × (t.place < w.place)
behind_first l t u w n here closed is after = let first = first_part l t u n here closed is in (first.0, omega (arith, ap (λ u. u.place) first.1))

pub behind_part : (nodes : List Node) (t u : Term) (r : Option Item) → (t.place < length nodes) × (t.place < u.place) → Behind nodes u r → Behind nodes t r
behind_part nodes t u None h b = tt
behind_part nodes t u (Some (Whole w)) h b = (h.0, omega (arith, h.1, b.1))
behind_part nodes t u (Some (Placed p both)) h b = (h.0, omega (arith, h.1, b.1))

-- an item, as a pattern has it
pub item_is : {X : Type 0} (H : Shape X) (nodes : List Node) (k : Kind) (x : Val X k) {r s : Item} → r ≡ s → IsItem H nodes (Some r) k x → IsItem H nodes (Some s) k x
item_is H nodes k x e is = let P : Item → Type 0 = λ i. IsItem H nodes (Some i) k x in subst P e is

-- ---- the parts of an expression, by the node at its place
pub record Opened {s : Sort} (nodes : List Node) (place : ℕ) (h : Head s) (e : Expr s) : Type 0 where
  pub parts : Exprs (arity h)
  pub rest : List Node
  pub is : e ≡ node h parts
  pub stand : drop (place + 1) nodes ≡ flattens parts ++ rest
  pub plain : (textual_head h && textuals parts) ≡ true

first_node : (nodes : List Node) (place : ℕ) {s : Sort} (e : Expr s) → Begins nodes place e → drop place nodes ≡ get_or nodes place v.Empty ∷ drop (place + 1) nodes
first_node nodes place e b =
    let long = span nodes place e b.rest b.stands in
    drop_more nodes place v.Empty (omega arith)

pub opened : (nodes : List Node) (place : ℕ) {s : Sort} (h : Head s) (e : Expr s) → node_of h ≡ get_or nodes place v.Empty → Begins nodes place e → Opened nodes place h e
unfolding textual
opened nodes place h e here b =
    let o = view h e (ap (λ n. n ∷ drop (place + 1) nodes) here ∙ sym (first_node nodes place e b) ∙ b.stands) in
    record { parts = o.parts; rest = b.rest; is = o.is; stand = o.stand; plain = ap textual (sym o.is) ∙ b.plain }

-- ---- single parts
pub part_begins : (nodes : List Node) (place : ℕ) {s : Sort} (ps : Exprs (s ∷ [])) (rest : List Node) → drop place nodes ≡ flattens ps ++ rest → textuals ps ≡ true → Begins nodes place (only ps)
unfolding flattens textuals
part_begins nodes place (more e none) rest stand plain =
    record { rest = rest; stands = stand ∙ ap (λ l. l ++ rest) (append-nil (flatten e)); plain = (and_parts (textual e) true plain).0 }

pub part_run : {X : Type 0} (H : Shape X) {s : Sort} (ps : Exprs (s ∷ [])) (i : ℕ) → run H (only ps) i ≡ (runs H ps i).0
unfolding runs
part_run H (more e none) i = refl

-- ---- two parts
pub record Pair {s s' : Sort} (nodes : List Node) (place : ℕ) (ps : Exprs (s ∷ s' ∷ [])) : Type 0 where
  pub left : Expr s
  pub right : Expr s'
  pub rest : List Node
  pub is : ps ≡ more left (more right none)
  pub stand : drop place nodes ≡ flatten left ++ (flatten right ++ rest)
  pub plain : (textual left ≡ true) × (textual right ≡ true)

pub pair : (nodes : List Node) (place : ℕ) {s s' : Sort} (ps : Exprs (s ∷ s' ∷ [])) (rest : List Node) → drop place nodes ≡ flattens ps ++ rest → textuals ps ≡ true → Pair nodes place ps
unfolding flattens textuals
pair nodes place (more a (more b none)) rest stand plain =
    let both = and_parts (textual a) (textual b && true) plain in
    record {
      left = a;
      right = b;
      rest = rest;
      is = refl;
      stand = stand ∙ append_assoc (flatten a) (flatten b ++ []) rest ∙ ap (λ l. flatten a ++ (l ++ rest)) (append-nil (flatten b));
      plain = (both.0, (and_parts (textual b) true both.1).0);
    }

pub left_begins : {nodes : List Node} {place : ℕ} {s s' : Sort} {ps : Exprs (s ∷ s' ∷ [])} (p : Pair nodes place ps) → Begins nodes place p.left
left_begins p = record { rest = flatten p.right ++ p.rest; stands = p.stand; plain = p.plain.0 }

-- u is the term of the first part, and w the one after it
pub right_begins : {nodes : List Node} (u w : Term) {s s' : Sort} {ps : Exprs (s ∷ s' ∷ [])} (p : Pair nodes u.place ps) → Follows nodes u w → Begins nodes w.place p.right
right_begins u w {s} p after = record { rest = p.rest; stands = after s p.left (flatten p.right ++ p.rest) p.stand; plain = p.plain.1 }

-- ---- a list of solids as a whole
module _ {X : Type 0} (H : Shape X) (nodes : List Node) (t : Term) (l : Expr (many solid)) (b : Begins nodes t.place l) where
  pub list_long : (m : Measure) → TellsHere nodes t.place m → (count l ≡ m.elements) × (length (run H l t.index) ≡ m.elements)
  list_long m told =
      let many-told = sym (ap (λ y. y.elements) (told (many solid) l b.rest b.stands)) in
      (many-told, length_run H l t.index ∙ many-told)

  pub list_holds : (j : ℕ) → j < count l → Holds H nodes t j solid (get_or (run H l t.index) j H.empty)
  list_holds j lt = record { list = l; begins = b; within = lt; is = refl }

-- ---- what no list is
pub head_here : (nodes : List Node) (place : ℕ) {s : Sort} (h : Head s) (es : Exprs (arity h)) → Begins nodes place (node h es) → get_or nodes place v.Empty ≡ node_of h
unfolding flatten
head_here nodes place h es b = (split_cons (sym (first_node nodes place (node h es) b) ∙ b.stands)).0

-- a list has no other node
pub no_list : (nodes : List Node) (place : ℕ) {k : Kind} (e : Expr (many k)) → Begins nodes place e → (n : Node) → n ≡ get_or nodes place v.Empty
    → ((m : ℕ) → n ≡ v.List m → ⊥) → ((z : ℤ) → n ≡ v.Repeat z → ⊥) → ((z : ℤ) → n ≡ v.Tabulate z → ⊥) → (n ≡ v.Concat → ⊥) → ((p : Placement) → n ≡ v.Map2 p → ⊥) → ⊥
unfolding textual
no_list nodes place (node (S.list m) es) b n here l r u c p = l m (here ∙ head_here nodes place (S.list m) es b)
no_list nodes place (node (S.repeat z) es) b n here l r u c p = r z (here ∙ head_here nodes place (S.repeat z) es b)
no_list nodes place (node (S.tab z) es) b n here l r u c p = u z (here ∙ head_here nodes place (S.tab z) es b)
no_list nodes place (node S.concat es) b n here l r u c p = c (here ∙ head_here nodes place S.concat es b)
no_list nodes place (node (S.sort m) es) b n here l r u c p = false≢true b.plain
no_list nodes place (node (S.unsort m) es) b n here l r u c p = false≢true b.plain
no_list nodes place (node (S.map2 q) es) b n here l r u c p = p q (here ∙ head_here nodes place (S.map2 q) es b)

-- a Map2 is a list of solids
pub no_vectors : (nodes : List Node) (place : ℕ) (e : Expr (many vector)) → Begins nodes place e → (p : Placement) → v.Map2 p ≡ get_or nodes place v.Empty → ⊥
no_vectors nodes place (node h es) b p here =
    false≢true (ap (λ n. sorted_on (head_at n (many vector)) (λ _. true)) (here ∙ head_here nodes place h es b) ∙ ap (λ o. sorted_on o (λ _. true)) (headed h))

-- a vector's node is no solid's
pub no_solid : (nodes : List Node) (place : ℕ) (e : Expr (one solid)) → Begins nodes place e → (a : Linear) → v.Vector a ≡ get_or nodes place v.Empty → ⊥
no_solid nodes place (node h es) b a here =
    false≢true (ap (λ n. sorted_on (head_at n (one solid)) (λ _. true)) (here ∙ head_here nodes place h es b) ∙ ap (λ o. sorted_on o (λ _. true)) (headed h))
