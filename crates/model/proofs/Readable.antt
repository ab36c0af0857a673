-- A node says its head, and an expression has as many nodes as its size. Assumes nothing.
use Rattle.std.proofs.Common.{◌≡◌, ℕ, suc, ◌+◌, ◌<◌, List, ◌++◌, length, drop, sym, refl, ap, ◌∙◌, ap₂, arith, length-append}
use Rattle.std.proofs.lemmas.List.{drop-drop, drop_at}
use mathlib.Core.Option.{Option, some}
use Rattle.model.specs.declared.node.Node.{Node}
use Rattle.model.specs.Syntax.{Sort, Head, arity, Expr, Exprs, node, none, more, size, sizes}
use Rattle.model.specs.Syntax as S
use Rattle.model.specs.Nodes.{node_of, flatten, flattens}
use Rattle.model.specs.Held.{Headed, head_at}

pub headed : {s : Sort} (h : Head s) → head_at (node_of h) s ≡ some (record { head = h; is = refl })
headed S.empty = refl
headed _ = refl

-- the head alone, so that heads of equal nodes can be compared
abbrev bare : {x : Node} {s : Sort} → Option (Headed x s) → Option (Head s)
bare Option.none = Option.none
bare (some h) = some h.head

pub same_head : {s : Sort} (h h' : Head s) → node_of h ≡ node_of h' → h ≡ h'
same_head {s} h h' q = let p : some h ≡ some h' = sym (ap bare (headed h)) ∙ ap (λ x. bare (head_at x s)) q ∙ ap bare (headed h') in cc

mutual
  unfolding flatten flattens size sizes

  pub length_flatten : {s : Sort} (e : Expr s) → length (flatten e) ≡ size e
  length_flatten (node h es) = ap suc (length_flattens es)

  pub length_flattens : {ss : List Sort} (es : Exprs ss) → length (flattens es) ≡ sizes es
  length_flattens none = refl
  length_flattens (more e es) = length-append (flatten e) (flattens es) ∙ ap₂ ◌+◌ (length_flatten e) (length_flattens es)

-- an expression has a node
pub some_node : {s : Sort} (e : Expr s) → 0 < size e
unfolding size
some_node (node h es) = omega arith

-- the nodes behind an expression
pub past_term : (nodes : List Node) (place : ℕ) {s : Sort} (e : Expr s) (rest : List Node) → drop place nodes ≡ flatten e ++ rest → drop (place + size e) nodes ≡ rest
past_term nodes place e rest stands = sym (drop-drop (size e) place nodes) ∙ ap (drop (size e)) stands ∙ drop_at (flatten e) rest (size e) (length_flatten e)
