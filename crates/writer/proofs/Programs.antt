-- What it takes to put an expression whose nodes stand in a list. Assumes nothing.
use Rattle.std.proofs.Common.{◌≡◌, ℕ, ◌+◌, ◌-◌, ◌^◌, ◌<◌, ◌≤◌, min, ◌⊎◌, List, [], ◌∷◌, ◌++◌, length, drop, sym, ap, ◌∙◌, inl, inr, append_assoc, arith}
use Rattle.std.proofs.lemmas.List.{drop_all}
use Rattle.model.specs.declared.node.Node.{Node}
use Rattle.model.specs.Syntax.{arity, node, none, more}
use Rattle.model.specs.Nodes.{parts, flatten, flattens}
use Rattle.model.specs.Spelling.{part_texts, opening_text, closing_text}
use Rattle.model.proofs.Extents.{split_cons, some≢none, asked}
use Rattle.model.proofs.Spelled.{text_node}
use Rattle.writer.specs.declared.sink.Sink.{Sink}
use Rattle.writer.specs.Putting.{Puts}
use Rattle.writer.specs.Writing.{TermPut, PartsPut}
use Rattle.writer.proofs.Puts.{puts_none, puts_then, puts_as}

-- a node's opening, its parts and its closing are its expression
pub term_put : (nodes : List Node) (place next : ℕ) (n : Node) {s t u v : Sink} {k : ℕ}
    → length nodes < 2 ^ 63 → drop place nodes ≡ n ∷ drop (place + 1) nodes → k ≡ min (parts n) (2 ^ 64 - 1)
    → Puts (opening_text n) s t → PartsPut nodes (place + 1) k t next u → Puts (closing_text n) u v
    → TermPut nodes place s next v
unfolding flatten
term_put nodes place next n {s} {t} {u} {v} {k} fits here is o p q _ (node h es) rest stands =
    let split = split_cons (sym here ∙ stands) in
    let inner = p (arity h) es rest (asked nodes n (place + 1) k h es rest fits is split.0 split.1) split.1 in
    let named : Puts (opening_text n ++ (part_texts es ++ closing_text n)) s v = puts_then o (puts_then inner.1 q) in
    (inner.0, puts_as (ap (λ x. opening_text x ++ (part_texts es ++ closing_text x)) split.0 ∙ sym (text_node h es)) named)

-- no part is asked for, or no node is left
pub parts_none : (nodes : List Node) (place k : ℕ) (s : Sink) → (k ≡ 0) ⊎ (length nodes ≤ place) → PartsPut nodes place k s place s
unfolding flatten flattens
parts_none nodes place k s why _ none rest is stands = (stands, puts_none s)
parts_none nodes place k s (inl z) _ (more (node h es) fs) rest is stands = absurd (omega arith)
parts_none nodes place k s (inr l) _ (more (node h es) fs) rest is stands = absurd (some≢none (sym (drop_all place nodes l) ∙ stands))

-- a space, an expression and those after it
pub parts_more : (nodes : List Node) (place next r k : ℕ) {s t u v : Sink} → (k ≡ 0 → ⊥)
    → Puts (32 ∷ []) s t → TermPut nodes place t next u → PartsPut nodes next (k - 1) u r v
    → PartsPut nodes place k s r v
unfolding flattens
parts_more nodes place next r k some p q after _ none rest is stands = absurd (some (sym is))
parts_more nodes place next r k some p q after _ (more {s = j} {ss = js} f fs) rest is stands =
    let first = q j f (flattens fs ++ rest) (stands ∙ append_assoc (flatten f) (flattens fs) rest) in
    let later = after js fs rest (omega arith) first.0 in
    (later.0, puts_then p (puts_then first.1 later.1))
