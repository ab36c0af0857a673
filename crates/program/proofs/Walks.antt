-- A walk over the nodes of a program finds the first node that breaks a law. Assumes nothing.
use Rattle.std.proofs.Common.{◌≡◌, ℕ, suc, ◌+◌, ◌-◌, ◌^◌, ◌≤◌, min, Bool, true, false, cond, ◌⊎◌, List, ◌∷◌, ◌++◌, length, get_or, drop, vec_items, vec_len, Some, None, Ok, Err, Option, Result, sym, refl, ap, ◌∙◌, subst, inl, inr, append_assoc, add-one, arith}
use Rattle.std.specs.Option.{option_or}
use Rattle.std.proofs.lemmas.List.{drop_all}
use Rattle.model.specs.declared.law.Law.{Law}
use Rattle.model.specs.declared.law.Law.TheVariants.{Numbers, Primitives}
use Rattle.model.specs.declared.law.Context.{Context}
use Rattle.model.specs.declared.node.Node.{Node}
use Rattle.model.specs.Families.{Meaning}
use Rattle.model.specs.Syntax.{Sort, Head, arity, Exprs, node, none, more, size, sizes}
use Rattle.model.specs.Nodes.{node_of, parts, flatten, flattens}
use Rattle.model.specs.Counts.{count, counts}
use Rattle.model.specs.Legality.{breaks, below, first, firsts}
use Rattle.model.proofs.Extents.{arity_parts, split_cons, some≢none, asked}
use Rattle.model.proofs.Readable.{past_term}
use Rattle.model.proofs.Weights.{kept, neither}
use Rattle.program.specs.declared.layout.Layout.{Layout}
use Rattle.program.specs.declared.measure.Measure.{Measure}
use Rattle.program.specs.Measures.{Tells, nothing}
use Rattle.program.proofs.Layouts.{few_nodes, tells_layout}
use Rattle.program.specs.Judging.{counts_told, Counted, walked, TermJudged, PartsJudged}

-- ---- what is told of a node and its parts
-- the first two of some expressions in a row
two_told : (nodes : List Node) (ms : List Measure) → Tells nodes ms → (place : ℕ) (ss : List Sort) (es : Exprs ss) (rest : List Node) → drop place nodes ≡ flattens es ++ rest → 2 ≤ length ss
    → ((get_or ms place nothing).elements ≡ get_or (counts es) 0 0) × ((get_or ms (place + (get_or ms place nothing).nodes) nothing).elements ≡ get_or (counts es) 1 0)
unfolding flattens counts
two_told nodes ms tells place ss none rest stands two = absurd (omega arith)
two_told nodes ms tells place ss (more e none) rest stands two = absurd (omega arith)
two_told nodes ms tells place ss (more {s = s} e (more {s = t} f es)) rest stands two =
    let at-e = stands ∙ append_assoc (flatten e) (flatten f ++ flattens es) rest in
    let told-e = tells place s e ((flatten f ++ flattens es) ++ rest) at-e in
    let at_f = past_term nodes place e ((flatten f ++ flattens es) ++ rest) at-e ∙ append_assoc (flatten f) (flattens es) rest in
    let told-f = tells (place + size e) t f (flattens es ++ rest) at_f in
    (ap (λ (m : Measure). m.elements) told-e, ap (λ (m : Measure). (get_or ms (place + m.nodes) nothing).elements) told-e ∙ ap (λ (m : Measure). m.elements) told-f)

counted : (nodes : List Node) (ms : List Measure) → Tells nodes ms → (place : ℕ) {s : Sort} (h : Head s) (es : Exprs (arity h)) (rest : List Node)
    → drop place nodes ≡ flatten (node h es) ++ rest → drop (place + 1) nodes ≡ flattens es ++ rest → Counted (counts_told ms place) (node_of h) (counts es)
unfolding count
counted nodes ms tells place {s} h es rest stands inside =
    (ap (λ (m : Measure). m.elements) (tells place s (node h es) rest stands), λ two. two_told nodes ms tells (place + 1) (arity h) es rest inside (omega (arith, arity_parts h)))

-- ---- the first that breaks the law
walked_ok : (o : Option ℕ) (n end : ℕ) → Ok n ≡ walked o end → (o ≡ None) × (n ≡ end)
walked_ok None n end e = (refl, cc)
walked_ok (Some k) n end e = let z : ◌≡◌ {A = ℕ} 0 1 = cc in absurd (omega arith)

walked_err : (o : Option ℕ) (n end : ℕ) → Err n ≡ walked o end → o ≡ Some n
walked_err None n end e = let z : ◌≡◌ {A = ℕ} 0 1 = cc in absurd (omega arith)
walked_err (Some k) n end e = let q : n ≡ k = cc in ap (λ (x : ℕ). Some x) (sym q)

module _ (m : Meaning) (law : Law) (l : Layout) where
  abbrev pub nodes : List Node
  nodes = vec_items l.table.nodes

  abbrev pub ms : List Measure
  ms = vec_items l.measures

  -- what the test of a node answers
  abbrev pub Tested : ℕ → Context → Node → Bool → Type 0
  Tested place c n b = (cs : List ℕ) → Counted (counts_told ms place) n cs → (law ≡ Primitives → breaks m c cs n Numbers ≡ false) → b ≡ breaks m c cs n law

  tested : (place : ℕ) (c : Context) (n : Node) (b : Bool) → Tested place c n b → drop place nodes ≡ n ∷ drop (place + 1) nodes
      → {s : Sort} (h : Head s) (es : Exprs (arity h)) (rest : List Node) → drop place nodes ≡ flatten (node h es) ++ rest
      → (law ≡ Primitives → first m Numbers c (node h es) place ≡ None) → b ≡ breaks m c (counts es) (node_of h) law
  unfolding flatten first
  tested place c n b test here h es rest stands numbers =
      let q = split_cons (sym here ∙ stands) in
      let test' : Tested place c (node_of h) b = subst (λ x. Tested place c x b) q.0 test in
      test' (counts es) (counted nodes ms (tells_layout l) place h es rest stands q.1) (λ p. (kept _ _ _ (numbers p)).0)

  pub term_broken : (place : ℕ) (c : Context) (n : Node) → drop place nodes ≡ n ∷ drop (place + 1) nodes → Tested place c n true → TermJudged m law l place c (Err place)
  unfolding first
  term_broken place c n here test s (node h es) rest stands numbers =
      let b = tested place c n true test here h es rest stands numbers in
      ap (λ x. walked (cond x (Some place) (firsts m law (below (node_of h) c) es (suc place))) (place + size (node h es))) b

  pub term_parts : (place : ℕ) (c : Context) (n : Node) (k : ℕ) (r : Result ℕ ℕ) → drop place nodes ≡ n ∷ drop (place + 1) nodes → Tested place c n false
      → k ≡ min (parts n) (2 ^ 64 - 1) → PartsJudged m law l (place + 1) k (below n c) r → TermJudged m law l place c r
  unfolding flatten first size
  term_parts place c n k r here test is inner s (node h es) rest stands numbers =
      let q = split_cons (sym here ∙ stands) in
      let b = tested place c n false test here h es rest stands numbers in
      let inner' : PartsJudged m law l (suc place) k (below (node_of h) c) r = subst (λ x. PartsJudged m law l x k (below (node_of h) c) r) (add-one place) (subst (λ x. PartsJudged m law l (place + 1) k (below x c) r) q.0 inner) in
      let inside = subst (λ x. drop x nodes ≡ flattens es ++ rest) (add-one place) q.1 in
      let judged = inner' (arity h) es rest (asked nodes n (place + 1) k h es rest (omega (arith, few_nodes l)) is q.0 q.1) inside (λ p. (kept _ _ _ (numbers p)).1) in
      let end : suc place + sizes es ≡ place + suc (sizes es) = omega arith in
      judged ∙ ap (walked (firsts m law (below (node_of h) c) es (suc place))) end ∙ ap (λ x. walked (cond x (Some place) (firsts m law (below (node_of h) c) es (suc place))) (place + suc (sizes es))) b

  pub parts_none : (place k : ℕ) (c : Context) → (k ≡ 0) ⊎ (vec_len l.table.nodes ≤ place) → PartsJudged m law l place k c (Ok place)
  unfolding flatten flattens firsts sizes
  parts_none place k c why ss none rest is stands numbers = ap (λ (n : ℕ). Ok n) (omega arith)
  parts_none place k c (inl z) ss (more (node h ds) es) rest is stands numbers = absurd (omega arith)
  parts_none place k c (inr past) ss (more (node h ds) es) rest is stands numbers = absurd (some≢none (sym (drop_all place nodes (omega (arith, l.table.nodes.ok.0))) ∙ stands))

  pub parts_broken : (place k n : ℕ) (c : Context) → (k ≡ 0 → ⊥) → TermJudged m law l place c (Err n) → PartsJudged m law l place k c (Err n)
  unfolding flattens firsts
  parts_broken place k n c some term ss none rest is stands numbers = absurd (some (sym is))
  parts_broken place k n c some term ss (more {s = s} e es) rest is stands numbers =
      let a = term s e (flattens es ++ rest) (stands ∙ append_assoc (flatten e) (flattens es) rest) (λ p. (neither _ _ (numbers p)).0) in
      ap (λ o. walked (option_or o (firsts m law c es (place + size e))) (place + sizes (more e es))) (sym (walked_err _ n _ a))

  pub parts_more : (place k next : ℕ) (c : Context) (r : Result ℕ ℕ) → (k ≡ 0 → ⊥) → TermJudged m law l place c (Ok next) → PartsJudged m law l next (k - 1) c r
      → PartsJudged m law l place k c r
  unfolding flattens firsts sizes
  parts_more place k next c r some term parts ss none rest is stands numbers = absurd (some (sym is))
  parts_more place k next c r some term parts ss (more {s = s} {ss = ss'} e es) rest is stands numbers =
      let at-e = stands ∙ append_assoc (flatten e) (flattens es) rest in
      let a = walked_ok _ next _ (term s e (flattens es ++ rest) at-e (λ p. (neither _ _ (numbers p)).0)) in
      let parts' : PartsJudged m law l (place + size e) (k - 1) c r = subst (λ x. PartsJudged m law l x (k - 1) c r) a.1 parts in
      let b = parts' ss' es rest (omega arith) (past_term nodes place e (flattens es ++ rest) at-e) (λ p. (neither _ _ (numbers p)).1) in
      let end : place + size e + sizes es ≡ place + (size e + sizes es) = omega arith in
      b ∙ ap (walked (firsts m law c es (place + size e))) end ∙ ap (λ o. walked (option_or o (firsts m law c es (place + size e))) (place + (size e + sizes es))) (sym a.0)
