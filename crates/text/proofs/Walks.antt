-- Counting the tokens before a node along a list of nodes. Assumes nothing.
use Rattle.std.proofs.Common.{◌≡◌, ℕ, suc, ◌+◌, ◌-◌, ◌^◌, ◌<◌, ◌≤◌, min, Bool, true, false, cond, ltb, leb, ◌⊎◌, List, ◌∷◌, ◌++◌, length, drop, sym, refl, ap, ◌∙◌, inl, inr, append_assoc, arith, length-append}
use Rattle.std.proofs.lemmas.List.{drop_all}
use Rattle.std.proofs.lemmas.Bool.{le-leb, lt-leb, cases_lt, cond_below, cond_above, cond-true, cond-false}
use Rattle.model.specs.declared.node.Node.{Node}
use Rattle.model.specs.declared.node.Node.TheVariants as v
use Rattle.model.specs.Syntax.{Sort, Head, arity, Expr, Exprs, node, none, more, size, sizes}
use Rattle.model.specs.Syntax as S
use Rattle.model.specs.Nodes.{node_of, parts, flatten, flattens}
use Rattle.model.specs.Tokens.{opening, closing, tokens, row}
use Rattle.model.specs.Starts.{before, befores}
use Rattle.model.proofs.Extents.{split_cons, some≢none, asked}
use Rattle.model.proofs.Readable.{past_term}
use Rattle.text.specs.declared.start.Walk.{Walk}
use Rattle.text.specs.Starting.{opening_count, closing_count, most_own, own_count, passed, TermWalk, PartsWalk}

-- a node's own tokens are as many as its head's
opened : {s : Sort} (h : Head s) → opening_count (node_of h) ≡ length (opening h)
opened S.empty = refl
opened (S.prim k a) = refl
opened (S.place t a) = refl
opened (S.join o) = refl
opened S.fold = refl
opened (S.vec a) = refl
opened (S.list n) = refl
opened (S.repeat n) = refl
opened (S.tab n) = refl
opened S.concat = refl
opened (S.sort n) = refl
opened (S.unsort n) = refl
opened (S.map2 t) = refl
opened (S.number j) = refl

closed : {s : Sort} (h : Head s) → closing_count (node_of h) ≡ length (closing h)
closed S.empty = refl
closed (S.prim k a) = refl
closed (S.place t a) = refl
closed (S.join o) = refl
closed S.fold = refl
closed (S.vec a) = refl
closed (S.list n) = refl
closed (S.repeat n) = refl
closed (S.tab n) = refl
closed S.concat = refl
closed (S.sort n) = refl
closed (S.unsort n) = refl
closed (S.map2 t) = refl
closed (S.number j) = refl

-- nothing stands before the first node
befores_first : {ss : List Sort} (es : Exprs ss) → befores es 0 ≡ 0
unfolding befores before size
befores_first none = refl
befores_first (more (node h ds) es) = sym (cond_below 0 (suc (sizes ds)) 0 _ (omega arith))

-- all tokens stand before a node that comes later
befores_past : {ss : List Sort} (es : Exprs ss) (n : ℕ) → sizes es ≤ n → befores es n ≡ length (row es)
unfolding befores row sizes
befores_past none n h = refl
befores_past (more e es) n h =
    let all = befores_past es (n - size e) (omega arith) in
    let sum = length-append (tokens e) (row es) in
    sym (cond_above n (size e) (before e n) (length (tokens e) + befores es (n - size e)) (length (tokens e ++ row es)) (omega arith) (omega arith))

-- an expression in a row, and those after it
befores_more : {s : Sort} {ss : List Sort} (e : Expr s) (es : Exprs ss) (n : ℕ) → passed e n + befores es (n - size e) ≡ befores (more e es) n
unfolding befores
befores_more e es n = elim (cases_lt n (size e)) [ inl h ↦ within h | inr h ↦ past h ]
  where
    within : n < size e → passed e n + befores es (n - size e) ≡ befores (more e es) n
    within h =
        let first = befores_first es in
        let at : befores es (n - size e) ≡ befores es 0 = ap (befores es) (omega arith) in
        let a = cond_below n (size e) (before e n) (length (tokens e)) h in
        let b = cond_below n (size e) (before e n) (length (tokens e) + befores es (n - size e)) h in
        omega arith

    past : size e ≤ n → passed e n + befores es (n - size e) ≡ befores (more e es) n
    past h =
        let a = cond_above n (size e) (before e n) (length (tokens e)) (length (tokens e)) h refl in
        let b = cond_above n (size e) (before e n) (length (tokens e) + befores es (n - size e)) (length (tokens e) + befores es (n - size e)) h refl in
        omega arith

-- what a target at, within and past a node leaves of its tokens
passed_first : {s : Sort} (h : Head s) (es : Exprs (arity h)) → passed (node h es) 0 ≡ 0
unfolding before size
passed_first h es = sym (cond_below 0 (suc (sizes es)) 0 (length (tokens (node h es))) (omega arith))

passed_within : {s : Sort} (h : Head s) (es : Exprs (arity h)) (n : ℕ) → n < sizes es → passed (node h es) (suc n) ≡ length (opening h) + befores es n
unfolding before size
passed_within h es n l = sym (cond_below (suc n) (suc (sizes es)) (length (opening h) + befores es n) (length (tokens (node h es))) (omega arith))

passed_past : {s : Sort} (h : Head s) (es : Exprs (arity h)) (n : ℕ) → sizes es ≤ n → passed (node h es) (suc n) ≡ length (opening h) + befores es n + length (closing h)
unfolding before size tokens
passed_past h es n l =
    let all = befores_past es n l in
    let sum = length-append (opening h) (row es ++ closing h) in
    let inner = length-append (row es) (closing h) in
    sym (cond_above (suc n) (suc (sizes es)) (length (opening h) + befores es n) (length (tokens (node h es))) (length (opening h) + befores es n + length (closing h)) (omega arith) (omega arith))

-- a node's own tokens, and those of its parts
abbrev Counted : {s : Sort} (h : Head s) → Exprs (arity h) → ℕ → ℕ → Type 0
Counted h es place target = befores es (target - (place + 1)) + own_count (node_of h) place (place + 1 + sizes es) target ≡ passed (node h es) (target - place)

counted : {s : Sort} (h : Head s) (es : Exprs (arity h)) (place target : ℕ) → Counted h es place target
counted h es place target =
    elim (cases_lt place target) [ inl b ↦ elim (cases_lt target (place + 1 + sizes es)) [ inl l ↦ within b l | inr l ↦ past l ] | inr b ↦ first b ]
  where
    first : target ≤ place → Counted h es place target
    first b =
        let at : passed (node h es) (target - place) ≡ passed (node h es) 0 = ap (passed (node h es)) (omega arith) in
        let parts : befores es (target - (place + 1)) ≡ befores es 0 = ap (befores es) (omega arith) in
        let x = cond_above place target (opening_count (node_of h)) 0 0 b refl in
        let y = cond-false (leb (place + 1 + sizes es) target) (closing_count (node_of h)) 0 (lt-leb (place + 1 + sizes es) target (omega arith)) in
        omega (arith, passed_first h es, befores_first es)

    within : place < target → target < place + 1 + sizes es → Counted h es place target
    within b l =
        let n = target - (place + 1) in
        let at : passed (node h es) (target - place) ≡ passed (node h es) (suc n) = ap (passed (node h es)) (omega arith) in
        let x = cond_below place target (opening_count (node_of h)) 0 b in
        let y = cond-false (leb (place + 1 + sizes es) target) (closing_count (node_of h)) 0 (lt-leb (place + 1 + sizes es) target l) in
        omega (arith, passed_within h es n (omega arith), opened h)

    past : place + 1 + sizes es ≤ target → Counted h es place target
    past l =
        let n = target - (place + 1) in
        let at : passed (node h es) (target - place) ≡ passed (node h es) (suc n) = ap (passed (node h es)) (omega arith) in
        let x = cond_below place target (opening_count (node_of h)) 0 (omega arith) in
        let y = cond-true (leb (place + 1 + sizes es) target) (closing_count (node_of h)) 0 (le-leb (place + 1 + sizes es) target l) in
        omega (arith, passed_past h es n (omega arith), opened h, closed h)

-- a node has few tokens of its own
pub own_most : (n : Node) → opening_count n + closing_count n ≤ most_own
own_most v.Empty = omega arith
own_most (v.Primitive k a) = omega arith
own_most (v.Place t a) = omega arith
own_most (v.Join o) = omega arith
own_most v.Fold = omega arith
own_most (v.Vector a) = omega arith
own_most (v.List n) = omega arith
own_most (v.Repeat n) = omega arith
own_most (v.Tabulate n) = omega arith
own_most v.Concat = omega arith
own_most (v.Sort n) = omega arith
own_most (v.Unsort n) = omega arith
own_most (v.Map2 t) = omega arith
own_most (v.Number j) = omega arith

-- as many as are counted, or none
if_most : (b : Bool) (n : ℕ) → cond b n 0 ≤ n
if_most true n = omega arith
if_most false n = omega arith

pub own_few : (n : Node) (place end target : ℕ) → own_count n place end target ≤ most_own
own_few n place end target =
    let x = if_most (ltb place target) (opening_count n) in
    let y = if_most (leb end target) (closing_count n) in
    let sum = own_most n in
    omega arith

-- the parts of a node and its own tokens are its expression
pub term_walk : (nodes : List Node) (place target : ℕ) (n : Node) (k own : ℕ) (r : Walk) → length nodes < 2 ^ 63 → drop place nodes ≡ n ∷ drop (place + 1) nodes → k ≡ min (parts n) (2 ^ 64 - 1)
    → PartsWalk nodes (place + 1) k target r → own ≡ own_count n place r.end target → TermWalk nodes place target (record { end = r.end; tokens = r.tokens + own })
unfolding flatten size
term_walk nodes place target n k own r short here is p counts s (node h es) rest stands =
    let q = split_cons (sym here ∙ stands) in
    let inner = p (arity h) es rest (asked nodes n (place + 1) k h es rest short is q.0 q.1) q.1 in
    let mine = counts ∙ (λ i. own_count (q.0 i) place (inner.0 i) target) in
    (omega (arith, inner.0), (λ i. inner.1 i + mine i) ∙ counted h es place target)

-- no part is asked for, or no node is left
pub parts_none : (nodes : List Node) (place k target : ℕ) → (k ≡ 0) ⊎ (length nodes ≤ place) → PartsWalk nodes place k target (record { end = place; tokens = 0 })
unfolding flatten flattens sizes befores
parts_none nodes place k target why ss none rest is stands = (omega arith, refl)
parts_none nodes place k target (inl z) ss (more (node h ds) es) rest is stands = absurd (omega arith)
parts_none nodes place k target (inr l) ss (more (node h ds) es) rest is stands = absurd (some≢none (sym (drop_all place nodes l) ∙ stands))

-- an expression, and those after it
pub parts_more : (nodes : List Node) (place k target : ℕ) (first rest : Walk) → (k ≡ 0 → ⊥) → TermWalk nodes place target first → PartsWalk nodes first.end (k - 1) target rest
    → PartsWalk nodes place k target (record { end = rest.end; tokens = first.tokens + rest.tokens })
unfolding flattens sizes
parts_more nodes place k target first rest some p q ss none after is stands = absurd (some (sym is))
parts_more nodes place k target first rest some p q ss (more {s = s} {ss = ss'} e es) after is stands =
    let here = stands ∙ append_assoc (flatten e) (flattens es) after in
    let a = p s e (flattens es ++ after) here in
    let b = q ss' es after (omega arith) (ap (λ n. drop n nodes) a.0 ∙ past_term nodes place e (flattens es ++ after) here) in
    let at : befores es (target - first.end) ≡ befores es (target - place - size e) = ap (befores es) (omega (arith, a.0)) in
    (omega (arith, a.0, b.0), omega (arith, a.1, b.1, befores_more e es (target - place)))
