-- Terms at a place of a list of nodes. Assumes nothing.
use Rattle.std.proofs.Common.{◌≡◌, ℕ, ◌+◌, ◌-◌, ◌^◌, ◌<◌, ◌≤◌, min, max, ◌⊎◌, List, [], ◌∷◌, ◌++◌, length, drop, replicate, sym, refl, ap, ap₂, ◌∙◌, inl, inr, append_assoc, append-nil, true, arith, length-append, length-drop}
use Rattle.std.proofs.lemmas.List.{drop_all, length-replicate}
use Rattle.model.specs.declared.node.Node.{Node}
use Rattle.model.specs.declared.depth.Extent.{Extent}
use Rattle.model.specs.Syntax.{Sort, one, solid, many, num, Head, arity, Expr, Exprs, node, none, more, depth, depths}
use Rattle.model.specs.Syntax as S
use Rattle.model.specs.Nodes.{node_of, parts, flatten, flattens}
use Rattle.model.specs.Depths.{TermExtent, PartsExtent}
use Rattle.model.specs.Held.{whole, program}
use Rattle.model.proofs.Holding.{program_nodes}

-- a head has as many parts as its node
pub arity_parts : {s : Sort} (h : Head s) → length (arity h) ≡ parts (node_of h)
arity_parts (S.list {k} n) = length-replicate n (one k)
arity_parts (S.sort {k} n) = length-append (replicate n num) (many k ∷ []) ∙ ap (λ m. m + 1) (length-replicate n num)
arity_parts (S.unsort {k} n) = length-append (replicate n num) (many k ∷ []) ∙ ap (λ m. m + 1) (length-replicate n num)
arity_parts _ = refl

-- each part has a node of its own
pub parts_le : {ss : List Sort} (es : Exprs ss) → length ss ≤ length (flattens es)
unfolding flatten flattens
parts_le none = omega arith
parts_le (more (node h ds) es) = let r = parts_le es in let l = length-append (flattens ds) (flattens es) in omega arith

-- the first node, and those after it
pub split_cons : {n m : Node} {xs ys : List Node} → n ∷ xs ≡ m ∷ ys → (n ≡ m) × (xs ≡ ys)
split_cons e = (cc, cc)

pub some≢none : {n : Node} {xs : List Node} → [] ≡ n ∷ xs → ⊥
some≢none e = cc

-- as many parts as a node asks for, though the code's count is cut off at the greatest number
pub asked : (nodes : List Node) (n : Node) (place k : ℕ) {s : Sort} (h : Head s) (es : Exprs (arity h)) (rest : List Node) → length nodes < 2 ^ 63
    → k ≡ min (parts n) (2 ^ 64 - 1) → n ≡ node_of h → drop place nodes ≡ flattens es ++ rest → length (arity h) ≡ k
asked nodes n place k h es rest short is q stands =
    let p : parts n ≡ length (arity h) = ap parts q ∙ sym (arity_parts h) in
    let least = parts_le es in
    let long = ap length stands ∙ length-append (flattens es) rest in
    let cut = length-drop place nodes in
    omega arith

pub term_extent : (nodes : List Node) (place : ℕ) (n : Node) (k : ℕ) (r : Extent) → length nodes < 2 ^ 63 → drop place nodes ≡ n ∷ drop (place + 1) nodes → k ≡ min (parts n) (2 ^ 64 - 1)
    → PartsExtent nodes (place + 1) k r → TermExtent nodes place (record { end = r.end; depth = r.depth + 1 })
unfolding flatten depth
term_extent nodes place n k r short here is p s (node h es) rest stands =
    let q = split_cons (sym here ∙ stands) in
    let inner = p (arity h) es rest (asked nodes n (place + 1) k h es rest short is q.0 q.1) q.1 in
    (inner.0, omega (arith, inner.1))

pub parts_none : (nodes : List Node) (place k : ℕ) → (k ≡ 0) ⊎ (length nodes ≤ place) → PartsExtent nodes place k (record { end = place; depth = 0 })
unfolding flatten flattens depths
parts_none nodes place k why ss none rest is stands = (stands, refl)
parts_none nodes place k (inl z) ss (more (node h ds) es) rest is stands = absurd (omega arith)
parts_none nodes place k (inr l) ss (more (node h ds) es) rest is stands = absurd (some≢none (sym (drop_all place nodes l) ∙ stands))

pub parts_more : (nodes : List Node) (place k d : ℕ) (first rest : Extent) → (k ≡ 0 → ⊥) → d ≡ max first.depth rest.depth → TermExtent nodes place first → PartsExtent nodes first.end (k - 1) rest
    → PartsExtent nodes place k (record { end = rest.end; depth = d })
unfolding flattens depths
parts_more nodes place k d first rest some deep p q ss none after is stands = absurd (some (sym is))
parts_more nodes place k d first rest some deep p q ss (more {s = s} {ss = ss'} e es) after is stands =
    let a = p s e (flattens es ++ after) (stands ∙ append_assoc (flatten e) (flattens es) after) in
    let b = q ss' es after (omega arith) a.0 in
    (b.0, deep ∙ ap₂ max a.1 b.1)

-- a program is as deep as the one term of its nodes
pub depth_program : (nodes ns : List Node) (r : Extent) → nodes ≡ ns → whole ns ≡ true → PartsExtent nodes 0 1 r → r.depth ≡ depth (program ns)
unfolding flattens depths
depth_program nodes ns r same e p =
    let root = program ns in
    let stands = same ∙ sym (program_nodes ns e) ∙ sym (append-nil (flatten root)) ∙ sym (append-nil (flatten root ++ [])) in
    omega (arith, (p (one solid ∷ []) (more root none) [] refl stands).1)
