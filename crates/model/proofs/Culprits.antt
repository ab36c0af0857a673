-- The node that breaks a law is one of the program's, and begins with one of its tokens. Assumes nothing.
use Rattle.std.proofs.Common.{◌≡◌, ℕ, zero, suc, ◌+◌, ◌-◌, ◌<◌, ◌≤◌, Bool, true, false, cond, ◌||◌, ltb, List, [], ◌∷◌, ◌++◌, length, Some, None, Option, refl, inl, inr, arith, length-append}
use Rattle.std.specs.Option.{option_or}
use Rattle.std.proofs.lemmas.Bool.Decides.{leb_tells}
use Rattle.model.specs.Limits.{most_nodes, most_levels, most_unrolled}
use Rattle.model.specs.declared.law.Law.{Law}
use Rattle.model.specs.declared.law.Law.TheVariants.{Size, Lengths}
use Rattle.model.specs.declared.law.Fault.{Fault}
use Rattle.model.specs.declared.law.Context.{Context}
use Rattle.model.specs.Families.{Meaning}
use Rattle.model.specs.Syntax.{Sort, Head, empty, Expr, Exprs, node, none, more, Solid, size, sizes, depth}
use Rattle.model.specs.Nodes.{node_of}
use Rattle.model.specs.Counts.{counts}
use Rattle.model.specs.Legality.{root, below, breaks, first, firsts, culprit, laws, told, first_fault, fault}
use Rattle.model.specs.Unrolling.{unroll}
use Rattle.model.specs.Tokens.{tokens, row, opening, closing}
use Rattle.model.specs.Feed.{Feed, token, bad, end, said}
use Rattle.model.specs.Starts.{before, befores, nth_span}
use Rattle.model.proofs.Readable.{some_node}

-- ---- the node
-- n is one of k numbers from at on
abbrev Within : ℕ → ℕ → ℕ → Type 0
Within at k n = (at ≤ n) × (n < at + k)

node_within : (b : Bool) (at k n : ℕ) (o : Option ℕ) → (o ≡ Some n → Within (suc at) k n) → cond b (Some at) o ≡ Some n → Within at (suc k) n
node_within true at k n o f p = let q : at ≡ n = cc in (omega arith, omega arith)
node_within false at k n o f p = let q = f p in (omega (arith, q.0), omega (arith, q.1))

either_within : (a b : Option ℕ) (at k j n : ℕ) → (a ≡ Some n → Within at k n) → (b ≡ Some n → Within (at + k) j n) → option_or a b ≡ Some n → Within at (k + j) n
either_within None b at k j n f g p = let q = g p in (omega (arith, q.0), omega (arith, q.1))
either_within (Some x) b at k j n f g p = let q = f p in (omega (arith, q.0), omega (arith, q.1))

mutual
  unfolding first firsts size sizes

  first_within : (m : Meaning) (l : Law) (c : Context) {s : Sort} (e : Expr s) (at n : ℕ) → first m l c e at ≡ Some n → Within at (size e) n
  first_within m l c (node h es) at n p =
      node_within (breaks m c (counts es) (node_of h) l) at (sizes es) n (firsts m l (below (node_of h) c) es (suc at)) (firsts_within m l (below (node_of h) c) es (suc at) n) p

  firsts_within : (m : Meaning) (l : Law) (c : Context) {ss : List Sort} (es : Exprs ss) (at n : ℕ) → firsts m l c es at ≡ Some n → Within at (sizes es) n
  firsts_within m l c none at n p = cc
  firsts_within m l c (more e es) at n p =
      either_within (first m l c e at) (firsts m l c es (at + size e)) at (size e) (sizes es) n (first_within m l c e at n) (firsts_within m l c es (at + size e) n) p

-- node 0, or else a node as told
root_within : (b : Bool) (k n : ℕ) (o : Option ℕ) → 0 < k → (o ≡ Some n → n < k) → cond b (Some 0) o ≡ Some n → n < k
root_within true k n o some f p = let q : 0 ≡ n = cc in omega arith
root_within false k n o some f p = f p

culprit_within : (m : Meaning) (e : Solid) (l : Law) (n : ℕ) → culprit m e l ≡ Some n → n < size e
culprit_within m e Size n p = root_within (ltb most_nodes (size e) || ltb most_levels (depth e)) (size e) n None (some_node e) (λ q. cc) p
culprit_within m e Lengths n p = root_within (ltb most_unrolled (size (unroll e))) (size e) n (first m Lengths root e 0) (some_node e) (λ q. omega (arith, (first_within m Lengths root e 0 n q).1)) p
culprit_within m e l n p = omega (arith, (first_within m l root e 0 n p).1)

told_within : (l : Law) (o : Option ℕ) (later : Option Fault) (f : Fault) (k : ℕ) → ((n : ℕ) → o ≡ Some n → n < k) → (later ≡ Some f → f.node < k) → told l o later ≡ Some f → f.node < k
told_within l None later f k here after p = after p
told_within l (Some n) later f k here after p = let q : n ≡ f.node = cc in omega (arith, here n refl)

faults_within : (m : Meaning) (e : Solid) (ls : List Law) (f : Fault) → first_fault m e ls ≡ Some f → f.node < size e
faults_within m e [] f p = cc
faults_within m e (l ∷ ls) f p = told_within l (culprit m e l) (first_fault m e ls) f (size e) (culprit_within m e l) (faults_within m e ls f) p

pub fault_within : (m : Meaning) (e : Solid) (f : Fault) → fault m e ≡ Some f → f.node < size e
unfolding fault
fault_within m e f p = faults_within m e laws f p

-- ---- its first token
opening_some : {s : Sort} (h : Head s) → 0 < length (opening h)
opening_some empty = omega arith
opening_some _ = omega arith

mutual
  unfolding before befores tokens row size sizes

  pub before_within : {s : Sort} (e : Expr s) (n : ℕ) → n < size e → before e n < length (tokens e)
  before_within (node h es) zero p = let some = opening_some h in omega (arith, length-append (opening h) (row es ++ closing h))
  before_within (node h es) (suc n) p =
      let inner = befores_within es n (omega arith) in
      omega (arith, length-append (opening h) (row es ++ closing h), length-append (row es) (closing h))

  befores_within : {ss : List Sort} (es : Exprs ss) (n : ℕ) → n < sizes es → befores es n < length (row es)
  befores_within none n p = absurd (omega arith)
  befores_within (more e es) n p =
      elim (leb_tells (suc n) (size e)) [
        | inl q ↦ rw q.0 (let inner = before_within e n q.1 in omega (arith, length-append (tokens e) (row es)))
        | inr q ↦ rw q.0 (let inner = befores_within es (n - size e) (omega arith) in omega (arith, length-append (tokens e) (row es)))
      ]

pub nth_some : (f : Feed) (n : ℕ) → n < length (said f) → nth_span f n ≡ None → ⊥
nth_some (token t s f) zero p q = cc
nth_some (token t s f) (suc n) p q = nth_some f n (omega arith) q
nth_some (bad s) n p q = omega arith
nth_some (end b) n p q = omega arith
