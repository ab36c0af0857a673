-- A legal program has no large number at any index. Assumes nothing.
use Rattle.std.proofs.Common.{◌≡◌, ℕ, zero, suc, ◌+◌, ◌%◌, ◌<◌, Bool, true, false, not, ◌||◌, eqb, List, [], ◌∷◌, ◌++◌, length, get_or, replicate, ℤ, nat_abs, Some, None, Option, sym, refl, ap, ◌∙◌, subst, ap₂, inl, inr, arith}
use Rattle.std.specs.List.{All}
use Rattle.std.proofs.lemmas.List.{get_or_past}
use Rattle.std.proofs.lemmas.List.Elements.{All-nil, All-cons, All-head, All-tail, All-append, All-replicate, All-map}
use Rattle.std.proofs.lemmas.Bool.{and_from, or_parts, cases_lt, ltb-false, le-ltb}
use Rattle.model.specs.declared.law.Context.{Context}
use Rattle.model.specs.declared.law.Law.TheVariants.{Numbers}
use Rattle.model.specs.declared.node.Placement.{Placement}
use Rattle.model.specs.declared.node.Placement.TheVariants.{Translate, Scale, Rotate}
use Rattle.model.specs.declared.node.Triple.{Triple}
use Rattle.model.specs.declared.node.Linear.{Linear}
use Rattle.model.specs.Families.{Meaning}
use Rattle.model.specs.Syntax.{Kind, solid, vector, Sort, one, many, num, Head, arity, empty, prim, place, join, fold, vec, list, repeat, tab, concat, sort, unsort, map2, number, Expr, Exprs, node, none, more, Solid, size}
use Rattle.model.specs.Nodes.{node_of}
use Rattle.model.specs.Placements.{at}
use Rattle.model.specs.Shapes.{Val, Den, Dens, row, order, past, run, runs, made_of, union_of, from, zip_with, idle, place_of, natural}
use Rattle.model.specs.Counts.{counts}
use Rattle.model.specs.Legality.{root, below, indices, some_of, some_axis, beyond, nonzero, unfit, wild, unkind, breaks, first, firsts, Legal}
use Rattle.model.specs.Tame.{small_vector, taming, tame}
use Rattle.model.proofs.Sequences.{at_from, length_from}
use Rattle.model.proofs.Weights.{kept, neither}
use Rattle.model.proofs.Lawful.{keeps_law}

-- the index is one of the loop's
abbrev Among : ℕ → Option ℤ → Type 0
Among i None = i ≡ 0
Among i (Some n) = i < natural n

none_from : (f : ℕ → Bool) (j n i : ℕ) → some_of f (from (λ k. k) j n) ≡ false → i < n → f (j + i) ≡ false
none_from f j zero i p h = absurd (omega arith)
none_from f j (suc n) zero p h = ap f (omega arith) ∙ (or_parts (f j) (some_of f (from (λ k. k) (suc j) n)) p).0
none_from f j (suc n) (suc i) p h = ap f (omega arith) ∙ none_from f (suc j) n i (or_parts (f j) (some_of f (from (λ k. k) (suc j) n)) p).1 (omega arith)

at_index : (f : ℕ → Bool) (o : Option ℤ) (i : ℕ) → some_of f (indices o) ≡ false → Among i o → f i ≡ false
at_index f None i p h = ap f h ∙ (or_parts (f 0) false p).0
at_index f (Some n) i p h = ap f (omega arith) ∙ none_from f 0 (natural n) i p h

-- ---- a number that a placement takes is small
fit_small : (t : Placement) (z : ℤ) → unfit t z ≡ false → beyond 1000000 z ≡ false
fit_small Translate z p = p
fit_small Scale z p = let q = ltb-false 1000 (nat_abs z) (or_parts (not (nonzero z)) (beyond 1000 z) p).1 in le-ltb 1000000 (nat_abs z) (omega arith)
fit_small Rotate z p = let q = ltb-false 36000 (nat_abs z) (or_parts (beyond 36000 z) (not (eqb (nat_abs z % 90) 0)) p).0 in le-ltb 1000000 (nat_abs z) (omega arith)

fit_vector : (t : Placement) (v : Triple) → some_axis (unfit t) v ≡ false → small_vector v ≡ true
fit_vector t v p =
    let x = or_parts (unfit t v.x) (unfit t v.y || unfit t v.z) p in
    let y = or_parts (unfit t v.y) (unfit t v.z) x.1 in
    ap not (ap₂ (λ a b. a || b) (fit_small t v.x x.0) (ap₂ (λ a b. a || b) (fit_small t v.y y.0) (fit_small t v.z y.1)))

tame_at : (t : Placement) (c : Context) (v : Linear) (i : ℕ) → wild t c v ≡ false → Among i c.around → small_vector (at i v) ≡ true
tame_at t c v i p h =
    let a = (or_parts (some_axis (beyond 1000000) v.constant) _ p).1 in
    let b = (or_parts (some_axis (beyond 1000000) v.slope) _ a).1 in
    fit_vector t (at i v) (at_index (λ j. some_axis (unfit t) (at j v)) c.around i b h)

-- ---- what an expression comes to is tame
abbrev TameV : (k : Kind) → Val Bool k → Type 0
TameV solid x = x ≡ true
TameV vector v = small_vector v ≡ true

abbrev TameD : (s : Sort) → Den Bool s → Type 0
TameD (one k) d = TameV k d
TameD (many k) d = All (TameV k) d
TameD num d = Unit {0}

abbrev TameDs : (ss : List Sort) → Dens Bool ss → Type 0
TameDs [] d = Unit {0}
TameDs (s ∷ ss) d = TameD s d.0 × TameDs ss d.1

module _ {A : Type 0} (P : A → Type 0) where
  every_from : (f : ℕ → A) (j n : ℕ) → ((i : ℕ) → i < n → P (f (j + i))) → All P (from f j n)
  every_from f j n p = λ k d h. let u : k < n = omega (arith, length_from f j n) in subst P (sym (at_from f j n k d u)) (p k u)

  every_at : (l : List A) (d : A) → All P l → P d → (j : ℕ) → P (get_or l j d)
  every_at l d p q j = elim (cases_lt j (length l)) [ inl h ↦ p j d h | inr h ↦ subst P (sym (get_or_past l j d h)) q ]

row_tame : (k : Kind) (n : ℕ) (d : Dens Bool (replicate n (one k))) → TameDs (replicate n (one k)) d → All (TameV k) (row Bool k n d)
row_tame k zero d p = All-nil (TameV k)
row_tame k (suc n) d p = All-cons (TameV k) d.0 (row Bool k n d.1) p.0 (row_tame k n d.1 p.1)

past_tame : (ss : List Sort) (n : ℕ) (d : Dens Bool (replicate n num ++ ss)) → TameDs (replicate n num ++ ss) d → TameDs ss (past Bool ss n d)
past_tame ss zero d p = p
past_tame ss (suc n) d p = past_tame ss n d.1 p.1

idle_tame : (k : Kind) → TameV k (idle taming k)
idle_tame solid = refl
idle_tame vector = refl

union_tame : (l : List Bool) → All (λ x. x ≡ true) l → union_of taming l ≡ true
union_tame [] p = refl
union_tame (x ∷ []) p = All-head (λ b. b ≡ true) x [] p
union_tame (x ∷ y ∷ l) p = and_from x (union_of taming (y ∷ l)) (All-head (λ b. b ≡ true) x (y ∷ l) p) (union_tame (y ∷ l) (All-tail (λ b. b ≡ true) x (y ∷ l) p))

zip_tame : (t : Placement) (vs : List Triple) (l : List Bool) → All (TameV vector) vs → All (TameV solid) l → All (TameV solid) (zip_with (taming.place t) vs l)
zip_tame t [] l p q = All-nil (TameV solid)
zip_tame t (v ∷ vs) [] p q = All-nil (TameV solid)
zip_tame t (v ∷ vs) (x ∷ l) p q =
    let S = TameV solid in
    let V = TameV vector in
    All-cons S (taming.place t v x) (zip_with (taming.place t) vs l) (and_from (small_vector v) x (All-head V v vs p) (All-head S x l q)) (zip_tame t vs l (All-tail V v vs p) (All-tail S x l q))

head_tame : (m : Meaning) (c : Context) (cs : List ℕ) {s : Sort} (h : Head s) → breaks m c cs (node_of h) Numbers ≡ false → (d : ℕ → Dens Bool (arity h))
    → ((j : ℕ) → Among j (below (node_of h) c).around → TameDs (arity h) (d j)) → (i : ℕ) → Among i c.around → TameD s (made_of taming h d i)
head_tame m c cs empty b d p i a = refl
head_tame m c cs (prim k v) b d p i a = let q = or_parts (unkind k) (wild Translate c v) b in and_from (not (unkind k)) (small_vector (at i v)) (ap not q.0) (tame_at Translate c v i q.1 a)
head_tame m c cs (place t v) b d p i a = and_from (small_vector (at i v)) (d i).0 (tame_at t c v i b a) (p i a).0
head_tame m c cs (join o) b d p i a = and_from (d i).0 (d i).1.0 (p i a).0 (p i a).1.0
head_tame m c cs fold b d p i a = union_tame (d i).0 (p i a).0
head_tame m c cs (vec v) b d p i a = tame_at c.placement c v i b a
head_tame m c cs (list {k} n) b d p i a = row_tame k n (d i) (p i a)
head_tame m c cs (repeat {k} n) b d p i a = All-replicate (TameV k) (natural n) (d i).0 (p i a).0
head_tame m c cs (tab {k} n) b d p i a = every_from (TameV k) (λ j. (d j).0) 0 (natural n) (λ j h. (p (0 + j) (omega arith)).0)
head_tame m c cs (concat {k}) b d p i a = All-append (TameV k) (d i).0 (d i).1.0 (p i a).0 (p i a).1.0
head_tame m c cs (sort {k} n) b d p i a =
    let l = (past Bool (many k ∷ []) n (d i)).0 in
    All-map (TameV k) (λ j. get_or l j (idle taming k)) (order Bool (many k ∷ []) n (d i)) (λ j e h. every_at (TameV k) l (idle taming k) (past_tame (many k ∷ []) n (d i) (p i a)).0 (idle_tame k) (get_or (order Bool (many k ∷ []) n (d i)) j e))
head_tame m c cs (unsort {k} n) b d p i a =
    let l = (past Bool (many k ∷ []) n (d i)).0 in
    let o = order Bool (many k ∷ []) n (d i) in
    every_from (TameV k) (λ j. get_or l (place_of j o) (idle taming k)) 0 (length o)
    (λ j h. every_at (TameV k) l (idle taming k) (past_tame (many k ∷ []) n (d i) (p i a)).0 (idle_tame k) (place_of (0 + j) o))
head_tame m c cs (map2 t) b d p i a = zip_tame t (d i).0 (d i).1.0 (p i a).0 (p i a).1.0
head_tame m c cs (number j) b d p i a = tt

mutual
  unfolding run runs first firsts

  run_tame : (m : Meaning) (c : Context) {s : Sort} (e : Expr s) (n : ℕ) → first m Numbers c e n ≡ None → (i : ℕ) → Among i c.around → TameD s (run taming e i)
  run_tame m c (node h es) n p i a =
      let here = kept (breaks m c (counts es) (node_of h) Numbers) n (firsts m Numbers (below (node_of h) c) es (suc n)) p in
      head_tame m c (counts es) h here.0 (λ j. runs taming es j) (λ j b. runs_tame m (below (node_of h) c) es (suc n) here.1 j b) i a

  runs_tame : (m : Meaning) (c : Context) {ss : List Sort} (es : Exprs ss) (n : ℕ) → firsts m Numbers c es n ≡ None → (i : ℕ) → Among i c.around → TameDs ss (runs taming es i)
  runs_tame m c none n p i a = tt
  runs_tame m c (more e es) n p i a =
      let both = neither (first m Numbers c e n) (firsts m Numbers c es (n + size e)) p in
      (run_tame m c e n both.0 i a, runs_tame m c es (n + size e) both.1 i a)

pub legal_tame : (m : Meaning) (e : Solid) → Legal m e → tame e ≡ true
unfolding tame
legal_tame m e p = run_tame m root e 0 (keeps_law m e p Numbers) 0 refl
