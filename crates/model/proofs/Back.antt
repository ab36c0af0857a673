-- The run over a program's tokens, exactly, and the first node past a limit. Assumes nothing.
use Rattle.std.proofs.Common.{◌≡◌, ℕ, zero, suc, ◌+◌, ◌-◌, ◌<◌, ◌≤◌, Bool, true, false, cond, ltb, List, [], ◌∷◌, ◌++◌, length, replicate, sym, refl, ap, ◌∙◌, subst, arith, length-append}
use mathlib.Core.Path.{fun_ext}
use mathlib.Core.Option.{Option, some}
use mathlib.Core.Option as O
use Rattle.std.proofs.lemmas.Bool.{cond-true, and_parts, and_from, ltb-true, lt-ltb}
use Rattle.model.specs.Limits.{most_levels}
use Rattle.model.specs.declared.node.Placement.TheVariants as by
use Rattle.model.specs.declared.node.Operator.TheVariants as op
use Rattle.model.specs.declared.word.Mark.TheVariants.{Close}
use Rattle.model.specs.declared.refusal.Span.{Span}
use Rattle.model.specs.declared.refusal.Refusal.TheVariants.{TooLarge}
use Rattle.model.specs.Syntax.{Kind, solid, vector, Sort, one, many, num, Head, arity, Expr, Exprs, node, none, more, Solid, size, sizes, depth, depths, textual, textuals, textual_head}
use Rattle.model.specs.Syntax as S
use Rattle.model.specs.Tokens.{Token, opening, closing, tokens, row}
use Rattle.model.specs.Tokens as T
use Rattle.model.specs.Feed.{Feed, token, bad, end, said, Clean}
use Rattle.model.specs.Grammar.{Goal, element, elements, mark, run, room, Outcome, whole, refused, judged}
use Rattle.model.specs.Readings.{firsts, firsts_in, first_over, ReadsBack, Within}
use Rattle.model.proofs.Once.{fewer, one_reading}
use Rattle.model.proofs.Derive.{wanted, first_textual, parts_textual, no_number}
use Rattle.model.proofs.Stops.{fed, whole_reading}

fed_append : (sp : ℕ → Span) (i : ℕ) (us vs : List Token) (f : Feed) → fed sp i (us ++ vs) f ≡ fed sp i us (fed sp (i + length us) vs f)
fed_append sp i [] vs f = ap (λ j. fed sp j vs f) (omega arith)
fed_append sp i (t ∷ us) vs f = ap (token t (sp i)) (fed_append sp (suc i) us vs f ∙ ap (λ j. fed sp (suc i) us (fed sp j vs f)) (omega arith))

fed_row : {s : Sort} {ss : List Sort} (e : Expr s) (es : Exprs ss) (sp : ℕ → Span) (i : ℕ) (f : Feed) → fed sp i (row (more e es)) f ≡ fed sp i (tokens e) (fed sp (i + length (tokens e)) (row es) f)
unfolding tokens row
fed_row e es sp i f = fed_append sp i (tokens e) (row es) f

-- nodes that begin at these places, one after another, and what follows if all fit
abbrev walk : (ℕ → Span) → ℕ → List (ℕ × ℕ) → (ℕ → Outcome) → Outcome
walk sp n [] k = k n
walk sp n (p ∷ ps) k = cond (room p.1 n) (walk sp (n + 1) ps k) (refused (TooLarge (sp p.0)))

walk_append : (sp : ℕ → Span) (n : ℕ) (ps qs : List (ℕ × ℕ)) (k : ℕ → Outcome) → walk sp n (ps ++ qs) k ≡ walk sp n ps (λ m. walk sp m qs k)
walk_append sp n [] qs k = refl
walk_append sp n (p ∷ ps) qs k = ap (λ o. cond (room p.1 n) o (refused (TooLarge (sp p.0)))) (walk_append sp (n + 1) ps qs k)

-- what is to come after a head's opening, whose parts have d levels left
abbrev inside : {s : Sort} → Head s → ℕ → List Goal → List Goal
inside S.empty d gs = gs
inside (S.vec a) d gs = gs
inside (S.list {k} n) d gs = elements k d ∷ gs
inside (S.sort n) d gs = gs
inside (S.unsort n) d gs = gs
inside (S.number j) d gs = gs
inside h d gs = wanted (arity h) d (mark Close ∷ gs)

opened : {s : Sort} (h : Head s) → textual_head h ≡ true → (sp : ℕ → Span) (i d n : ℕ) (f : Feed) (gs : List Goal) → run (fed sp i (opening h) f) (wanted (s ∷ []) d gs) n ≡ cond (room d n) (run f (inside h (d - 1) gs) (n + 1)) (refused (TooLarge (sp i)))
opened (S.place by.Translate a) x sp i d n f gs = refl
opened (S.place by.Scale a) x sp i d n f gs = refl
opened (S.place by.Rotate a) x sp i d n f gs = refl
opened (S.join op.Union) x sp i d n f gs = refl
opened (S.join op.Diff) x sp i d n f gs = refl
opened (S.join op.Inter) x sp i d n f gs = refl
opened (S.sort n) x sp i d m f gs = cc
opened (S.unsort n) x sp i d m f gs = cc
opened (S.map2 by.Translate) x sp i d n f gs = refl
opened (S.map2 by.Scale) x sp i d n f gs = refl
opened (S.map2 by.Rotate) x sp i d n f gs = refl
opened (S.number j) x sp i d n f gs = cc
opened _ x sp i d n f gs = refl

-- an element is read alike where more elements may follow
among : {k : Kind} (e : Expr (one k)) (sp : ℕ → Span) (i d n : ℕ) (f : Feed) (gs : List Goal) → run (fed sp i (tokens e) f) (elements k d ∷ gs) n ≡ run (fed sp i (tokens e) f) (element k d ∷ elements k d ∷ gs) n
unfolding tokens row
among (node S.empty es) sp i d n f gs = refl
among (node _ es) sp i d n f gs = refl

-- the run over an expression's tokens is the walk over its nodes
abbrev Exact : {s : Sort} → Expr s → Type 0
Exact {s} e = (sp : ℕ → Span) (i d n : ℕ) (f : Feed) (gs : List Goal) → run (fed sp i (tokens e) f) (wanted (s ∷ []) d gs) n ≡ walk sp n (firsts e i d) (run f gs)

-- what holds of expressions of at most m nodes holds of rows of them
module _ (m : ℕ) (ih : (s : Sort) (e : Expr s) → size e ≤ m → textual e ≡ true → Exact e) where
  -- an expression, and the rest of its row
  then_row : (s : Sort) {ss : List Sort} (e : Expr s) (es : Exprs ss) (sp : ℕ → Span) (i d n : ℕ) (f : Feed) (gs hs : List Goal) → sizes (more e es) ≤ m → textual e ≡ true
      → ((j l : ℕ) → run (fed sp j (row es) f) hs l ≡ walk sp l (firsts_in es j d) (run f gs))
      → run (fed sp i (tokens e) (fed sp (i + length (tokens e)) (row es) f)) (wanted (s ∷ []) d hs) n ≡ walk sp n (firsts_in (more e es) i d) (run f gs)
  unfolding size sizes firsts firsts_in
  then_row s e es sp i d n f gs hs l x k =
      let j = i + length (tokens e) in
      ih s e (omega arith) x sp i d n (fed sp j (row es) f) hs
      ∙ ap (walk sp n (firsts e i d)) (fun_ext (k j))
      ∙ sym (walk_append sp n (firsts e i d) (firsts_in es j d) (run f gs))

  rows : (ss : List Sort) (es : Exprs ss) → sizes es ≤ m → textuals es ≡ true → (sp : ℕ → Span) (i d n : ℕ) (f : Feed) (gs : List Goal) → run (fed sp i (row es) f) (wanted ss d gs) n ≡ walk sp n (firsts_in es i d) (run f gs)
  unfolding tokens row firsts firsts_in
  rows [] none l x sp i d n f gs = refl
  rows (one k ∷ ss) (more e es) l x sp i d n f gs =
      let t = first_textual e es x in
      ap (λ g. run g (wanted (one k ∷ ss) d gs) n) (fed_row e es sp i f)
      ∙ then_row (one k) e es sp i d n f gs (wanted ss d gs) l t.0 (λ j p. rows ss es (fewer m e es l) t.1 sp j d p f gs)
  rows (many k ∷ ss) (more e es) l x sp i d n f gs =
      let t = first_textual e es x in
      ap (λ g. run g (wanted (many k ∷ ss) d gs) n) (fed_row e es sp i f)
      ∙ then_row (many k) e es sp i d n f gs (wanted ss d gs) l t.0 (λ j p. rows ss es (fewer m e es l) t.1 sp j d p f gs)
  rows (num ∷ ss) (more e es) l x sp i d n f gs = absurd (no_number e (first_textual e es x).0)

  row_elements : (k : Kind) (c : ℕ) (es : Exprs (replicate c (one k))) → sizes es ≤ m → textuals es ≡ true → (sp : ℕ → Span) (s : Span) (i d n : ℕ) (f : Feed) (gs : List Goal) → run (fed sp i (row es) (token (T.mark Close) s f)) (elements k d ∷ gs) n ≡ walk sp n (firsts_in es i d) (run f gs)
  unfolding tokens row firsts firsts_in
  row_elements k zero none l x sp s i d n f gs = refl
  row_elements k (suc c) (more e es) l x sp s i d n f gs =
      let t = first_textual e es x in
      let g = token (T.mark Close) s f in
      ap (λ h. run h (elements k d ∷ gs) n) (fed_row e es sp i g)
      ∙ among e sp i d n _ gs
      ∙ then_row (one k) e es sp i d n g (mark Close ∷ gs) (elements k d ∷ gs) l t.0 (λ j p. row_elements k c es (fewer m e es l) t.1 sp s j d p f gs)

  -- a node's parts and its closing bracket
  shut : (ss : List Sort) (es : Exprs ss) → sizes es ≤ m → textuals es ≡ true → (sp : ℕ → Span) (i d n : ℕ) (f : Feed) (gs : List Goal) → run (fed sp i (row es ++ (T.mark Close ∷ [])) f) (wanted ss d (mark Close ∷ gs)) n ≡ walk sp n (firsts_in es i d) (run f gs)
  shut ss es l x sp i d n f gs =
      ap (λ g. run g (wanted ss d (mark Close ∷ gs)) n) (fed_append sp i (row es) (T.mark Close ∷ []) f)
      ∙ rows ss es l x sp i d n (token (T.mark Close) (sp (i + length (row es))) f) (mark Close ∷ gs)

  after_opening : {s : Sort} (h : Head s) (es : Exprs (arity h)) → sizes es ≤ m → textual_head h ≡ true → textuals es ≡ true → (sp : ℕ → Span) (i d n : ℕ) (f : Feed) (gs : List Goal) → run (fed sp i (row es ++ closing h) f) (inside h d gs) n ≡ walk sp n (firsts_in es i d) (run f gs)
  unfolding tokens row firsts firsts_in
  after_opening S.empty none l z x sp i d n f gs = refl
  after_opening (S.vec a) none l z x sp i d n f gs = refl
  after_opening (S.list {k} c) es l z x sp i d n f gs =
      ap (λ g. run g (elements k d ∷ gs) n) (fed_append sp i (row es) (T.mark Close ∷ []) f)
      ∙ row_elements k c es l x sp (sp (i + length (row es))) i d n f gs
  after_opening (S.sort c) es l z x sp i d n f gs = cc
  after_opening (S.unsort c) es l z x sp i d n f gs = cc
  after_opening (S.number j) es l z x sp i d n f gs = cc
  after_opening h es l z x sp i d n f gs = shut (arity h) es l x sp i d n f gs

exact_upto : (m : ℕ) (s : Sort) (e : Expr s) → size e ≤ m → textual e ≡ true → Exact e
unfolding size sizes tokens row firsts firsts_in
exact_upto zero s (node h es) l x sp i d n f gs = absurd (omega arith)
exact_upto (suc m) s (node h es) l x sp i d n f gs =
    let t = parts_textual h es x in
    let j = i + length (opening h) in
    ap (λ g. run g (wanted (s ∷ []) d gs) n) (fed_append sp i (opening h) (row es ++ closing h) f)
    ∙ opened h t.0 sp i d n (fed sp j (row es ++ closing h) f) gs
    ∙ ap (λ o. cond (room d n) o (refused (TooLarge (sp i)))) (after_opening m (exact_upto m) h es (omega arith) t.0 t.1 sp j (d - 1) (n + 1) f gs)

-- where a walk stops, and with how many nodes it ends
abbrev pub ended : (ℕ → Span) → Option ℕ → Outcome → Outcome
ended sp O.none o = o
ended sp (some j) o = refused (TooLarge (sp j))

ended_cond : (sp : ℕ → Span) (j : ℕ) (b : Bool) (o : Outcome) (p : Option ℕ) (q : Outcome) → o ≡ ended sp p q → cond b o (refused (TooLarge (sp j))) ≡ ended sp (cond b p (some j)) q
ended_cond sp j true o p q e = e
ended_cond sp j false o p q e = refl

walk_ended : (sp : ℕ → Span) (n : ℕ) (ps : List (ℕ × ℕ)) (k : ℕ → Outcome) → walk sp n ps k ≡ ended sp (first_over n ps) (k (n + length ps))
walk_ended sp n [] k = ap k (omega arith)
walk_ended sp n (p ∷ ps) k = ended_cond sp p.0 (room p.1 n) _ (first_over (n + 1) ps) _ (walk_ended sp (n + 1) ps k ∙ ap (λ c. ended sp (first_over (n + 1) ps) (k c)) (omega arith))

mutual
  unfolding size sizes firsts firsts_in

  length_firsts : {s : Sort} (e : Expr s) (i d : ℕ) → length (firsts e i d) ≡ size e
  length_firsts (node h es) i d = ap suc (length_firsts_in es (i + length (opening h)) (d - 1))

  length_firsts_in : {ss : List Sort} (es : Exprs ss) (i d : ℕ) → length (firsts_in es i d) ≡ sizes es
  length_firsts_in none i d = refl
  length_firsts_in (more e es) i d = let a = length_firsts e i d in let b = length_firsts_in es (i + length (tokens e)) d in length-append (firsts e i d) (firsts_in es (i + length (tokens e)) d) ∙ omega arith

-- the run over an expression's tokens stops at its first node past a limit, or goes on after it
pub exact : {s : Sort} (e : Expr s) → textual e ≡ true → (sp : ℕ → Span) (i d n : ℕ) (f : Feed) (gs : List Goal) → run (fed sp i (tokens e) f) (wanted (s ∷ []) d gs) n ≡ ended sp (first_over n (firsts e i d)) (run f gs (n + size e))
exact {s} e x sp i d n f gs =
    exact_upto (size e) s e (omega arith) x sp i d n f gs
    ∙ walk_ended sp n (firsts e i d) (run f gs)
    ∙ ap (λ c. ended sp (first_over n (firsts e i d)) (run f gs (n + c))) (length_firsts e i d)

-- when no node is past a limit
roomy : (d n : ℕ) → room d n ≡ true → (0 < d) × (n < 640)
roomy d n x = let p = and_parts (ltb 0 d) (ltb n 640) x in (ltb-true 0 d p.0, ltb-true n 640 p.1)

has_room : (d n : ℕ) → 0 < d → n < 640 → room d n ≡ true
has_room d n x y = and_from (ltb 0 d) (ltb n 640) (lt-ltb 0 d x) (lt-ltb n 640 y)

cond_none : (b : Bool) (o : Option ℕ) (j : ℕ) → cond b o (some j) ≡ O.none → (b ≡ true) × (o ≡ O.none)
cond_none true o j e = (refl, e)
cond_none false o j e = cc

none_append : (n : ℕ) (ps qs : List (ℕ × ℕ)) → first_over n ps ≡ O.none → first_over (n + length ps) qs ≡ O.none → first_over n (ps ++ qs) ≡ O.none
none_append n [] qs x y = ap (λ m. first_over m qs) (omega arith) ∙ y
none_append n (p ∷ ps) qs x y =
    let c = cond_none (room p.1 n) (first_over (n + 1) ps) p.0 x in
    cond-true (room p.1 n) _ _ c.0 ∙ none_append (n + 1) ps qs c.1 (ap (λ m. first_over m qs) (omega arith) ∙ y)

append_none : (n : ℕ) (ps qs : List (ℕ × ℕ)) → first_over n (ps ++ qs) ≡ O.none → (first_over n ps ≡ O.none) × (first_over (n + length ps) qs ≡ O.none)
append_none n [] qs x = (refl, ap (λ m. first_over m qs) (omega arith) ∙ x)
append_none n (p ∷ ps) qs x =
    let c = cond_none (room p.1 n) (first_over (n + 1) (ps ++ qs)) p.0 x in
    let r = append_none (n + 1) ps qs c.1 in
    (cond-true (room p.1 n) _ _ c.0 ∙ r.0, ap (λ m. first_over m qs) (omega arith) ∙ r.1)

mutual
  unfolding size sizes depth depths firsts firsts_in

  fits : {s : Sort} (e : Expr s) (n i d : ℕ) → n + size e ≤ 640 → depth e ≤ d → first_over n (firsts e i d) ≡ O.none
  fits (node h es) n i d l x = cond-true (room d n) _ _ (has_room d n (omega arith) (omega arith)) ∙ fits_in es (n + 1) (i + length (opening h)) (d - 1) (omega arith) (omega arith)

  fits_in : {ss : List Sort} (es : Exprs ss) (n i d : ℕ) → n + sizes es ≤ 640 → depths es ≤ d → first_over n (firsts_in es i d) ≡ O.none
  fits_in none n i d l x = refl
  fits_in (more e es) n i d l x =
      let j = i + length (tokens e) in
      none_append n (firsts e i d) (firsts_in es j d) (fits e n i d (omega arith) (omega arith)) (ap (λ c. first_over (n + c) (firsts_in es j d)) (length_firsts e i d) ∙ fits_in es (n + size e) j d (omega arith) (omega arith))

mutual
  unfolding size sizes depth depths firsts firsts_in

  bounded : {s : Sort} (e : Expr s) (n i d : ℕ) → first_over n (firsts e i d) ≡ O.none → (n + size e ≤ 640) × (depth e ≤ d)
  bounded (node h es) n i d q =
      let j = i + length (opening h) in
      let c = cond_none (room d n) (first_over (n + 1) (firsts_in es j (d - 1))) i q in
      let r = roomy d n c.0 in
      let b = bounded_in es (n + 1) j (d - 1) (omega arith) c.1 in
      (omega arith, omega arith)

  bounded_in : {ss : List Sort} (es : Exprs ss) (n i d : ℕ) → n ≤ 640 → first_over n (firsts_in es i d) ≡ O.none → (n + sizes es ≤ 640) × (depths es ≤ d)
  bounded_in none n i d l q = (omega arith, omega arith)
  bounded_in (more e es) n i d l q =
      let j = i + length (tokens e) in
      let a = append_none n (firsts e i d) (firsts_in es j d) q in
      let b = bounded e n i d a.0 in
      let c = bounded_in es (n + size e) j d (omega arith) (ap (λ k. first_over (n + k) (firsts_in es j d)) (sym (length_firsts e i d)) ∙ a.1) in
      (omega arith, omega arith)

-- a feed's spans by their places
spans : Feed → ℕ → Span
spans (token t s f) zero = s
spans (token t s f) (suc j) = spans f j
spans (bad s) j = s
spans (end b) j = record { at = b; len = 0 }

as_fed : (f : Feed) (sp : ℕ → Span) (i : ℕ) → ((j : ℕ) → sp (i + j) ≡ spans f j) → Clean f → (b : ℕ) × (f ≡ fed sp i (said f) (end b))
unfolding spans
as_fed (token t s f) sp i h c =
    let r = as_fed f sp (suc i) (λ j. ap sp (omega arith) ∙ h (suc j)) c in
    let here : s ≡ sp i = sym (h 0) ∙ ap sp (omega arith) in
    (r.0, (λ k. token t (here k) (r.1 k)))
as_fed (bad s) sp i h c = absurd c
as_fed (end b) sp i h c = (b, refl)

-- the outcome of a whole program's text
outcome : (e : Solid) (f : Feed) → textual e ≡ true → said f ≡ tokens e → Clean f → judged f ≡ ended (spans f) (first_over 0 (firsts e 0 most_levels)) (whole (size e))
outcome e f x q c =
    let a = as_fed f (spans f) 0 (λ j. ap (spans f) (omega arith)) c in
    let o = first_over 0 (firsts e 0 most_levels) in
    ap judged (a.1 ∙ ap (λ us. fed (spans f) 0 us (end a.0)) q)
    ∙ exact e x (spans f) 0 most_levels 0 (end a.0) []
    ∙ ap (λ n. ended (spans f) o (whole n)) (omega arith)

pub reads_back : ReadsBack
reads_back e f x l d q c = outcome e f x q c ∙ ap (λ o. ended (spans f) o (whole (size e))) (fits e 0 0 most_levels (omega arith) d)

ended_whole : (sp : ℕ → Span) (o : Option ℕ) (k n : ℕ) → ended sp o (whole k) ≡ whole n → (o ≡ O.none) × (n ≡ k)
ended_whole sp O.none k n q = (refl, cc)
ended_whole sp (some j) k n q = cc

pub within : Within
within f n e p q =
    let w = whole_reading f n p in
    let x = w.0 in
    let o = ended_whole (spans f) (first_over 0 (firsts x 0 most_levels)) (size x) n (sym (outcome x f w.1 w.2 w.3) ∙ p) in
    let b = bounded x 0 0 most_levels o.0 in
    subst (λ y. (n ≡ size y) × (size y ≤ 640) × (depth y ≤ most_levels)) (one_reading x e (sym w.2 ∙ q)) (o.1, omega arith, b.1)
