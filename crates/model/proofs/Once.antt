-- Programs with equal tokens are equal. Assumes nothing.
use Rattle.std.proofs.Common.{◌≡◌, ℕ, zero, suc, ◌≤◌, List, [], ◌∷◌, ◌++◌, replicate, sym, refl, ap, ◌∙◌, ap₂, append_assoc, append-nil, arith}
use mathlib.Core.Path.{path_j}
use Rattle.std.proofs.lemmas.List.{append_cancel_left}
use Rattle.model.specs.declared.node.Placement.TheVariants as by
use Rattle.model.specs.declared.node.Operator.TheVariants as op
use Rattle.model.specs.declared.node.Linear.{Linear}
use Rattle.model.specs.declared.word.Mark.TheVariants.{Close}
use Rattle.model.specs.Syntax.{Kind, Sort, one, many, num, Head, arity, Expr, Exprs, node, none, more, size, sizes}
use Rattle.model.specs.Syntax as S
use Rattle.model.specs.Tokens.{Token, mark, bracket, opening, closing, tokens, row}
use Rattle.model.specs.Readings.{OneReading}

pub next : {t u : Token} {xs ys : List Token} → t ∷ xs ≡ u ∷ ys → xs ≡ ys
next e = cc

next₂ : {t u v x : Token} {xs ys : List Token} → t ∷ u ∷ xs ≡ v ∷ x ∷ ys → xs ≡ ys
next₂ e = cc

linear : (a a' : Linear) (x x' : List Token) → bracket a ++ x ≡ bracket a' ++ x' → (a ≡ a') × (x ≡ x')
linear a a' x x' q =
    let cx : a.constant.x ≡ a'.constant.x = cc in
    let cy : a.constant.y ≡ a'.constant.y = cc in
    let cz : a.constant.z ≡ a'.constant.z = cc in
    let sx : a.slope.x ≡ a'.slope.x = cc in
    let sy : a.slope.y ≡ a'.slope.y = cc in
    let sz : a.slope.z ≡ a'.slope.z = cc in
    ((λ i. record { constant = record { x = cx i; y = cy i; z = cz i }; slope = record { x = sx i; y = sy i; z = sz i } }), cc)

-- equal but for the number of parts, which an opening does not say
abbrev Alike : {s : Sort} → Head s → Head s → Type 0
Alike S.empty h = S.empty ≡ h
Alike (S.prim k a) h = S.prim k a ≡ h
Alike (S.place t a) h = S.place t a ≡ h
Alike (S.join o) h = S.join o ≡ h
Alike S.fold h = S.fold ≡ h
Alike (S.vec a) h = S.vec a ≡ h
Alike (S.list n) h = (m : ℕ) × (S.list m ≡ h)
Alike (S.repeat n) h = S.repeat n ≡ h
Alike (S.tab n) h = S.tab n ≡ h
Alike S.concat h = S.concat ≡ h
Alike (S.sort n) h = (m : ℕ) × (S.sort m ≡ h)
Alike (S.unsort n) h = (m : ℕ) × (S.unsort m ≡ h)
Alike (S.map2 t) h = S.map2 t ≡ h
Alike (S.number j) h = S.number j ≡ h

-- heads with equal openings are alike
alike : {s : Sort} (h h' : Head s) (x x' : List Token) → opening h ++ x ≡ opening h' ++ x' → Alike h h' × (x ≡ x')
alike S.empty S.empty x x' q = (refl, next q)
alike (S.prim k a) (S.prim k' a') x x' q = let v = linear a a' x x' (next (next₂ q)) in let p : k ≡ k' = cc in ((λ i. S.prim (p i) (v.0 i)), v.1)
alike (S.place by.Translate a) (S.place by.Translate a') x x' q = let v = linear a a' x x' (next₂ q) in (ap (S.place by.Translate) v.0, v.1)
alike (S.place by.Scale a) (S.place by.Scale a') x x' q = let v = linear a a' x x' (next₂ q) in (ap (S.place by.Scale) v.0, v.1)
alike (S.place by.Rotate a) (S.place by.Rotate a') x x' q = let v = linear a a' x x' (next₂ q) in (ap (S.place by.Rotate) v.0, v.1)
alike (S.join op.Union) (S.join op.Union) x x' q = (refl, next₂ q)
alike (S.join op.Diff) (S.join op.Diff) x x' q = (refl, next₂ q)
alike (S.join op.Inter) (S.join op.Inter) x x' q = (refl, next₂ q)
alike S.fold S.fold x x' q = (refl, next (next₂ q))
alike (S.vec a) (S.vec a') x x' q = let v = linear a a' x x' q in (ap S.vec v.0, v.1)
alike (S.list n) (S.list n') x x' q = ((n', refl), next₂ q)
alike (S.repeat n) (S.repeat n') x x' q = let p : n ≡ n' = cc in (ap S.repeat p, next (next₂ q))
alike (S.tab n) (S.tab n') x x' q = let p : n ≡ n' = cc in (ap S.tab p, next₂ (next₂ (next₂ q)))
alike S.concat S.concat x x' q = (refl, next₂ q)
alike (S.sort n) (S.sort n') x x' q = ((n', refl), next₂ q)
alike (S.unsort n) (S.unsort n') x x' q = ((n', refl), next₂ q)
alike (S.map2 by.Translate) (S.map2 by.Translate) x x' q = (refl, next (next₂ q))
alike (S.map2 by.Scale) (S.map2 by.Scale) x x' q = (refl, next (next₂ q))
alike (S.map2 by.Rotate) (S.map2 by.Rotate) x x' q = (refl, next (next₂ q))
alike (S.number j) (S.number j') x x' q = let p : j ≡ j' = cc in (ap S.number p, next q)
alike _ (S.place by.Translate a') x x' q = cc
alike _ (S.place by.Scale a') x x' q = cc
alike _ (S.place by.Rotate a') x x' q = cc
alike _ (S.join op.Union) x x' q = cc
alike _ (S.join op.Diff) x x' q = cc
alike _ (S.join op.Inter) x x' q = cc
alike _ (S.map2 by.Translate) x x' q = cc
alike _ (S.map2 by.Scale) x x' q = cc
alike _ (S.map2 by.Rotate) x x' q = cc
alike _ _ x x' q = cc

-- an element is no closing bracket, and a list is no number
not_close : {k : Kind} (e : Expr (one k)) (x y : List Token) → tokens e ++ x ≡ mark Close ∷ y → ⊥
unfolding tokens row
not_close (node S.empty es) x y q = cc
not_close (node _ es) x y q = cc

not_number : {k : Kind} (l : Expr (many k)) (e : Expr num) (x y : List Token) → tokens l ++ x ≡ tokens e ++ y → ⊥
unfolding tokens row
not_number (node (S.list n) es) (node (S.number j) fs) x y q = cc
not_number (node _ es) (node (S.number j) fs) x y q = cc

-- a node's tokens with what follows, bracketed to the right
pub spelled : {s : Sort} (h : Head s) (es : Exprs (arity h)) (r : List Token) → tokens (node h es) ++ r ≡ opening h ++ (row es ++ (closing h ++ r))
unfolding tokens row
spelled h es r = append_assoc (opening h) (row es ++ closing h) r ∙ ap (λ l. opening h ++ l) (append_assoc (row es) (closing h) r)

pub spelled_row : {s : Sort} {ss : List Sort} (e : Expr s) (es : Exprs ss) (r : List Token) → row (more e es) ++ r ≡ tokens e ++ (row es ++ r)
unfolding tokens row
spelled_row e es r = append_assoc (tokens e) (row es) r

pub fewer : {s : Sort} {ss : List Sort} (n : ℕ) (e : Expr s) (es : Exprs ss) → sizes (more e es) ≤ n → sizes es ≤ n
unfolding size sizes
fewer n e es l = omega arith

-- expressions of at most n nodes are told by their tokens
module _ (n : ℕ) (ih : (s : Sort) (e f : Expr s) (r r' : List Token) → size e ≤ n → tokens e ++ r ≡ tokens f ++ r' → (e ≡ f) × (r ≡ r')) where
  first_part : {s : Sort} {ss ss' : List Sort} (e f : Expr s) (es : Exprs ss) (fs : Exprs ss') (r r' : List Token) → sizes (more e es) ≤ n → row (more e es) ++ r ≡ row (more f fs) ++ r' → (e ≡ f) × (row es ++ r ≡ row fs ++ r')
  unfolding size sizes
  first_part {s = s} e f es fs r r' l q = ih s e f (row es ++ r) (row fs ++ r') (omega arith) (sym (spelled_row e es r) ∙ q ∙ spelled_row f fs r')

  parts : {ss : List Sort} (es fs : Exprs ss) (r r' : List Token) → sizes es ≤ n → row es ++ r ≡ row fs ++ r' → (es ≡ fs) × (r ≡ r')
  unfolding tokens row
  parts none none r r' l q = (refl, q)
  parts (more e es) (more f fs) r r' l q =
      let a = first_part e f es fs r r' l q in
      let b = parts es fs r r' (fewer n e es l) a.1 in
      (ap₂ more a.0 b.0, b.1)

  elements : (k : Kind) (m m' : ℕ) (es : Exprs (replicate m (one k))) (fs : Exprs (replicate m' (one k))) (r r' : List Token) → sizes es ≤ n → row es ++ (mark Close ∷ r) ≡ row fs ++ (mark Close ∷ r') → Path ((i : ℕ) × Exprs (replicate i (one k))) (m, es) (m', fs) × (r ≡ r')
  unfolding tokens row
  elements k zero zero none none r r' l q = (refl, next q)
  elements k zero (suc m') none (more f fs) r r' l q = absurd (not_close f _ _ (sym (spelled_row f fs (mark Close ∷ r')) ∙ sym q))
  elements k (suc m) zero (more e es) none r r' l q = absurd (not_close e _ _ (sym (spelled_row e es (mark Close ∷ r)) ∙ q))
  elements k (suc m) (suc m') (more e es) (more f fs) r r' l q =
      let a = first_part e f es fs (mark Close ∷ r) (mark Close ∷ r') l q in
      let b = elements k m m' es fs r r' (fewer n e es l) a.1 in
      ((λ i. (suc (b.0 i).0, more (a.0 i) (b.0 i).1)), b.1)

  orders : (k : Kind) (m m' : ℕ) (es : Exprs (replicate m num ++ (many k ∷ []))) (fs : Exprs (replicate m' num ++ (many k ∷ []))) (r r' : List Token) → sizes es ≤ n → row es ++ r ≡ row fs ++ r' → Path ((i : ℕ) × Exprs (replicate i num ++ (many k ∷ []))) (m, es) (m', fs) × (r ≡ r')
  orders k zero zero es fs r r' l q = let a = parts es fs r r' l q in ((λ i. (zero, a.0 i)), a.1)
  orders k zero (suc m') (more e es) (more f fs) r r' l q = absurd (not_number e f _ _ (sym (spelled_row e es r) ∙ q ∙ spelled_row f fs r'))
  orders k (suc m) zero (more e es) (more f fs) r r' l q = absurd (not_number f e _ _ (sym (spelled_row f fs r') ∙ sym q ∙ spelled_row e es r))
  orders k (suc m) (suc m') (more e es) (more f fs) r r' l q =
      let a = first_part e f es fs r r' l q in
      let b = orders k m m' es fs r r' (fewer n e es l) a.1 in
      ((λ i. (suc (b.0 i).0, more (a.0 i) (b.0 i).1)), b.1)

  -- parts that agree with those of another head
  abbrev Agree : {s : Sort} (h : Head s) → Exprs (arity h) → (r r' : List Token) (g : Head s) → Type 0
  Agree h es r r' g = (fs : Exprs (arity g)) → row es ++ (closing h ++ r) ≡ row fs ++ (closing g ++ r') → (node h es ≡ node g fs) × (r ≡ r')

  agree : {s : Sort} (h : Head s) (es : Exprs (arity h)) (r r' : List Token) → sizes es ≤ n → Agree h es r r' h
  agree h es r r' l fs q = let a = parts es fs (closing h ++ r) (closing h ++ r') l q in (ap (λ t. node h t) a.0, append_cancel_left (closing h) r r' a.1)

  along : {s : Sort} (h g g' : Head s) (es : Exprs (arity h)) (r r' : List Token) → g ≡ g' → Agree h es r r' g → Agree h es r r' g'
  along h g g' es r r' p a = path_j (λ f _. Agree h es r r' f) a p

  fixed : {s : Sort} (h h' : Head s) (es : Exprs (arity h)) (r r' : List Token) → h ≡ h' → sizes es ≤ n → Agree h es r r' h'
  fixed h h' es r r' a l = along h h h' es r r' a (agree h es r r' l)

  nodes : {s : Sort} (h h' : Head s) (es : Exprs (arity h)) (r r' : List Token) → Alike h h' → sizes es ≤ n → Agree h es r r' h'
  nodes (S.list {k} m) h' es r r' a l = along (S.list m) (S.list a.0) h' es r r' a.1 (λ fs q. let b = elements k m a.0 es fs r r' l q in ((λ i. node (S.list (b.0 i).0) (b.0 i).1), b.1))
  nodes (S.sort {k} m) h' es r r' a l = along (S.sort m) (S.sort a.0) h' es r r' a.1 (λ fs q. let b = orders k m a.0 es fs (mark Close ∷ r) (mark Close ∷ r') l q in ((λ i. node (S.sort (b.0 i).0) (b.0 i).1), next b.1))
  nodes (S.unsort {k} m) h' es r r' a l = along (S.unsort m) (S.unsort a.0) h' es r r' a.1 (λ fs q. let b = orders k m a.0 es fs (mark Close ∷ r) (mark Close ∷ r') l q in ((λ i. node (S.unsort (b.0 i).0) (b.0 i).1), next b.1))
  nodes h h' es r r' a l = fixed h h' es r r' a l

same_upto : (n : ℕ) (s : Sort) (e f : Expr s) (r r' : List Token) → size e ≤ n → tokens e ++ r ≡ tokens f ++ r' → (e ≡ f) × (r ≡ r')
unfolding size sizes
same_upto zero s (node h es) f r r' l q = absurd (omega arith)
same_upto (suc n) s (node h es) (node h' fs) r r' l q =
    let a = alike h h' (row es ++ (closing h ++ r)) (row fs ++ (closing h' ++ r')) (sym (spelled h es r) ∙ q ∙ spelled h' fs r') in
    nodes n (same_upto n) h h' es r r' a.0 (omega arith) fs a.1

-- equal tokens, with whatever follows, are those of one expression
pub same : {s : Sort} (e f : Expr s) (r r' : List Token) → tokens e ++ r ≡ tokens f ++ r' → (e ≡ f) × (r ≡ r')
same {s} e f r r' = same_upto (size e) s e f r r' (omega arith)

pub one_reading : OneReading
one_reading e f q = (same e f [] [] (append-nil (tokens e) ∙ q ∙ sym (append-nil (tokens f)))).0
