-- Two ways to take solids that are related at the four forms are related at every program. Assumes nothing.
use Rattle.std.proofs.Common.{◌≡◌, ℕ, zero, suc, List, [], ◌∷◌, ◌++◌, map, length, get_or, replicate, ℤ, refl, ap, ◌∙◌, subst, ap₂}
use Rattle.std.specs.List.{AllZip}
use Rattle.model.specs.declared.node.Placement.{Placement}
use Rattle.model.specs.declared.node.Operator.{Operator}
use Rattle.model.specs.declared.node.Operator.TheVariants.{Union}
use Rattle.model.specs.declared.node.Triple.{Triple}
use Rattle.model.specs.Syntax.{Kind, solid, vector, Sort, one, many, num, Head, arity, empty, prim, place, join, fold, vec, list, repeat, tab, concat, sort, unsort, map2, number, Expr, Exprs, node, none, more, Solid}
use Rattle.model.specs.Placements.{at}
use Rattle.model.specs.Shapes.{Shape, Val, Den, Dens, row, order, past, run, runs, made_of, union_of, from, zip_with, sorted, unsorted, idle, place_of, natural}

-- R holds at the four forms
pub record Relates {X Y : Type 0} (H : Shape X) (K : Shape Y) (R : X → Y → Type 0) : Type 0 where
  pub on_empty : R H.empty K.empty
  pub on_prim : (k : ℤ) (q : Triple) → R (H.prim k q) (K.prim k q)
  pub on_place : (t : Placement) (v : Triple) (x : X) (y : Y) → R x y → R (H.place t v x) (K.place t v y)
  pub on_join : (o : Operator) (x x' : X) (y y' : Y) → R x y → R x' y' → R (H.join o x x') (K.join o y y')

module _ {A B : Type 0} (P : A → B → Type 0) where
  each_join : (as' : List A) (bs : List B) (cs : List A) (ds : List B) → AllZip P as' bs → AllZip P cs ds → AllZip P (as' ++ cs) (bs ++ ds)
  each_join [] [] cs ds p q = q
  each_join (a ∷ as') (b ∷ bs) cs ds p q = (p.0, each_join as' bs cs ds p.1 q)
  each_join _ _ cs ds p q = absurd p

  each_replicate : (n : ℕ) (a : A) (b : B) → P a b → AllZip P (replicate n a) (replicate n b)
  each_replicate zero a b p = tt
  each_replicate (suc n) a b p = (p, each_replicate n a b p)

  each_from : (f : ℕ → A) (g : ℕ → B) → ((j : ℕ) → P (f j) (g j)) → (i n : ℕ) → AllZip P (from f i n) (from g i n)
  each_from f g p i zero = tt
  each_from f g p i (suc n) = (p i, each_from f g p (suc i) n)

  each_map : (f : ℕ → A) (g : ℕ → B) → ((j : ℕ) → P (f j) (g j)) → (l : List ℕ) → AllZip P (map f l) (map g l)
  each_map f g p [] = tt
  each_map f g p (j ∷ l) = (p j, each_map f g p l)

  each_at : (as' : List A) (bs : List B) (a : A) (b : B) → AllZip P as' bs → P a b → (j : ℕ) → P (get_or as' j a) (get_or bs j b)
  each_at [] [] a b p q j = q
  each_at (x ∷ as') (y ∷ bs) a b p q zero = p.0
  each_at (x ∷ as') (y ∷ bs) a b p q (suc j) = each_at as' bs a b p.1 q j
  each_at _ _ a b p q j = absurd p

module _ {X Y : Type 0} (H : Shape X) (K : Shape Y) (R : X → Y → Type 0) (c : Relates H K R) where
  -- vectors are the same
  abbrev ValR : (k : Kind) → Val X k → Val Y k → Type 0
  ValR solid x y = R x y
  ValR vector v w = v ≡ w

  abbrev DenR : (s : Sort) → Den X s → Den Y s → Type 0
  DenR (one k) d e = ValR k d e
  DenR (many k) d e = AllZip (ValR k) d e
  DenR num d e = d ≡ e

  abbrev DensR : (ss : List Sort) → Dens X ss → Dens Y ss → Type 0
  DensR [] d e = Unit {0}
  DensR (s ∷ ss) d e = DenR s d.0 e.0 × DensR ss d.1 e.1

  row_r : (k : Kind) (n : ℕ) (d : Dens X (replicate n (one k))) (e : Dens Y (replicate n (one k))) → DensR (replicate n (one k)) d e → AllZip (ValR k) (row X k n d) (row Y k n e)
  row_r k zero d e p = tt
  row_r k (suc n) d e p = (p.0, row_r k n d.1 e.1 p.1)

  order_r : (ss : List Sort) (n : ℕ) (d : Dens X (replicate n num ++ ss)) (e : Dens Y (replicate n num ++ ss)) → DensR (replicate n num ++ ss) d e → order X ss n d ≡ order Y ss n e
  order_r ss zero d e p = refl
  order_r ss (suc n) d e p = ap₂ ◌∷◌ p.0 (order_r ss n d.1 e.1 p.1)

  past_r : (ss : List Sort) (n : ℕ) (d : Dens X (replicate n num ++ ss)) (e : Dens Y (replicate n num ++ ss)) → DensR (replicate n num ++ ss) d e → DensR ss (past X ss n d) (past Y ss n e)
  past_r ss zero d e p = p
  past_r ss (suc n) d e p = past_r ss n d.1 e.1 p.1

  idle_r : (k : Kind) → ValR k (idle H k) (idle K k)
  idle_r solid = c.on_empty
  idle_r vector = refl

  sorted_r : (k : Kind) (p q : List ℕ) (l : List (Val X k)) (m : List (Val Y k)) → p ≡ q → AllZip (ValR k) l m → AllZip (ValR k) (sorted (idle H k) p l) (sorted (idle K k) q m)
  sorted_r k p q l m e r = let P : List ℕ → Type 0 = λ o. AllZip (ValR k) (sorted (idle H k) p l) (sorted (idle K k) o m) in
      subst P e (each_map (ValR k) (λ j. get_or l j (idle H k)) (λ j. get_or m j (idle K k)) (each_at (ValR k) l m (idle H k) (idle K k) r (idle_r k)) p)

  unsorted_r : (k : Kind) (p q : List ℕ) (l : List (Val X k)) (m : List (Val Y k)) → p ≡ q → AllZip (ValR k) l m → AllZip (ValR k) (unsorted (idle H k) p l) (unsorted (idle K k) q m)
  unsorted_r k p q l m e r = let P : List ℕ → Type 0 = λ o. AllZip (ValR k) (unsorted (idle H k) p l) (unsorted (idle K k) o m) in
      subst P e (each_from (ValR k) (λ j. get_or l (place_of j p) (idle H k)) (λ j. get_or m (place_of j p) (idle K k)) (λ j. each_at (ValR k) l m (idle H k) (idle K k) r (idle_r k) (place_of j p)) 0 (length p))

  union_r : (l : List X) (m : List Y) → AllZip R l m → R (union_of H l) (union_of K m)
  union_r [] [] p = c.on_empty
  union_r [] (y ∷ m) p = absurd p
  union_r (x ∷ l) [] p = absurd p
  union_r (x ∷ []) (y ∷ []) p = p.0
  union_r (x ∷ []) (y ∷ y' ∷ m) p = absurd p.1
  union_r (x ∷ x' ∷ l) (y ∷ []) p = absurd p.1
  union_r (x ∷ x' ∷ l) (y ∷ y' ∷ m) p = c.on_join Union x (union_of H (x' ∷ l)) y (union_of K (y' ∷ m)) p.0 (union_r (x' ∷ l) (y' ∷ m) p.1)

  zip_r : (t : Placement) (vs ws : List Triple) (l : List X) (m : List Y) → AllZip (λ v w. v ≡ w) vs ws → AllZip R l m → AllZip R (zip_with (H.place t) vs l) (zip_with (K.place t) ws m)
  zip_r t [] [] l m p q = tt
  zip_r t (v ∷ vs) (w ∷ ws) [] [] p q = tt
  zip_r t (v ∷ vs) (w ∷ ws) (x ∷ l) (y ∷ m) p q =
      let P : Triple → Type 0 = λ u. R (H.place t v x) (K.place t u y) in
      (subst P p.0 (c.on_place t v x y q.0), zip_r t vs ws l m p.1 q.1)
  zip_r t (v ∷ vs) (w ∷ ws) _ _ p q = absurd q
  zip_r t _ _ l m p q = absurd p

  head_r : {s : Sort} (h : Head s) (d : ℕ → Dens X (arity h)) (e : ℕ → Dens Y (arity h)) → ((j : ℕ) → DensR (arity h) (d j) (e j)) → (i : ℕ) → DenR s (made_of H h d i) (made_of K h e i)
  head_r empty d e p i = c.on_empty
  head_r (prim k v) d e p i = c.on_prim k (at i v)
  head_r (place t v) d e p i = c.on_place t (at i v) (d i).0 (e i).0 (p i).0
  head_r (join o) d e p i = c.on_join o (d i).0 (d i).1.0 (e i).0 (e i).1.0 (p i).0 (p i).1.0
  head_r fold d e p i = union_r (d i).0 (e i).0 (p i).0
  head_r (vec v) d e p i = refl
  head_r (list {k} n) d e p i = row_r k n (d i) (e i) (p i)
  head_r (repeat {k} n) d e p i = each_replicate (ValR k) (natural n) (d i).0 (e i).0 (p i).0
  head_r (tab {k} n) d e p i = each_from (ValR k) (λ j. (d j).0) (λ j. (e j).0) (λ j. (p j).0) 0 (natural n)
  head_r (concat {k}) d e p i = each_join (ValR k) (d i).0 (e i).0 (d i).1.0 (e i).1.0 (p i).0 (p i).1.0
  head_r (sort {k} n) d e p i =
      sorted_r k (order X (many k ∷ []) n (d i)) (order Y (many k ∷ []) n (e i)) (past X (many k ∷ []) n (d i)).0 (past Y (many k ∷ []) n (e i)).0
      (order_r (many k ∷ []) n (d i) (e i) (p i)) (past_r (many k ∷ []) n (d i) (e i) (p i)).0
  head_r (unsort {k} n) d e p i =
      unsorted_r k (order X (many k ∷ []) n (d i)) (order Y (many k ∷ []) n (e i)) (past X (many k ∷ []) n (d i)).0 (past Y (many k ∷ []) n (e i)).0
      (order_r (many k ∷ []) n (d i) (e i) (p i)) (past_r (many k ∷ []) n (d i) (e i) (p i)).0
  head_r (map2 t) d e p i = zip_r t (d i).0 (e i).0 (d i).1.0 (e i).1.0 (p i).0 (p i).1.0
  head_r (number j) d e p i = refl

  mutual
    unfolding run runs

    run_r : {s : Sort} (e : Expr s) (i : ℕ) → DenR s (run H e i) (run K e i)
    run_r (node h es) i = head_r h (λ j. runs H es j) (λ j. runs K es j) (λ j. runs_r es j) i

    runs_r : {ss : List Sort} (es : Exprs ss) (i : ℕ) → DensR ss (runs H es i) (runs K es i)
    runs_r none i = tt
    runs_r (more e es) i = (run_r e i, runs_r es i)

  pub related : (e : Solid) (i : ℕ) → R (run H e i) (run K e i)
  related e i = run_r e i

-- f turns one way to take solids into another
pub record Keeps {X Y : Type 0} (H : Shape X) (K : Shape Y) (f : X → Y) : Type 0 where
  pub on_empty : f H.empty ≡ K.empty
  pub on_prim : (k : ℤ) (q : Triple) → f (H.prim k q) ≡ K.prim k q
  pub on_place : (t : Placement) (v : Triple) (x : X) → f (H.place t v x) ≡ K.place t v (f x)
  pub on_join : (o : Operator) (x y : X) → f (H.join o x y) ≡ K.join o (f x) (f y)

pub keeps_run : {X Y : Type 0} (H : Shape X) (K : Shape Y) (f : X → Y) → Keeps H K f → (e : Solid) (i : ℕ) → f (run H e i) ≡ run K e i
keeps_run H K f k = related H K (λ x y. f x ≡ y) (record {
  on_empty = k.on_empty;
  on_prim = k.on_prim;
  on_place = λ t v x y p. k.on_place t v x ∙ ap (K.place t v) p;
  on_join = λ o x x' y y' p q. k.on_join o x x' ∙ ap₂ (K.join o) p q;
})
