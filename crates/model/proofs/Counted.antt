-- A list has as many elements as it is counted to have, however solids are taken. Assumes nothing.
use Rattle.std.proofs.Common.{◌≡◌, ℕ, zero, suc, ◌+◌, min, List, [], ◌∷◌, ◌++◌, length, get_or, replicate, refl, ap, ◌∙◌, ap₂, length-append}
use lib.ListN.{length-map, length-replicate}
use Rattle.model.specs.declared.node.Placement.{Placement}
use Rattle.model.specs.Syntax.{Kind, solid, vector, Sort, one, many, num, Head, arity, list, repeat, tab, concat, sort, unsort, map2, Expr, Exprs, node, none, more}
use Rattle.model.specs.Nodes.{node_of}
use Rattle.model.specs.Shapes.{Shape, Den, Dens, row, order, past, run, runs, made_of, zip_with, idle, place_of, natural}
use Rattle.model.specs.Counts.{elements, count, counts}
use Rattle.model.proofs.Sequences.{length_from, length_zip}

length_row : (X : Type 0) (k : Kind) (n : ℕ) (d : Dens X (replicate n (one k))) → length (row X k n d) ≡ n
length_row X k zero d = refl
length_row X k (suc n) d = ap suc (length_row X k n d.1)

length_order : (X : Type 0) (ss : List Sort) (n : ℕ) (d : Dens X (replicate n num ++ ss)) → length (order X ss n d) ≡ n
length_order X ss zero d = refl
length_order X ss (suc n) d = ap suc (length_order X ss n d.1)

-- a list has c elements
abbrev Long : (X : Type 0) (s : Sort) → Den X s → ℕ → Type 0
Long X (one k) d c = Unit {0}
Long X (many k) d c = length d ≡ c
Long X num d c = Unit {0}

abbrev Longs : (X : Type 0) (ss : List Sort) → Dens X ss → List ℕ → Type 0
Longs X [] d cs = Unit {0}
Longs X (s ∷ ss) d [] = ⊥
Longs X (s ∷ ss) d (c ∷ cs) = Long X s d.0 c × Longs X ss d.1 cs

module _ {X : Type 0} (H : Shape X) where
  joined : (k : Kind) (d : Dens X (many k ∷ many k ∷ [])) (cs : List ℕ) → Longs X (many k ∷ many k ∷ []) d cs → length (d.0 ++ d.1.0) ≡ get_or cs 0 0 + get_or cs 1 0
  joined k d [] p = absurd p
  joined k d (a ∷ []) p = absurd p.1
  joined k d (a ∷ b ∷ cs) p = length-append d.0 d.1.0 ∙ ap₂ ◌+◌ p.0 p.1.0

  paired : (t : Placement) (d : Dens X (many vector ∷ many solid ∷ [])) (cs : List ℕ) → Longs X (many vector ∷ many solid ∷ []) d cs → length (zip_with (H.place t) d.0 d.1.0) ≡ min (get_or cs 0 0) (get_or cs 1 0)
  paired t d [] p = absurd p
  paired t d (a ∷ []) p = absurd p.1
  paired t d (a ∷ b ∷ cs) p = length_zip (H.place t) d.0 d.1.0 ∙ ap₂ min p.0 p.1.0

  head_long : {s : Sort} (h : Head s) (d : ℕ → Dens X (arity h)) (i : ℕ) (cs : List ℕ) → Longs X (arity h) (d i) cs → Long X s (made_of H h d i) (elements (node_of h) cs)
  head_long (list {k} n) d i cs p = length_row X k n (d i)
  head_long (repeat n) d i cs p = length-replicate (natural n) (d i).0
  head_long (tab n) d i cs p = length_from (λ j. (d j).0) 0 (natural n)
  head_long (concat {k}) d i cs p = joined k (d i) cs p
  head_long (sort {k} n) d i cs p = length-map (order X (many k ∷ []) n (d i)) (λ j. get_or (past X (many k ∷ []) n (d i)).0 j (idle H k)) ∙ length_order X (many k ∷ []) n (d i)
  head_long (unsort {k} n) d i cs p =
      length_from (λ j. get_or (past X (many k ∷ []) n (d i)).0 (place_of j (order X (many k ∷ []) n (d i))) (idle H k)) 0 (length (order X (many k ∷ []) n (d i)))
      ∙ length_order X (many k ∷ []) n (d i)
  head_long (map2 t) d i cs p = paired t (d i) cs p
  head_long _ d i cs p = tt

  mutual
    unfolding run runs count counts

    long_run : {s : Sort} (e : Expr s) (i : ℕ) → Long X s (run H e i) (count e)
    long_run (node h es) i = head_long h (λ j. runs H es j) i (counts es) (long_runs es i)

    long_runs : {ss : List Sort} (es : Exprs ss) (i : ℕ) → Longs X ss (runs H es i) (counts es)
    long_runs none i = tt
    long_runs (more e es) i = (long_run e i, long_runs es i)

  pub length_run : {k : Kind} (l : Expr (many k)) (i : ℕ) → length (run H l i) ≡ count l
  length_run l i = long_run l i
