-- What each way through the reader has read. Assumes nothing.
use Rattle.std.proofs.Common.{◌≡◌, ℕ, ◌+◌, true, false, List, [], ◌∷◌, ◌++◌, length, set, replicate, sym, refl, ap, ◌∙◌, subst, append_assoc, append-nil, add-one, arith}
use Rattle.std.proofs.lemmas.List.{set_at}
use Rattle.model.specs.declared.node.Node.{Node}
use Rattle.model.specs.declared.node.Node.TheVariants as v
use Rattle.model.specs.declared.word.Mark.TheVariants.{Open, Close, Left, Right, Comma}
use Rattle.model.specs.Syntax.{Kind, solid, vector, Sort, one, many, Head, arity, Exprs, node, none, more}
use Rattle.model.specs.Syntax as S
use Rattle.model.specs.Nodes.{node_of, flatten, flattens}
use Rattle.model.specs.Tokens.{Token, word, number, mark, opening, closing, tokens, row}
use Rattle.model.specs.Grammar.{Goal, element, elements, move}
use Rattle.text.specs.Reading.{Read, closes}

clash : {A : Type 0} → ◌≡◌ {A = ℕ} 0 1 → A
clash z = absurd (omega arith)

-- nothing more was read
pub none_read : {ts t1 : List Token} {old : List Node} → ts ≡ t1 → Read [] ts t1 old old
unfolding row flattens
none_read {old = old} q = record { which = none; text = q; made = sym (append-nil old) }

-- tokens known by another name
pub also_read : {ss : List Sort} {ts t1 t2 : List Token} {old o1 : List Node} → ts ≡ t1 → Read ss t1 t2 old o1 → Read ss ts t2 old o1
also_read q x = record { which = x.which; text = q ∙ x.text; made = x.made }

-- one expression, and those after it
pub one_read : {s : Sort} {ss : List Sort} {ts t1 t2 : List Token} {old o1 o2 : List Node} → Read (s ∷ []) ts t1 old o1 → Read ss t1 t2 o1 o2 → Read (s ∷ ss) ts t2 old o2
unfolding row flattens
one_read x y = first x x.which refl y
  where
    first : {s : Sort} {ss : List Sort} {ts t1 t2 : List Token} {old o1 o2 : List Node} → (x : Read (s ∷ []) ts t1 old o1) (es : Exprs (s ∷ [])) → x.which ≡ es → Read ss t1 t2 o1 o2 → Read (s ∷ ss) ts t2 old o2
    first {t1 = t1} {old = old} x (more e none) q y = record {
      which = more e y.which;
      text = x.text ∙ ap (λ es. row es ++ t1) q ∙ ap (λ l. (tokens e ++ []) ++ l) y.text ∙ simp (append-nil, append_assoc);
      made = y.made ∙ ap (λ l. l ++ flattens y.which) (x.made ∙ ap (λ es. old ++ flattens es) q) ∙ simp (append-nil, append_assoc);
    }

-- a head, its parts and its closing bracket
pub node_read : {s : Sort} (h : Head s) {ts t1 t2 t3 : List Token} {old o1 o2 : List Node} → ts ≡ opening h ++ t1 → o1 ≡ old ++ (node_of h ∷ []) → Read (arity h) t1 t2 o1 o2 → t2 ≡ closing h ++ t3 → Read (s ∷ []) ts t3 old o2
unfolding tokens row flatten flattens
node_read h {t3 = t3} {old = old} a m x c = record {
  which = more (node h x.which) none;
  text = a ∙ ap (λ l. opening h ++ l) (x.text ∙ ap (λ l. row x.which ++ l) c) ∙ simp (append-nil, append_assoc);
  made = x.made ∙ ap (λ l. l ++ flattens x.which) m ∙ simp (append-nil, append_assoc);
}

-- one more element, and n after it
pub more_read : {s : Sort} {ts t1 t2 : List Token} {old o1 o2 : List Node} (n : ℕ) → Read (s ∷ []) ts t1 old o1 → Read (replicate n s) t1 t2 o1 o2 → Read (replicate (n + 1) s) ts t2 old o2
more_read {s} {ts} {t1} {t2} {old} {o1} {o2} n x y = let P : ℕ → Type 0 = λ m. Read (replicate m s) ts t2 old o2 in subst P (sym (add-one n)) (one_read x y)

-- a list whose count is put in once its elements are read
pub listed_read : {k : Kind} {ts t1 t2 : List Token} {old o1 o2 o3 : List Node} (n i : ℕ) → length old ≡ i → ts ≡ opening (S.list {k = k} n) ++ t1 → o1 ≡ old ++ (v.List 0 ∷ [])
    → Read (replicate n (one k)) t1 (mark Close ∷ t2) o1 o2 → o3 ≡ set o2 i (v.List n) → Read (many k ∷ []) ts t2 old o3
unfolding tokens row flatten flattens
listed_read {k} {t2 = t2} {old = old} n i long a m x s = record {
  which = more (node (S.list n) x.which) none;
  text = a ∙ ap (λ l. opening (S.list {k = k} n) ++ l) x.text ∙ simp (append-nil, append_assoc);
  made = s ∙ ap (λ l. set l i (v.List n)) (x.made ∙ ap (λ l. l ++ flattens x.which) m ∙ append_assoc old (v.List 0 ∷ []) (flattens x.which)) ∙ set_at old (v.List 0) (flattens x.which) (v.List n) i long ∙ simp append-nil;
}

-- a token that does not close the list begins its next element
pub one_more : (k : Kind) (d : ℕ) (gs : List Goal) (t : Token) → closes t ≡ false → move (elements k d) gs t ≡ move (element k d) (elements k d ∷ gs) t
one_more k d gs (word x) q = refl
one_more solid d gs (number a c) q = refl
one_more vector d gs (number a c) q = refl
one_more k d gs (mark Open) q = refl
one_more k d gs (mark Close) q = clash (cc)
one_more k d gs (mark Left) q = refl
one_more k d gs (mark Right) q = refl
one_more k d gs (mark Comma) q = refl

pub closing_mark : (t : Token) → closes t ≡ true → t ≡ mark Close
closing_mark (word x) q = clash (cc)
closing_mark (number a c) q = clash (cc)
closing_mark (mark Open) q = clash (cc)
closing_mark (mark Close) q = refl
closing_mark (mark Left) q = clash (cc)
closing_mark (mark Right) q = clash (cc)
closing_mark (mark Comma) q = clash (cc)
