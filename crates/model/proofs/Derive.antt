-- Goals as the tokens that they stand for, and the token with which these begin. Assumes nothing.
use Rattle.std.proofs.Common.{◌≡◌, ℕ, zero, suc, true, List, [], ◌∷◌, ◌++◌, replicate, ℤ, sym, refl, ◌∙◌, subst}
use Rattle.std.proofs.lemmas.Bool.{and_parts}
use Rattle.model.specs.declared.node.Placement.{Placement}
use Rattle.model.specs.declared.node.Placement.TheVariants as by
use Rattle.model.specs.declared.node.Operator.{Operator}
use Rattle.model.specs.declared.node.Operator.TheVariants as op
use Rattle.model.specs.declared.node.Linear.{Linear}
use Rattle.model.specs.declared.word.Word.TheVariants as w
use Rattle.model.specs.declared.word.Mark.{Mark}
use Rattle.model.specs.declared.word.Mark.TheVariants.{Open, Close, Left}
use Rattle.model.specs.Syntax.{Kind, solid, vector, Sort, one, many, num, Head, arity, Expr, Exprs, node, none, more, Solid, textual, textuals, textual_head}
use Rattle.model.specs.Syntax as S
use Rattle.model.specs.Tokens.{Token, bracket, placement_word, operator_word, tokens, row}
use Rattle.model.specs.Tokens as T
use Rattle.model.specs.Grammar.{Goal, element, list, in_solid, in_list, elements, mark, union, index, placement, plain, entry, Move, stuck, on, entries, if_mark, at_placement, after_solid_word, at_element, move}
use Rattle.model.specs.Grammar as G
use Rattle.model.proofs.Once.{next, spelled, spelled_row}

-- the tokens from us up to vs are those of an expression that a text may have
abbrev pub Made : Sort → List Token → List Token → Type 0
Made s us vs = (e : Expr s) × (textual e ≡ true) × (us ≡ tokens e ++ vs)

-- the tokens from us up to vs are what a goal stands for
abbrev pub Gen : Goal → List Token → List Token → Type 0
Gen (element k d) us vs = Made (one k) us vs
Gen (list k d) us vs = Made (many k) us vs
Gen (in_solid d) us vs = Made (one solid) (T.mark Open ∷ us) vs
Gen (in_list k d) us vs = Made (many k) (T.mark Open ∷ us) vs
Gen (elements k d) us vs = (n : ℕ) × (es : Exprs (replicate n (one k))) × (textuals es ≡ true) × (us ≡ row es ++ (T.mark Close ∷ vs))
Gen (mark m) us vs = us ≡ T.mark m ∷ vs
Gen union us vs = us ≡ T.word w.Union ∷ vs
Gen index us vs = us ≡ T.word w.Index ∷ vs
Gen placement us vs = (t : Placement) × (us ≡ T.word (placement_word t) ∷ vs)
Gen plain us vs = (n : ℤ) × (us ≡ T.plain n ∷ vs)
Gen entry us vs = (a : ℤ) × (c : ℤ) × (us ≡ T.number a c ∷ vs)

-- all of us is what the goals stand for, in their order
abbrev pub GenAll : List Goal → List Token → Type 0
GenAll [] us = us ≡ []
GenAll (g ∷ gs) us = (vs : List Token) × Gen g us vs × GenAll gs vs

-- what may follow a token that made this move
abbrev pub After : Move → List Token → Type 0
After stuck us = ⊥
After (on gs) us = GenAll gs us
After (G.node d gs) us = GenAll gs us

-- the first token moves the goals on, and the rest is what they then stand for
abbrev pub Front : Goal → List Goal → List Token → Type 0
Front g gs us = (t : Token) × (vs : List Token) × (us ≡ t ∷ vs) × After (move g gs t) vs

-- the goals for parts with d levels left; a number of an order is no part in a text
abbrev pub wanted : List Sort → ℕ → List Goal → List Goal
wanted [] d gs = gs
wanted (one k ∷ ss) d gs = element k d ∷ wanted ss d gs
wanted (many k ∷ ss) d gs = list k d ∷ wanted ss d gs
wanted (num ∷ ss) d gs = wanted ss d gs

pub first_textual : {s : Sort} {ss : List Sort} (e : Expr s) (es : Exprs ss) → textuals (more e es) ≡ true → (textual e ≡ true) × (textuals es ≡ true)
unfolding textual textuals
first_textual e es x = and_parts (textual e) (textuals es) x

pub parts_textual : {s : Sort} (h : Head s) (es : Exprs (arity h)) → textual (node h es) ≡ true → (textual_head h ≡ true) × (textuals es ≡ true)
unfolding textual textuals
parts_textual h es x = and_parts (textual_head h) (textuals es) x

pub no_number : (e : Expr num) → textual e ≡ true → ⊥
unfolding textual textuals
no_number (node (S.number j) es) x = cc

parts_forth : (ss : List Sort) (es : Exprs ss) (d : ℕ) (gs : List Goal) (x : List Token) → textuals es ≡ true → GenAll gs x → GenAll (wanted ss d gs) (row es ++ x)
unfolding tokens row
parts_forth [] none d gs x t q = q
parts_forth (one k ∷ ss) (more e es) d gs x t q = let p = first_textual e es t in (row es ++ x, (e, p.0, spelled_row e es x), parts_forth ss es d gs x p.1 q)
parts_forth (many k ∷ ss) (more e es) d gs x t q = let p = first_textual e es t in (row es ++ x, (e, p.0, spelled_row e es x), parts_forth ss es d gs x p.1 q)
parts_forth (num ∷ ss) (more e es) d gs x t q = absurd (no_number e (first_textual e es t).0)

-- a bracket's goals
bracket_forth : (a : Linear) (gs : List Goal) (x : List Token) → GenAll gs x → GenAll (mark Left ∷ entries gs) (bracket a ++ x)
bracket_forth a gs x q = (_, refl, (_, (_, _, refl), (_, refl, (_, (_, _, refl), (_, refl, (_, (_, _, refl), (x, refl, q)))))))

element_forth : (k : Kind) (e : Expr (one k)) (d : ℕ) (gs : List Goal) (x : List Token) → textual e ≡ true → GenAll gs x → Front (element k d) gs (tokens e ++ x)
unfolding tokens row bracket_forth
element_forth solid (node S.empty none) d gs x t q = (T.word w.Empty, x, refl, q)
element_forth solid (node h es) d gs x t q = (T.mark Open, _, refl, (x, (node h es, t, refl), q))
element_forth vector (node (S.vec a) none) d gs x t q = (T.mark Left, _, refl, (bracket_forth a gs x q).2)

list_forth : (k : Kind) (l : Expr (many k)) (d : ℕ) (gs : List Goal) (x : List Token) → textual l ≡ true → GenAll gs x → Front (list k d) gs (tokens l ++ x)
unfolding tokens row
list_forth k (node (S.list n) es) d gs x t q = (T.mark Open, _, refl, (x, (node (S.list n) es, t, refl), q))
list_forth k (node h es) d gs x t q = (T.mark Open, _, refl, (x, (node h es, t, refl), q))

-- a placement's and an operator's goals
abbrev pub placing : ℕ → List Goal → List Goal
placing d gs = mark Left ∷ entries (element solid d ∷ mark Close ∷ gs)

pub placing_word : (t : Placement) (d : ℕ) (gs : List Goal) → after_solid_word d gs (placement_word t) ≡ on (placing d gs)
placing_word by.Translate d gs = refl
placing_word _ d gs = refl

pub joining_word : (o : Operator) (d : ℕ) (gs : List Goal) → after_solid_word d gs (operator_word o) ≡ on (element solid d ∷ element solid d ∷ mark Close ∷ gs)
joining_word op.Union d gs = refl
joining_word _ d gs = refl

pub map2_word : (t : Placement) (gs : List Goal) → at_placement (placement_word t) gs ≡ on gs
map2_word by.Translate gs = refl
map2_word _ gs = refl

-- a node's parts, with the bracket that closes it
shut : {s : Sort} (h : Head s) (es : Exprs (arity h)) (d : ℕ) (gs : List Goal) (x : List Token) → textual (node h es) ≡ true → GenAll gs x → GenAll (wanted (arity h) d (mark Close ∷ gs)) (row es ++ (T.mark Close ∷ x))
shut h es d gs x t q = parts_forth (arity h) es d (mark Close ∷ gs) (T.mark Close ∷ x) (parts_textual h es t).1 (x, refl, q)

in_solid_forth : (e : Solid) (d : ℕ) (gs : List Goal) (us x : List Token) → textual e ≡ true → T.mark Open ∷ us ≡ tokens e ++ x → GenAll gs x → Front (in_solid d) gs us
unfolding tokens row
in_solid_forth (node S.empty es) d gs us x t e q = cc
in_solid_forth (node (S.prim k a) none) d gs us x t e q = (T.word w.Prim, _, next e, (_, (k, refl), bracket_forth a (mark Close ∷ gs) (T.mark Close ∷ x) (x, refl, q)))
in_solid_forth (node (S.place c a) es) d gs us x t e q = (T.word (placement_word c), _, next (e ∙ spelled (S.place c a) es x), subst (λ m. After m (bracket a ++ (row es ++ (T.mark Close ∷ x)))) (sym (placing_word c d gs)) (bracket_forth a (element solid d ∷ mark Close ∷ gs) (row es ++ (T.mark Close ∷ x)) (shut (S.place c a) es d gs x t q)))
in_solid_forth (node (S.join o) es) d gs us x t e q = (T.word (operator_word o), _, next (e ∙ spelled (S.join o) es x), subst (λ m. After m (row es ++ (T.mark Close ∷ x))) (sym (joining_word o d gs)) (shut (S.join o) es d gs x t q))
in_solid_forth (node S.fold es) d gs us x t e q = (T.word w.Fold, _, next (e ∙ spelled S.fold es x), (_, refl, shut S.fold es d gs x t q))

in_list_forth : (k : Kind) (l : Expr (many k)) (d : ℕ) (gs : List Goal) (us x : List Token) → textual l ≡ true → T.mark Open ∷ us ≡ tokens l ++ x → GenAll gs x → Front (in_list k d) gs us
unfolding tokens row textual textuals
in_list_forth k (node (S.list n) es) d gs us x t e q = (T.word w.List, _, next (e ∙ spelled (S.list n) es x), (x, (n, es, (parts_textual (S.list n) es t).1, refl), q))
in_list_forth k (node (S.repeat n) es) d gs us x t e q = (T.word w.Repeat, _, next (e ∙ spelled (S.repeat n) es x), (_, (n, refl), shut (S.repeat n) es d gs x t q))
in_list_forth k (node (S.tab n) es) d gs us x t e q = (T.word w.Tabulate, _, next (e ∙ spelled (S.tab n) es x), (_, refl, (_, refl, (_, (n, refl), (_, refl, shut (S.tab n) es d gs x t q)))))
in_list_forth k (node S.concat es) d gs us x t e q = (T.word w.Concat, _, next (e ∙ spelled S.concat es x), shut S.concat es d gs x t q)
in_list_forth k (node (S.sort n) es) d gs us x t e q = cc
in_list_forth k (node (S.unsort n) es) d gs us x t e q = cc
in_list_forth solid (node (S.map2 c) es) d gs us x t e q = (T.word w.Map2, _, next (e ∙ spelled (S.map2 c) es x), (_, (c, refl), shut (S.map2 c) es d gs x t q))

-- an element's token begins the elements too
wider : (k : Kind) (d : ℕ) (gs : List Goal) (t : Token) (us : List Token) → After (at_element k d (elements k d ∷ gs) t) us → After (move (elements k d) gs t) us
wider solid d gs (T.number a c) us h = absurd h
wider vector d gs (T.number a c) us h = absurd h
wider solid d gs (T.mark Close) us h = absurd h
wider vector d gs (T.mark Close) us h = absurd h
wider k d gs _ us h = h

elements_forth : (k : Kind) (n : ℕ) (es : Exprs (replicate n (one k))) (d : ℕ) (gs : List Goal) (x : List Token) → textuals es ≡ true → GenAll gs x → Front (elements k d) gs (row es ++ (T.mark Close ∷ x))
unfolding tokens row
elements_forth k zero none d gs x t q = (T.mark Close, x, refl, q)
elements_forth k (suc n) (more e es) d gs x t q =
    let p = first_textual e es t in
    let f = element_forth k e d (elements k d ∷ gs) (row es ++ (T.mark Close ∷ x)) p.0 (x, (n, es, p.1, refl), q) in
    (f.0, f.1, spelled_row e es (T.mark Close ∷ x) ∙ f.2, wider k d gs f.0 f.1 f.3)

same_mark : (n : Mark) (m : Move) (us : List Token) → After m us → After (if_mark n n m) us
same_mark Open m us h = h
same_mark _ m us h = h

-- what goals stand for begins with a token that moves them on
pub forth : (g : Goal) (gs : List Goal) (us : List Token) → GenAll (g ∷ gs) us → Front g gs us
forth (element k d) gs us h = subst (Front (element k d) gs) (sym h.1.2) (element_forth k h.1.0 d gs h.0 h.1.1 h.2)
forth (list k d) gs us h = subst (Front (list k d) gs) (sym h.1.2) (list_forth k h.1.0 d gs h.0 h.1.1 h.2)
forth (in_solid d) gs us h = in_solid_forth h.1.0 d gs us h.0 h.1.1 h.1.2 h.2
forth (in_list k d) gs us h = in_list_forth k h.1.0 d gs us h.0 h.1.1 h.1.2 h.2
forth (elements k d) gs us h = subst (Front (elements k d) gs) (sym h.1.3) (elements_forth k h.1.0 h.1.1 d gs h.0 h.1.2 h.2)
forth (mark m) gs us h = (T.mark m, h.0, h.1, same_mark m (on gs) h.0 h.2)
forth union gs us h = (T.word w.Union, h.0, h.1, h.2)
forth index gs us h = (T.word w.Index, h.0, h.1, h.2)
forth placement gs us h = (T.word (placement_word h.1.0), h.0, h.1.1, subst (λ m. After m h.0) (sym (map2_word h.1.0 gs)) h.2)
forth plain gs us h = (T.plain h.1.0, h.0, h.1.1, h.2)
forth entry gs us h = (T.number h.1.0 h.1.1, h.0, h.1.2, h.2)
