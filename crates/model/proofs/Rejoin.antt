-- A token that moves goals on begins what they stand for. Assumes nothing.
use Rattle.std.proofs.Common.{◌≡◌, ℕ, zero, suc, ◌-◌, Bool, true, false, cond, eqb, List, [], ◌∷◌, ◌++◌, get_or, ℤ, pos, negsuc, sym, refl, ap, ◌∙◌, subst, append_assoc}
use lib.Dec.{eqb-suc-zero}
use Rattle.std.proofs.lemmas.Bool.{and_from, eqb-true}
use Rattle.model.specs.declared.node.Placement.{Placement}
use Rattle.model.specs.declared.node.Placement.TheVariants as by
use Rattle.model.specs.declared.node.Operator.TheVariants as op
use Rattle.model.specs.declared.node.Linear.{Linear}
use Rattle.model.specs.declared.word.Word.{Word}
use Rattle.model.specs.declared.word.Word.TheVariants as w
use Rattle.model.specs.declared.word.Mark.{Mark}
use Rattle.model.specs.declared.word.Mark.TheVariants.{Open, Close, Left, Right, Comma}
use Rattle.model.specs.Syntax.{Kind, solid, vector, Sort, one, many, num, Head, arity, Exprs, node, none, more, textual, textuals, textual_head}
use Rattle.model.specs.Syntax as S
use Rattle.model.specs.Tokens.{Token, bracket, placement_word, opening, closing, tokens, row}
use Rattle.model.specs.Tokens as T
use Rattle.model.specs.Bytes.{words}
use Rattle.model.specs.Grammar.{Goal, element, list, in_solid, in_list, elements, mark, union, index, placement, plain, entry, Move, stuck, on, entries, if_mark, if_zero, rank, if_word, at_placement, after_solid_word, after_list_word, at_element, move}
use Rattle.model.specs.Grammar as G
use Rattle.model.proofs.Derive.{Made, GenAll, After, wanted, placing}
use Rattle.model.proofs.Once.{spelled, spelled_row}

-- no number of an order is among them
abbrev Numberless : List Sort → Type 0
Numberless [] = Unit {0}
Numberless (one k ∷ ss) = Numberless ss
Numberless (many k ∷ ss) = Numberless ss
Numberless (num ∷ ss) = ⊥

-- the parts that goals stand for
abbrev Parts : List Sort → List Goal → List Token → Type 0
Parts ss gs us = (es : Exprs ss) × (vs : List Token) × (textuals es ≡ true) × (us ≡ row es ++ vs) × GenAll gs vs

with_part : (s : Sort) (ss : List Sort) (gs : List Goal) (us vs : List Token) → Made s us vs → Parts ss gs vs → Parts (s ∷ ss) gs us
unfolding tokens row textual textuals
with_part s ss gs us vs m p = (more m.0 p.0, p.1, and_from (textual m.0) (textuals p.0) m.1 p.2, m.2 ∙ ap (λ l. tokens m.0 ++ l) p.3 ∙ sym (append_assoc (tokens m.0) (row p.0) p.1), p.4)

parts_back : (ss : List Sort) (d : ℕ) (gs : List Goal) (us : List Token) → Numberless ss → GenAll (wanted ss d gs) us → Parts ss gs us
unfolding tokens row textual textuals
parts_back [] d gs us z q = (none, us, refl, refl, q)
parts_back (one k ∷ ss) d gs us z q = with_part (one k) ss gs us q.0 q.1 (parts_back ss d gs q.0 z q.2)
parts_back (many k ∷ ss) d gs us z q = with_part (many k) ss gs us q.0 q.1 (parts_back ss d gs q.0 z q.2)
parts_back (num ∷ ss) d gs us z q = absurd z

bracket_back : (gs : List Goal) (us : List Token) → GenAll (entries gs) us → (a : Linear) × (vs : List Token) × (T.mark Left ∷ us ≡ bracket a ++ vs) × GenAll gs vs
bracket_back gs us q =
    let x = q.1 in
    let r = q.2.2 in
    let y = r.1 in
    let s = r.2.2 in
    let z = s.1 in
    let comma₁ = q.2.1 in
    let comma₂ = r.2.1 in
    let right = s.2.1 in
    (record { constant = record { x = x.0; y = y.0; z = z.0 }; slope = record { x = x.1; y = y.1; z = z.1 } }, s.2.0, cc, s.2.2)

-- a head whose parts are met is an expression
closed : {s : Sort} (h : Head s) (d : ℕ) (gs : List Goal) (us : List Token) → textual_head h ≡ true → Numberless (arity h) → closing h ≡ T.mark Close ∷ [] → GenAll (wanted (arity h) d (mark Close ∷ gs)) us → (vs : List Token) × Made s (opening h ++ us) vs × GenAll gs vs
unfolding textual textuals
closed h d gs us x z c q =
    let p = parts_back (arity h) d (mark Close ∷ gs) us z q in
    let r = p.4 in
    (r.0, (node h p.0, and_from (textual_head h) (textuals p.0) x p.2, ap (λ l. opening h ++ l) (p.3 ∙ ap (λ l. row p.0 ++ l) (r.1 ∙ sym (ap (λ l. l ++ r.0) c))) ∙ sym (spelled h p.0 r.0)), r.2)

-- a bracket and these tokens are an expression, and then what the goals stand for
abbrev Inner : Sort → List Goal → List Token → Type 0
Inner s gs us = (vs : List Token) × Made s (T.mark Open ∷ us) vs × GenAll gs vs

inner : (s : Sort) (gs : List Goal) (us us' : List Token) → us ≡ us' → Inner s gs us' → Inner s gs us
inner s gs us us' p q = subst (Inner s gs) (sym p) q

-- which mark or word a goal was moved on by
by_mark : (n m : Mark) (x : Move) (us : List Token) → After (if_mark n m x) us → (n ≡ m) × After x us
by_mark Open Open x us h = (refl, h)
by_mark Close Close x us h = (refl, h)
by_mark Left Left x us h = (refl, h)
by_mark Right Right x us h = (refl, h)
by_mark Comma Comma x us h = (refl, h)
by_mark _ _ x us h = absurd h

by_zero : (c : ℤ) (gs : List Goal) (us : List Token) → After (if_zero c (on gs)) us → (c ≡ pos 0) × GenAll gs us
by_zero (pos zero) gs us h = (refl, h)
by_zero (pos (suc n)) gs us h = absurd (subst (λ b. After (cond b (on gs) stuck) us) (eqb-suc-zero n) h)
by_zero (negsuc n) gs us h = absurd h

unranked : (x : Word) → get_or words (rank x) w.Empty ≡ x
unranked w.Empty = refl
unranked _ = refl

by_word : (x y : Word) (m : Move) (us : List Token) → After (if_word x y m) us → (x ≡ y) × After m us
by_word x y m us h = go (eqb (rank x) (rank y)) refl h
  where
    go : (b : Bool) → eqb (rank x) (rank y) ≡ b → After (cond b m stuck) us → (x ≡ y) × After m us
    go true q h = (sym (unranked x) ∙ ap (λ n. get_or words n w.Empty) (eqb-true (rank x) (rank y) q) ∙ unranked y, h)
    go false q h = absurd h

by_placement : (x : Word) (gs : List Goal) (us : List Token) → After (at_placement x gs) us → (t : Placement) × (x ≡ placement_word t) × GenAll gs us
by_placement w.Translate gs us h = (by.Translate, refl, h)
by_placement w.Scale gs us h = (by.Scale, refl, h)
by_placement w.Rotate gs us h = (by.Rotate, refl, h)
by_placement _ gs us h = absurd h

prim_back : (d : ℕ) (gs : List Goal) (us : List Token) → GenAll (plain ∷ mark Left ∷ entries (mark Close ∷ gs)) us → Inner (one solid) gs (T.word w.Prim ∷ us)
prim_back d gs us h =
    let n = h.1.0 in
    let b = bracket_back (mark Close ∷ gs) h.2.0 h.2.2 in
    inner (one solid) gs _ _ (ap (λ l. T.word w.Prim ∷ l) (h.1.1 ∙ ap (λ l. T.plain n ∷ l) (h.2.1 ∙ b.2))) (closed (S.prim n b.0) d gs b.1 refl tt refl b.3)

place_back : (t : Placement) (d : ℕ) (gs : List Goal) (us : List Token) → GenAll (placing d gs) us → Inner (one solid) gs (T.word (placement_word t) ∷ us)
place_back t d gs us h =
    let b = bracket_back (element solid d ∷ mark Close ∷ gs) h.0 h.2 in
    inner (one solid) gs _ _ (ap (λ l. T.word (placement_word t) ∷ l) (h.1 ∙ b.2)) (closed (S.place t b.0) d gs b.1 refl tt refl b.3)

solid_back : (d : ℕ) (gs : List Goal) (x : Word) (us : List Token) → After (after_solid_word d gs x) us → Inner (one solid) gs (T.word x ∷ us)
solid_back d gs w.Prim us h = prim_back d gs us h
solid_back d gs w.Translate us h = place_back by.Translate d gs us h
solid_back d gs w.Scale us h = place_back by.Scale d gs us h
solid_back d gs w.Rotate us h = place_back by.Rotate d gs us h
solid_back d gs w.Union us h = closed (S.join op.Union) d gs us refl tt refl h
solid_back d gs w.Diff us h = closed (S.join op.Diff) d gs us refl tt refl h
solid_back d gs w.Inter us h = closed (S.join op.Inter) d gs us refl tt refl h
solid_back d gs w.Fold us h = inner (one solid) gs _ _ (ap (λ l. T.word w.Fold ∷ l) h.1) (closed S.fold d gs h.0 refl tt refl h.2)
solid_back d gs _ us h = absurd h

tab_back : (k : Kind) (d : ℕ) (gs : List Goal) (us : List Token) → GenAll (mark Open ∷ index ∷ plain ∷ mark Close ∷ element k d ∷ mark Close ∷ gs) us → Inner (many k) gs (T.word w.Tabulate ∷ us)
tab_back k d gs us h =
    let i = h.2 in
    let n = i.2 in
    let c = n.2 in
    inner (many k) gs _ _ (ap (λ l. T.word w.Tabulate ∷ l) (h.1 ∙ ap (λ l. T.mark Open ∷ l) (i.1 ∙ ap (λ l. T.word w.Index ∷ l) (n.1.1 ∙ ap (λ l. T.plain n.1.0 ∷ l) c.1)))) (closed (S.tab n.1.0) d gs c.0 refl tt refl c.2)

map2_back : (k : Kind) (d : ℕ) (gs : List Goal) (us : List Token) → After (G.map2_move k d gs) us → Inner (many k) gs (T.word w.Map2 ∷ us)
map2_back solid d gs us h = inner (many solid) gs _ _ (ap (λ l. T.word w.Map2 ∷ l) h.1.1) (closed (S.map2 h.1.0) d gs h.0 refl tt refl h.2)
map2_back vector d gs us h = absurd h

-- elements up to their bracket are a list
listed : (k : Kind) (d : ℕ) (gs : List Goal) (us : List Token) → GenAll (elements k d ∷ gs) us → Inner (many k) gs (T.word w.List ∷ us)
unfolding textual textuals
listed k d gs us h =
    let e = h.1 in
    (h.0, (node (S.list e.0) e.1, e.2, ap (λ l. T.mark Open ∷ T.word w.List ∷ l) e.3 ∙ sym (spelled (S.list e.0) e.1 h.0)), h.2)

list_back : (k : Kind) (d : ℕ) (gs : List Goal) (x : Word) (us : List Token) → After (after_list_word k d gs x) us → Inner (many k) gs (T.word x ∷ us)
list_back k d gs w.List us h = listed k d gs us h
list_back k d gs w.Repeat us h = inner (many k) gs _ _ (ap (λ l. T.word w.Repeat ∷ l) h.1.1) (closed (S.repeat h.1.0) d gs h.0 refl tt refl h.2)
list_back k d gs w.Tabulate us h = tab_back k d gs us h
list_back k d gs w.Concat us h = closed S.concat d gs us refl tt refl h
list_back k d gs w.Map2 us h = map2_back k d gs us h
list_back k d gs _ us h = absurd h

element_back : (k : Kind) (d : ℕ) (gs : List Goal) (t : Token) (us : List Token) → After (at_element k d gs t) us → GenAll (element k d ∷ gs) (t ∷ us)
unfolding tokens row textual textuals
element_back solid d gs (T.word x) us h = let b = by_word x w.Empty (G.node d gs) us h in (us, (node S.empty none, refl, ap (λ y. T.word y ∷ us) b.0), b.1)
element_back solid d gs (T.mark m) us h = let b = by_mark Open m (G.node d (in_solid (d - 1) ∷ gs)) us h in subst (λ y. GenAll (element solid d ∷ gs) (T.mark y ∷ us)) b.0 b.1
element_back vector d gs (T.mark m) us h =
    let b = by_mark Left m (G.node d (entries gs)) us h in
    let v = bracket_back gs us b.1 in
    subst (λ y. GenAll (element vector d ∷ gs) (T.mark y ∷ us)) b.0 (v.1, (node (S.vec v.0) none, refl, v.2), v.3)
element_back _ d gs _ us h = absurd h

-- an element with the elements after it
joined : (k : Kind) (d : ℕ) (gs : List Goal) (us : List Token) → GenAll (element k d ∷ elements k d ∷ gs) us → GenAll (elements k d ∷ gs) us
unfolding textual textuals
joined k d gs us h =
    let e = h.1 in
    let r = h.2.1 in
    (h.2.0, (suc r.0, more e.0 r.1, and_from (textual e.0) (textuals r.1) e.1 r.2, e.2 ∙ ap (λ l. tokens e.0 ++ l) r.3 ∙ sym (spelled_row e.0 r.1 (T.mark Close ∷ h.2.0))), h.2.2)

elements_mark : (k : Kind) (d : ℕ) (gs : List Goal) (m : Mark) (us : List Token) → After (move (elements k d) gs (T.mark m)) us → GenAll (elements k d ∷ gs) (T.mark m ∷ us)
unfolding tokens row textual textuals
elements_mark k d gs Close us h = (us, (zero, none, refl, refl), h)
elements_mark k d gs m us h = joined k d gs _ (element_back k d (elements k d ∷ gs) (T.mark m) us h)

-- and a token that moves goals on begins what they stand for
pub back : (g : Goal) (gs : List Goal) (t : Token) (us : List Token) → After (move g gs t) us → GenAll (g ∷ gs) (t ∷ us)
back (element k d) gs t us h = element_back k d gs t us h
back (list k d) gs (T.mark m) us h = let b = by_mark Open m (G.node d (in_list k (d - 1) ∷ gs)) us h in subst (λ y. GenAll (list k d ∷ gs) (T.mark y ∷ us)) b.0 b.1
back (in_solid d) gs (T.word x) us h = solid_back d gs x us h
back (in_list k d) gs (T.word x) us h = list_back k d gs x us h
back (elements k d) gs (T.word x) us h = joined k d gs _ (element_back k d (elements k d ∷ gs) (T.word x) us h)
back (elements k d) gs (T.mark m) us h = elements_mark k d gs m us h
back (mark n) gs (T.mark m) us h = let b = by_mark n m (on gs) us h in (us, ap (λ y. T.mark y ∷ us) (sym b.0), b.1)
back union gs (T.word x) us h = let b = by_word x w.Union (on gs) us h in (us, ap (λ y. T.word y ∷ us) b.0, b.1)
back index gs (T.word x) us h = let b = by_word x w.Index (on gs) us h in (us, ap (λ y. T.word y ∷ us) b.0, b.1)
back placement gs (T.word x) us h = let b = by_placement x gs us h in (us, (b.0, ap (λ y. T.word y ∷ us) b.1), b.2)
back plain gs (T.number a c) us h = let b = by_zero c gs us h in (us, (a, ap (λ y. T.number a y ∷ us) b.0), b.1)
back entry gs (T.number a c) us h = (us, (a, c, refl), h)
back _ gs _ us h = absurd h

-- the shortest parts
nought : Linear
nought = record { constant = record { x = pos 0; y = pos 0; z = pos 0 }; slope = record { x = pos 0; y = pos 0; z = pos 0 } }

-- goals can always be met
pub met : (gs : List Goal) → (r : List Token) × GenAll gs r
unfolding tokens row textual textuals
met [] = ([], refl)
met (element solid d ∷ gs) = (_, ((met gs).0, (node S.empty none, refl, refl), (met gs).1))
met (element vector d ∷ gs) = (_, ((met gs).0, (node (S.vec nought) none, refl, refl), (met gs).1))
met (list k d ∷ gs) = (_, ((met gs).0, (node (S.list 0) none, refl, refl), (met gs).1))
met (in_solid d ∷ gs) = (_, ((met gs).0, (node (S.prim (pos 0) nought) none, refl, refl), (met gs).1))
met (in_list k d ∷ gs) = (_, ((met gs).0, (node (S.list 0) none, refl, refl), (met gs).1))
met (elements k d ∷ gs) = (_, ((met gs).0, (0, none, refl, refl), (met gs).1))
met (mark m ∷ gs) = (_, ((met gs).0, refl, (met gs).1))
met (union ∷ gs) = (_, ((met gs).0, refl, (met gs).1))
met (index ∷ gs) = (_, ((met gs).0, refl, (met gs).1))
met (placement ∷ gs) = (_, ((met gs).0, (by.Translate, refl), (met gs).1))
met (plain ∷ gs) = (_, ((met gs).0, (pos 0, refl), (met gs).1))
met (entry ∷ gs) = (_, ((met gs).0, (pos 0, pos 0, refl), (met gs).1))
