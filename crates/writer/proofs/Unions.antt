-- The text of a union, and of solids that are placed or joined. Assumes nothing.
use Rattle.std.proofs.Common.{◌≡◌, ℕ, zero, suc, ◌+◌, ◌<◌, List, [], ◌∷◌, ◌++◌, length, get_or, take, replicate, codes, sym, refl, ap, ◌∙◌, append_assoc, append-nil, arith}
use Rattle.std.specs.List.{flat_map}
use Rattle.std.proofs.lemmas.List.{replicate_more, take_more}
use Rattle.std.proofs.lemmas.Grind.{flat_map-append}
use Rattle.model.specs.declared.node.Operator.{Operator}
use Rattle.model.specs.declared.node.Operator.TheVariants.{Union}
use Rattle.model.specs.declared.node.Placement.{Placement}
use Rattle.model.specs.declared.node.Node.TheVariants as v
use Rattle.model.specs.declared.node.Triple.{Triple}
use Rattle.model.specs.Syntax.{Solid, Empty, none, more}
use Rattle.model.specs.Syntax as S
use Rattle.model.specs.Placements.{still}
use Rattle.model.specs.Shapes.{union_of}
use Rattle.model.specs.Spelling.{text_of, opening_text}
use Rattle.model.specs.Unrolling.{programs}
use Rattle.model.proofs.Spelled.{text_node}
use Rattle.writer.specs.Unrolls.{placing, joining}

pub text_placed : (p : Placement) (q : Triple) (e : Solid) → placing p q ++ (text_of e ++ (41 ∷ [])) ≡ text_of (programs.place p q e)
text_placed p q e =
    let o = opening_text (v.Place p (still q)) in
    append_assoc o (32 ∷ []) (text_of e ++ (41 ∷ [])) ∙ ap (λ l. o ++ (32 ∷ (l ++ (41 ∷ [])))) (sym (append-nil (text_of e))) ∙ sym (text_node (S.place p (still q)) (more e none))

pub text_joined : (o : Operator) (a b : Solid) → joining o ++ (text_of a ++ (32 ∷ (text_of b ++ (41 ∷ [])))) ≡ text_of (programs.join o a b)
text_joined o a b =
    let t = opening_text (v.Join o) in
    append_assoc t (32 ∷ []) (text_of a ++ (32 ∷ (text_of b ++ (41 ∷ []))))
    ∙ ap (λ l. t ++ (32 ∷ l)) (ap (λ l. text_of a ++ (32 ∷ (l ++ (41 ∷ [])))) (sym (append-nil (text_of b))) ∙ sym (append_assoc (text_of a) (32 ∷ (text_of b ++ [])) (41 ∷ [])))
    ∙ sym (text_node (S.join o) (more a (more b none)))

-- a solid that is not the last, with the Union before it
abbrev pub before : Solid → List ℕ
before x = joining Union ++ (text_of x ++ (32 ∷ []))

-- the first n solids
abbrev pub unions : ℕ → List Solid → List ℕ
unions n xs = flat_map before (take n xs)

-- one more
pub unions_more : (n : ℕ) (xs : List Solid) → n < length xs → unions n xs ++ before (get_or xs n Empty) ≡ unions (n + 1) xs
unions_more n xs h = rw (take_more xs n Empty h, flat_map-append, append-nil) refl

regroup : (j t u g c : List ℕ) → ((j ++ (t ++ (32 ∷ []))) ++ u) ++ (g ++ (c ++ (41 ∷ []))) ≡ j ++ (t ++ (32 ∷ ((u ++ (g ++ c)) ++ (41 ∷ []))))
regroup j t u g c = simp append_assoc

-- and all of them
pub text_union : (n : ℕ) (xs : List Solid) → length xs ≡ suc n → unions n xs ++ (text_of (get_or xs n Empty) ++ replicate n 41) ≡ text_of (union_of programs xs)
text_union zero [] h = absurd (omega arith)
text_union (suc n) [] h = absurd (omega arith)
text_union zero (x ∷ []) h = append-nil (text_of x)
text_union zero (x ∷ y ∷ xs) h = absurd (omega arith)
text_union (suc n) (x ∷ []) h = absurd (omega arith)
text_union (suc n) (x ∷ y ∷ xs) h =
    let front = before x ++ unions n (y ∷ xs) in
    let g = text_of (get_or (y ∷ xs) n Empty) in
    let count : suc n ≡ n + 1 = omega arith in
    let shorter : length (y ∷ xs) ≡ suc n = omega arith in
    let closings : replicate (suc n) 41 ≡ replicate n 41 ++ (41 ∷ []) = ap (λ m. replicate m 41) count ∙ sym (replicate_more n 41) in
    ap (λ l. front ++ (g ++ l)) closings ∙ regroup (joining Union) (text_of x) (unions n (y ∷ xs)) g (replicate n 41)
    ∙ ap (λ l. joining Union ++ (text_of x ++ (32 ∷ (l ++ (41 ∷ []))))) (text_union n (y ∷ xs) shorter) ∙ text_joined Union x (union_of programs (y ∷ xs))

pub text_empty : codes "Empty" ≡ text_of Empty
text_empty = sym (text_node S.empty none)
