-- The first word of a text, and what stands after it. Assumes nothing.
use Rattle.std.proofs.Common.{◌≡◌, ℕ, ◌+◌, ◌<◌, Bool, true, false, cond, not, List, [], ◌∷◌, length, take, drop, filter, sym, refl, ap, ◌∙◌, one-add, arith}
use Rattle.std.specs.List.{prefix_len, slice_split, onto_first}
use Rattle.std.proofs.lemmas.Bool.{cond-true, cond-false, lt-ltb}
use Rattle.std.proofs.lemmas.List.{nil_from_length}
use Rattle.std.proofs.lemmas.List.Splits.{slice_split-cons_yes, slice_split-cons_no}
use Rattle.rows.specs.Pieces.{is_blank, has_bytes, words}

abbrev in_word : ℕ → Bool
in_word b = not (is_blank b)

-- a blank in front is not of the words
words_blank : (b : ℕ) (bs : List ℕ) → is_blank b ≡ true → words (b ∷ bs) ≡ words bs
unfolding words
words_blank b bs e = ap (filter has_bytes) (slice_split-cons_yes is_blank b bs e)

skip : (b : ℕ) (bs : List ℕ) (t : Bool) → is_blank b ≡ t → words (drop (prefix_len is_blank bs) bs) ≡ words bs → words (drop (cond t (1 + prefix_len is_blank bs) 0) (b ∷ bs)) ≡ words (b ∷ bs)
skip b bs false e h = refl
skip b bs true e h = rw one-add (h ∙ sym (words_blank b bs e))

words_past : (xs : List ℕ) → words (drop (prefix_len is_blank xs) xs) ≡ words xs
words_past [] = refl
words_past (b ∷ bs) = skip b bs (is_blank b) refl (words_past bs)

-- and after the blanks in front stands none
skipped : (b : ℕ) (bs : List ℕ) (t : Bool) → is_blank b ≡ t → prefix_len is_blank (drop (prefix_len is_blank bs) bs) ≡ 0 → prefix_len is_blank (drop (cond t (1 + prefix_len is_blank bs) 0) (b ∷ bs)) ≡ 0
skipped b bs false e h = cond-false _ _ _ e
skipped b bs true e h = rw one-add h

past_blanks : (xs : List ℕ) → prefix_len is_blank (drop (prefix_len is_blank xs) xs) ≡ 0
past_blanks [] = refl
past_blanks (b ∷ bs) = skipped b bs (is_blank b) refl (past_blanks bs)

-- the first part of a text ends where its first word does, and the other parts have the words of the rest
record Parts (bs : List ℕ) (n : ℕ) : Type 0 where
  others : List (List ℕ)
  first : slice_split is_blank bs ≡ take n bs ∷ others
  rest : filter has_bytes others ≡ words (drop n bs)

longer : (b : ℕ) (bs : List ℕ) (t : Bool) → is_blank b ≡ t → Parts bs (prefix_len in_word bs) → Parts (b ∷ bs) (cond (not t) (1 + prefix_len in_word bs) 0)
unfolding words
longer b bs true e p = record {
  others = slice_split is_blank bs;
  first = slice_split-cons_yes is_blank b bs e;
  rest = sym (words_blank b bs e);
}
longer b bs false e p = rw one-add (record {
  others = p.others;
  first = slice_split-cons_no is_blank b bs e ∙ ap (onto_first b) p.first;
  rest = p.rest;
})

parts : (bs : List ℕ) → Parts bs (prefix_len in_word bs)
unfolding words
parts [] = record { others = []; first = refl; rest = refl }
parts (b ∷ bs) = longer b bs (is_blank b) refl (parts bs)

word_long : (b : ℕ) (bs : List ℕ) (t : Bool) → is_blank b ≡ t → cond t (1 + prefix_len is_blank bs) 0 ≡ 0 → 0 < length (take (cond (not t) (1 + prefix_len in_word bs) 0) (b ∷ bs))
word_long b bs false e z = rw one-add (omega arith)
word_long b bs true e z = absurd (omega arith)

-- the words of a text that begins with one
first_word : (bs : List ℕ) → prefix_len is_blank bs ≡ 0 → 0 < length bs → words bs ≡ take (prefix_len in_word bs) bs ∷ words (drop (prefix_len in_word bs) bs)
unfolding words
first_word [] z some = absurd (omega arith)
first_word (b ∷ bs) z some =
    let p = parts (b ∷ bs) in
    ap (filter has_bytes) p.first ∙ cond-true _ _ _ (lt-ltb 0 _ (word_long b bs (is_blank b) refl z)) ∙ ap (λ ws. take (prefix_len in_word (b ∷ bs)) (b ∷ bs) ∷ ws) p.rest

pub found : (xs ys : List ℕ) → ys ≡ drop (prefix_len is_blank xs) xs → 0 < length ys → words xs ≡ take (prefix_len in_word ys) ys ∷ words (drop (prefix_len in_word ys) ys)
found xs ys e some = sym (words_past xs) ∙ ap words (sym e) ∙ first_word ys (ap (prefix_len is_blank) e ∙ past_blanks xs) some

-- a text of no bytes has no words
no_words : words [] ≡ []
unfolding words
no_words = refl

pub none_found : (xs ys : List ℕ) → ys ≡ drop (prefix_len is_blank xs) xs → length ys ≡ 0 → words xs ≡ []
none_found xs ys e none = sym (words_past xs) ∙ ap words (sym e ∙ nil_from_length ys none) ∙ no_words
