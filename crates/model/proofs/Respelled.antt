-- Tokens read back from their bytes: each one's bytes are the longest run at its place. Assumes nothing.
use Rattle.std.proofs.Common.{◌≡◌, ℕ, suc, ◌+◌, ◌<◌, ◌≤◌, Bool, true, false, cond, ◌||◌, List, [], ◌∷◌, ◌++◌, length, get_or, take, ℤ, pos, negsuc, decimal, sym, refl, ap, ◌∙◌, subst, append_assoc, arith}
use Rattle.std.specs.Option.{option_map}
use Rattle.std.specs.Str.Parse.{AllDigits}
use Rattle.std.specs.Char.{is_ascii_alphabetic, digit_value}
use Rattle.std.specs.Fmt.{signed_decimal}
use Rattle.std.specs.List.{prefix_len, AllByRecursion}
use Rattle.std.proofs.lemmas.Fmt.{decimal_is_IsNumeral}
use Rattle.std.proofs.lemmas.List.{get_or_at, take_at, drop_at, length-append}
use Rattle.std.proofs.lemmas.Str.Parse.{digit_from_value}
use Rattle.std.proofs.lemmas.Bool.{cond-true, cond-false, cond_both, and_from, or_left, le-leb}
use Rattle.std.proofs.lemmas.Bool.Decides.{nat_tests}
use Rattle.model.specs.declared.refusal.Span.{Span}
use Rattle.model.specs.declared.word.Word.{Word}
use Rattle.model.specs.declared.word.Word.TheVariants as w
use Rattle.model.specs.declared.word.Mark.{Mark}
use Rattle.model.specs.declared.word.Mark.TheVariants.{Open}
use Rattle.model.specs.Bytes.{is_sep, in_word, starts_number, in_number, mark_byte, spelling, word_of, mark_of, number_of, is_zero, change, numeral, Small}
use Rattle.model.specs.Feed.{Feed, said, Clean}
use Rattle.model.specs.Lexing.{got, run, stands, number_token, word_at, number_at, token_at, past_seps, fed, feed, SmallToken}
use Rattle.model.specs.Spelling.{spell_token, tight_after, tight_before, gap, spells}
use Rattle.model.specs.Tokens.{Token, word, number, mark}
use Rattle.model.specs.Written.{LexesBack}
use Rattle.model.proofs.Feeds.{feed_end, feed_token}
use Rattle.model.proofs.Numerals.{number_back, digits_pass, passes_then}
use Rattle.model.proofs.Words.{word_back}

-- each byte passes
abbrev Pass : (ℕ → Bool) → List ℕ → Type 0
Pass p xs = prefix_len p xs ≡ length xs

-- bytes that pass, up to one that does not, are the longest run
run_pass : (p : ℕ → Bool) (pre xs rest : List ℕ) → Pass p xs → prefix_len p rest ≡ 0 → run p (pre ++ (xs ++ rest)) (length pre) ≡ xs
run_pass p pre xs rest h e =
    ap (λ l. take (prefix_len p l) l) (drop_at pre (xs ++ rest) (length pre) refl)
    ∙ take_at xs rest (prefix_len p (xs ++ rest)) (let n = passes_then p xs rest h in omega arith)

-- the first byte of a run
front : (pre xs rest : List ℕ) → 0 < length xs → get_or (pre ++ (xs ++ rest)) (length pre) 0 ≡ get_or xs 0 0
front pre [] rest h = absurd (omega arith)
front pre (x ∷ xs) rest h = get_or_at pre x (xs ++ rest) 0 (length pre) refl

-- a word's bytes go on as a word, and its first is a letter
word_bytes : (x : Word) → Pass in_word (spelling x) × (is_ascii_alphabetic (get_or (spelling x) 0 0) ≡ true) × (0 < length (spelling x))
word_bytes w.Empty = (refl, refl, omega arith)
word_bytes _ = (refl, refl, omega arith)

-- bytes that go on as a number, the first of which starts one
abbrev Digital : List ℕ → Type 0
Digital xs = (0 < length xs) × (starts_number (get_or xs 0 0) ≡ true) × Pass in_number xs

digit_passes : (b : ℕ) → digit_value b < 10 → (starts_number b ≡ true) × (in_number b ≡ true)
digit_passes b h =
    let d = digit_from_value b h in
    let digit = and_from _ _ (le-leb 48 b d.0) (le-leb b 57 d.1) in
    (or_left _ _ digit, or_left _ _ digit)

digital_digits : (ds : List ℕ) → 0 < length ds → AllDigits 10 ds → Digital ds
digital_digits [] p h = absurd (omega arith)
digital_digits (b ∷ ds) p h = (p, (digit_passes b h.0).0, digits_pass in_number (λ c d. (digit_passes c d).1) (b ∷ ds) h)

digital_decimal : (n : ℕ) → n ≤ 9999999 → Digital (decimal n)
digital_decimal n h = let d = (decimal_is_IsNumeral n (omega arith)).0 in digital_digits (decimal n) d.0 d.1

digital_signed : (z : ℤ) → Small z → Digital (signed_decimal z)
digital_signed (pos n) h = digital_decimal n h
digital_signed (negsuc n) h = (omega arith, refl, omega (arith, (digital_decimal (suc n) h).2))

change_passes : (z : ℤ) → Small z → Pass in_number (change z)
change_passes (pos n) h = omega (arith, (digital_decimal n h).2)
change_passes (negsuc n) h = omega (arith, (digital_decimal (suc n) h).2)

digital_append : (xs ys : List ℕ) → Digital xs → Pass in_number ys → Digital (xs ++ ys)
digital_append xs ys h k =
    let long = length-append xs ys in
    (omega (arith, h.0), ap starts_number (front [] xs ys h.0) ∙ h.1, omega (arith, passes_then in_number xs ys h.2))

digital_numeral : (a c : ℤ) → Small a → Small c → Digital (numeral a c)
digital_numeral a c h k =
    cond_both (is_zero c) (signed_decimal a) _ Digital (λ _. digital_signed a h)
    (λ _. digital_append _ (105 ∷ [])
    (cond_both (is_zero a) (signed_decimal c) _ Digital (λ _. digital_signed c k) (λ _. digital_append (signed_decimal a) (change c) (digital_signed a h) (change_passes c k)))
    refl)

-- what starts a number is no letter and no separator
no_letter : (b : ℕ) → starts_number b ≡ true → is_ascii_alphabetic b ≡ false
no_letter b e = grind (arith, nat_tests)

number_apart : (b : ℕ) → starts_number b ≡ true → is_sep b ≡ false
number_apart b e = grind (arith, nat_tests)

letter_apart : (b : ℕ) → is_ascii_alphabetic b ≡ true → is_sep b ≡ false
letter_apart b e = grind (arith, nat_tests)

-- a token's first byte is no separator
begins : (t : Token) → SmallToken t → (0 < length (spell_token t)) × (is_sep (get_or (spell_token t) 0 0) ≡ false)
begins (word x) h = let b = word_bytes x in (b.2, letter_apart (get_or (spelling x) 0 0) b.1)
begins (number a c) h = let d = digital_numeral a c h.0 h.1 in (d.0, number_apart (get_or (numeral a c) 0 0) d.1)
begins (mark Open) h = (omega arith, refl)
begins (mark _) h = (omega arith, refl)

-- a token that stands at byte s with its own bytes
abbrev here : Token → ℕ → Span
here t s = record { at = s; len = length (spell_token t) }

token_word : (x : Word) (pre rest : List ℕ) → prefix_len in_word rest ≡ 0 → token_at (pre ++ (spelling x ++ rest)) (length pre) ≡ got (word x) (here (word x) (length pre))
token_word x pre rest e =
    let b = word_bytes x in
    let s = length pre in
    cond-true _ _ _ (ap is_ascii_alphabetic (front pre (spelling x) rest b.2) ∙ b.1)
    ∙ ap (λ r. stands (option_map word (word_of r)) s (length r)) (run_pass in_word pre (spelling x) rest b.0 e)
    ∙ ap (λ o. stands (option_map word o) s (length (spelling x))) (word_back x)

token_number : (a c : ℤ) (pre rest : List ℕ) → Small a → Small c → prefix_len in_number rest ≡ 0 → token_at (pre ++ (numeral a c ++ rest)) (length pre) ≡ got (number a c) (here (number a c) (length pre))
token_number a c pre rest h k e =
    let d = digital_numeral a c h k in
    let s = length pre in
    let first = front pre (numeral a c) rest d.0 in
    cond-false _ _ _ (ap is_ascii_alphabetic first ∙ no_letter (get_or (numeral a c) 0 0) d.1)
    ∙ cond-true _ _ _ (ap starts_number first ∙ d.1)
    ∙ ap (λ r. stands (option_map number_token (number_of r)) s (length r)) (run_pass in_number pre (numeral a c) rest d.2 e)
    ∙ ap (λ o. stands (option_map number_token o) s (length (numeral a c))) (number_back a c h k)

token_mark : (m : Mark) (pre rest : List ℕ) → token_at (pre ++ (mark_byte m ∷ rest)) (length pre) ≡ got (mark m) (here (mark m) (length pre))
token_mark m pre rest =
    let t = pre ++ (mark_byte m ∷ rest) in
    let s = length pre in
    ap (λ b. cond (is_ascii_alphabetic b) (word_at t s) (cond (starts_number b) (number_at t s) (stands (option_map mark (mark_of b)) s 1))) (get_or_at pre (mark_byte m) rest 0 s refl)
    ∙ (known t s m)
  where
    known : (t : List ℕ) (s : ℕ) (m : Mark) → cond (is_ascii_alphabetic (mark_byte m)) (word_at t s) (cond (starts_number (mark_byte m)) (number_at t s) (stands (option_map mark (mark_of (mark_byte m))) s 1)) ≡ got (mark m) (record { at = s; len = 1 })
    known t s Open = refl
    known t s _ = refl

-- no run goes on into what is written after a word or a number
stops : (ts : List Token) → (prefix_len in_word (spells false ts) ≡ 0) × (prefix_len in_number (spells false ts) ≡ 0)
stops [] = (refl, refl)
stops (word x ∷ ts) = (refl, refl)
stops (number a c ∷ ts) = (refl, refl)
stops (mark Open ∷ ts) = (refl, refl)
stops (mark _ ∷ ts) = (refl, refl)

token_back : (t : Token) (ts : List Token) (pre : List ℕ) → SmallToken t → token_at (pre ++ (spell_token t ++ spells (tight_after t) ts)) (length pre) ≡ got t (here t (length pre))
token_back (word x) ts pre h = token_word x pre (spells false ts) (stops ts).0
token_back (number a c) ts pre h = token_number a c pre (spells false ts) h.0 h.1 (stops ts).1
token_back (mark m) ts pre h = token_mark m pre (spells (tight_after (mark m)) ts)

-- a gap is skipped, and nothing more
no_seps : (xs : List ℕ) → is_sep (get_or xs 0 0) ≡ false → prefix_len is_sep xs ≡ 0
no_seps [] e = refl
no_seps (x ∷ xs) e = cond-false _ _ _ e

skipped : (g : Bool) (pre xs : List ℕ) → is_sep (get_or xs 0 0) ≡ false → length (pre ++ gap g) ≡ past_seps (pre ++ (gap g ++ xs)) (length pre)
skipped true pre xs e = omega (arith, length-append pre [], ap (prefix_len is_sep) (drop_at pre xs (length pre) refl), no_seps xs e)
skipped false pre xs e = omega (arith, length-append pre (32 ∷ []), ap (prefix_len is_sep) (drop_at pre (32 ∷ xs) (length pre) refl), no_seps xs e)

-- these are the tokens of a text, up to its end
abbrev Says : Feed → List Token → Type 0
Says f ts = Clean f × (said f ≡ ts)

-- tokens read back from any place of a text
says_back : (b : Bool) (ts : List Token) (pre : List ℕ) → AllByRecursion SmallToken ts → Says (feed (pre ++ spells b ts) (length pre)) ts
says_back b [] pre h =
    let s = length (pre ++ []) in
    subst (λ f. Says f []) (sym (feed_end (pre ++ []) (length pre) s (skipped true pre [] refl) (omega arith))) (tt, refl)
says_back b (t ∷ ts) pre h =
    let g = b || tight_before t in
    let xs = spell_token t in
    let rest = spells (tight_after t) ts in
    let text = pre ++ (gap g ++ (xs ++ rest)) in
    let s = length (pre ++ gap g) in
    let first = begins t h.0 in
    let apart = sym (append_assoc pre (gap g) (xs ++ rest)) in
    let after = apart ∙ sym (append_assoc (pre ++ gap g) xs rest) in
    let long = ap length after ∙ length-append ((pre ++ gap g) ++ xs) rest in
    let end = length-append (pre ++ gap g) xs in
    let one = ap (λ l. token_at l s) apart ∙ token_back t ts (pre ++ gap g) h.0 in
    let step = feed_token text (length pre) s (skipped g pre (xs ++ rest) (ap is_sep (front [] xs rest first.0) ∙ first.1)) (omega (arith, first.0)) ∙ ap (λ x. fed x (feed text)) one in
    let later : Says (feed text (s + length xs)) ts = subst (λ n. Says (feed text n) ts) end (subst (λ l. Says (feed l (length ((pre ++ gap g) ++ xs))) ts) (sym after) (says_back (tight_after t) ts ((pre ++ gap g) ++ xs) h.1)) in
    subst (λ f. Says f (t ∷ ts)) (sym step) (later.0, ap (λ l. t ∷ l) later.1)

pub lexes_back : LexesBack
lexes_back ts h = says_back true ts [] h
