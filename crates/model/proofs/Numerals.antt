-- Numbers read back from their spelling. Assumes nothing.
use Rattle.std.proofs.Common.{◌≡◌, ℕ, zero, suc, ◌+◌, ◌-◌, ◌<◌, ◌≤◌, Bool, true, false, cond, eqb, List, [], ◌∷◌, ◌++◌, length, get_or, take, ℤ, pos, negsuc, nat_abs, Some, None, decimal, sym, refl, ap, ◌∙◌, arith}
use Rattle.std.specs.Option.{option_map}
use Rattle.std.specs.Str.Parse.{AllDigits}
use Rattle.std.specs.Char.{is_ascii_digit, digit_value}
use Rattle.std.specs.Int.{IsInRange}
use Rattle.std.specs.Fmt.{signed_decimal}
use Rattle.std.specs.List.{prefix_len}
use Rattle.std.specs.Str.{bytes_eq}
use Rattle.std.proofs.lemmas.Fmt.{decimal_is_IsNumeral, decimal_digit, length-decimal-le, first_decimal}
use Rattle.std.proofs.lemmas.List.{get_or-append_right, get_or_at, get_or_push, get_or_append_left, length_push, take_at, drop_at, length-append}
use Rattle.std.proofs.lemmas.List.Folds.{prefix_len-append}
use Rattle.std.proofs.lemmas.Str.Parse.{digit_at, digit_from_value}
use Rattle.std.proofs.lemmas.Bool.{cond-true, cond-false, eq-eqb, ne_eqb, le-leb, and_from, and_left}
use Rattle.model.specs.Bytes.{natural_of, minus, amount_of, change_of, cut, slope_of, plain_of, number_of, change, is_zero, Small, NumberBack}
use Rattle.model.proofs.Numbers.{no_natural_byte, natural_digits, amount_minus, amount_plain, change_plus, change_minus, slope_alone, slope_both, number_index, number_plain}

-- a number of one to seven digits
abbrev Size : ℕ → Type 0
Size n = (0 < n) × (n ≤ 9999999)

digits_of : (n : ℕ) → Size n → AllDigits 10 (decimal n)
digits_of n h = (decimal_is_IsNumeral n (omega (arith, h.1))).0.1

some_digit : (n : ℕ) → Size n → 0 < length (decimal n)
some_digit n h = (decimal_is_IsNumeral n (omega (arith, h.1))).0.0

first_digit : (n : ℕ) → Size n → IsInRange 48 57 (get_or (decimal n) 0 0)
first_digit n h = digit_at (decimal n) 0 (digits_of n h) (some_digit n h)

natural_decimal : (n : ℕ) → Size n → natural_of (decimal n) ≡ Some n
natural_decimal n h =
    let first = first_decimal n h.0 (omega (arith, h.1)) in
    natural_digits (decimal n) (some_digit n h) (length-decimal-le 7 n (omega arith) (omega (arith, h.1)) (omega (arith, h.1))) (λ e. omega arith) (digits_of n h)
    ∙ ap Some (decimal_is_IsNumeral n (omega (arith, h.1))).1

-- what a number other than 0 reads as, with its sign and without
amount_signed : (z : ℤ) → Size (nat_abs z) → amount_of (signed_decimal z) ≡ Some z
amount_signed (pos n) h = amount_plain (decimal n) (λ e. omega (arith, (first_digit n h).0)) ∙ ap (option_map pos) (natural_decimal n h)
amount_signed (negsuc n) h = amount_minus (signed_decimal (negsuc n)) refl ∙ ap (option_map minus) (natural_decimal (suc n) h)

change_change : (z : ℤ) → Size (nat_abs z) → change_of (change z) ≡ Some z
change_change (pos n) h = change_plus (change (pos n)) refl ∙ ap (option_map pos) (natural_decimal n h)
change_change (negsuc n) h = change_minus (change (negsuc n)) refl ∙ ap (option_map minus) (natural_decimal (suc n) h)

-- a run whose first byte is not 0 reads as one without a sign in front of 0
plain_amount : (run : List ℕ) → (get_or run 0 0 ≡ 48 → ⊥) → plain_of run ≡ amount_of run
unfolding plain_of
plain_amount run h = cond-false _ _ _ (other run h)
  where
    other : (xs : List ℕ) → (get_or xs 0 0 ≡ 48 → ⊥) → bytes_eq xs (48 ∷ []) ≡ false
    other [] h = refl
    other (x ∷ xs) h = and_left (eqb x 48) (bytes_eq xs []) (ne_eqb x 48 h)

last_digit : (n : ℕ) → Size n → get_or (decimal n) (length (decimal n) - 1) 0 ≡ 105 → ⊥
last_digit n h e =
    let some = some_digit n h in
    let d = digit_at (decimal n) (length (decimal n) - 1) (digits_of n h) (omega arith) in
    omega (arith, d.1)

last_after_minus : (ds : List ℕ) → 0 < length ds → get_or ds (length ds - 1) 0 ≡ get_or (45 ∷ ds) (length (45 ∷ ds) - 1) 0
last_after_minus ds h = ap (λ n. get_or ds n 0) (omega arith) ∙ sym (get_or-append_right (45 ∷ []) ds 1 (length (45 ∷ ds) - 1) 0 refl (omega arith))

plain_signed : (z : ℤ) → Size (nat_abs z) → number_of (signed_decimal z) ≡ Some (z, pos 0)
plain_signed (pos n) h =
    let first = first_decimal n h.0 (omega (arith, h.1)) in
    number_plain (decimal n) (last_digit n h) ∙ ap (option_map (λ a. (a, pos 0))) (plain_amount (decimal n) (λ e. omega arith) ∙ amount_signed (pos n) h)
plain_signed (negsuc n) h =
    number_plain (signed_decimal (negsuc n)) (λ e. last_digit (suc n) h (last_after_minus (decimal (suc n)) (some_digit (suc n) h) ∙ e))
    ∙ ap (option_map (λ a. (a, pos 0))) (plain_amount (signed_decimal (negsuc n)) (λ e. omega arith) ∙ amount_signed (negsuc n) h)

plain_zero : number_of (signed_decimal (pos 0)) ≡ Some (pos 0, pos 0)
unfolding number_of plain_of
plain_zero = ap number_of (decimal_digit 0 (omega arith))

-- an i at the end
with_index : (run : List ℕ) → number_of (run ++ (105 ∷ [])) ≡ slope_of run
with_index run =
    let end : length (run ++ (105 ∷ [])) - 1 ≡ length run = omega (arith, length_push run 105) in
    number_index (run ++ (105 ∷ [])) (ap (λ n. get_or (run ++ (105 ∷ [])) n 0) end ∙ get_or_push run 105 0 (length run) refl)
    ∙ ap (λ n. slope_of (take n (run ++ (105 ∷ [])))) end ∙ ap slope_of (take_at run (105 ∷ []) (length run) refl)

-- digits, and then a sign
digit_true : (b : ℕ) → digit_value b < 10 → is_ascii_digit b ≡ true
digit_true b h = let d = digit_from_value b h in and_from _ _ (le-leb 48 b d.0) (le-leb b 57 d.1)

pub digits_pass : (p : ℕ → Bool) → ((b : ℕ) → digit_value b < 10 → p b ≡ true) → (ds : List ℕ) → AllDigits 10 ds → prefix_len p ds ≡ length ds
digits_pass p f [] h = refl
digits_pass p f (b ∷ ds) h = cond-true _ _ _ (f b h.0) ∙ omega (arith, digits_pass p f ds h.1)

-- after bytes that pass, those that follow count
pub passes_then : (p : ℕ → Bool) (xs rest : List ℕ) → prefix_len p xs ≡ length xs → prefix_len p (xs ++ rest) ≡ length xs + prefix_len p rest
passes_then p xs rest h = prefix_len-append p xs rest ∙ cond-true _ _ _ (eq-eqb _ _ h)

digits_then : (ds : List ℕ) (s : ℕ) (rest : List ℕ) → AllDigits 10 ds → is_ascii_digit s ≡ false → prefix_len is_ascii_digit (ds ++ (s ∷ rest)) ≡ length ds
digits_then ds s rest h e =
    let stop : prefix_len is_ascii_digit (s ∷ rest) ≡ 0 = cond-false _ _ _ e in
    omega (arith, passes_then is_ascii_digit ds (s ∷ rest) (digits_pass is_ascii_digit digit_true ds h))

cut_digits : (ds : List ℕ) (s : ℕ) (rest : List ℕ) → 0 < length ds → AllDigits 10 ds → is_ascii_digit s ≡ false → length ds ≡ cut (ds ++ (s ∷ rest))
cut_digits [] s rest p h e = absurd (omega arith)
cut_digits (b ∷ ds) s rest p h e = omega (arith, digits_then ds s rest h.1 e)

cut_signed : (z : ℤ) (s : ℕ) (rest : List ℕ) → Size (nat_abs z) → is_ascii_digit s ≡ false → length (signed_decimal z) ≡ cut (signed_decimal z ++ (s ∷ rest))
cut_signed (pos n) s rest h e = cut_digits (decimal n) s rest (some_digit n h) (digits_of n h) e
cut_signed (negsuc n) s rest h e = omega (arith, digits_then (decimal (suc n)) s rest (digits_of (suc n) h) e)

no_natural_then : (ds : List ℕ) (s : ℕ) (rest : List ℕ) → is_ascii_digit s ≡ false → natural_of (ds ++ (s ∷ rest)) ≡ None
no_natural_then ds s rest e =
    no_natural_byte (ds ++ (s ∷ rest)) (length ds) (omega (arith, length-append ds (s ∷ rest))) (ap is_ascii_digit (get_or_at ds s rest 0 (length ds) refl) ∙ e)

no_amount_then : (z : ℤ) (s : ℕ) (rest : List ℕ) → Size (nat_abs z) → is_ascii_digit s ≡ false → amount_of (signed_decimal z ++ (s ∷ rest)) ≡ None
no_amount_then (pos n) s rest h e =
    let front = get_or_append_left (decimal n) (s ∷ rest) 0 0 (some_digit n h) in
    amount_plain (decimal n ++ (s ∷ rest)) (λ p. omega (arith, (first_digit n h).0)) ∙ ap (option_map pos) (no_natural_then (decimal n) s rest e)
no_amount_then (negsuc n) s rest h e = amount_minus (signed_decimal (negsuc n) ++ (s ∷ rest)) refl ∙ ap (option_map minus) (no_natural_then (decimal (suc n)) s rest e)

slope_then : (a c : ℤ) (s : ℕ) (rest : List ℕ) → Size (nat_abs a) → is_ascii_digit s ≡ false → change_of (s ∷ rest) ≡ Some c → slope_of (signed_decimal a ++ (s ∷ rest)) ≡ Some (a, c)
slope_then a c s rest h e change =
    slope_both (signed_decimal a ++ (s ∷ rest)) (length (signed_decimal a)) a c (no_amount_then a s rest h e) (cut_signed a s rest h e)
    (ap amount_of (take_at (signed_decimal a) (s ∷ rest) (length (signed_decimal a)) refl) ∙ amount_signed a h)
    (ap change_of (drop_at (signed_decimal a) (s ∷ rest) (length (signed_decimal a)) refl) ∙ change)

slope_change : (a c : ℤ) → Size (nat_abs a) → Size (nat_abs c) → slope_of (signed_decimal a ++ change c) ≡ Some (a, c)
slope_change a (pos n) h k = slope_then a (pos n) 43 (decimal n) h refl (change_change (pos n) k)
slope_change a (negsuc n) h k = slope_then a (negsuc n) 45 (decimal (suc n)) h refl (change_change (negsuc n) k)

with_slope : (a c : ℤ) → Small a → Size (nat_abs c) → number_of (cond (is_zero a) (signed_decimal c) (signed_decimal a ++ change c) ++ (105 ∷ [])) ≡ Some (a, c)
with_slope (pos zero) c h k = with_index (signed_decimal c) ∙ slope_alone (signed_decimal c) c (amount_signed c k)
with_slope (pos (suc n)) c h k = with_index (signed_decimal (pos (suc n)) ++ change c) ∙ slope_change (pos (suc n)) c (omega arith, h) k
with_slope (negsuc n) c h k = with_index (signed_decimal (negsuc n) ++ change c) ∙ slope_change (negsuc n) c (omega arith, h) k

pub number_back : NumberBack
number_back (pos zero) (pos zero) h k = plain_zero
number_back (pos (suc n)) (pos zero) h k = plain_signed (pos (suc n)) (omega arith, h)
number_back (negsuc n) (pos zero) h k = plain_signed (negsuc n) (omega arith, h)
number_back a (pos (suc m)) h k = with_slope a (pos (suc m)) h (omega arith, k)
number_back a (negsuc m) h k = with_slope a (negsuc m) h (omega arith, k)
