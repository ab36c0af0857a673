-- What a word of digits says. Assumes nothing.
use Rattle.std.proofs.Common.{◌≡◌, ℕ, ◌+◌, ◌-◌, ◌*◌, ◌^◌, ◌<◌, ◌≤◌, Bool, true, false, ltb, leb, List, [], ◌∷◌, ◌++◌, length, get_or, take, drop, sym, pos, Some, None, refl, ap, ◌∙◌, arith, rules}
use Rattle.std.specs.Option.{option_map}
use Rattle.std.specs.Bool.{then_some}
use Rattle.std.specs.List.{list_all}
use Rattle.std.specs.Char.{is_ascii_digit, digit_value}
use Rattle.std.specs.Str.Parse.{digits_value}
use Rattle.std.proofs.lemmas.Str.Parse.{IsNumeralModel, numerals_by_value, digits_value_short}
use Rattle.std.proofs.lemmas.Bool.Decides.{nat_tests}
use Rattle.std.proofs.lemmas.Int.Digits.{digits_value_push}
use Rattle.std.proofs.lemmas.List.Folds.{list_all-append, list_all_more}
use Rattle.std.proofs.lemmas.List.{take-append-drop, length-take-le}
use Rattle.std.proofs.lemmas.Bool.{cond-true, cond-false, and_parts, leb-true, eq-eqb, ne_eqb}
use Rattle.rows.specs.Numbers.{natural, natural_of, minus, whole_of}

all_digits : IsNumeralModel (λ ds. list_all is_ascii_digit ds ≡ true) (digits_value 10)
all_digits = numerals_by_value _ (search rules)

-- what the digits of a natural are
record Digits (word : List ℕ) : Type 0 where
  short : length word ≤ 18
  digits : list_all is_ascii_digit word ≡ true
  small : digits_value 10 word < 10 ^ 18

parts : (word : List ℕ) → natural word ≡ true → Digits word
parts word e =
    let a = and_parts (ltb 0 (length word)) _ e in
    let b = and_parts (leb (length word) 18) (list_all is_ascii_digit word) a.1 in
    record { short = leb-true (length word) 18 b.0; digits = b.1; small = digits_value_short all_digits word 18 b.1 (leb-true (length word) 18 b.0) }

-- n is the value of these bytes, if they are digits
abbrev pub Reads : List ℕ → ℕ → Type 0
Reads ys n = list_all is_ascii_digit ys ≡ true → n ≡ digits_value 10 ys

digit_is : (b : ℕ) → is_ascii_digit b ≡ true → (digit_value b ≡ b - 48) × (48 ≤ b)
digit_is b e = (grind (arith, nat_tests), grind (arith, nat_tests))

-- one more byte is read
pub reads_more : (ys : List ℕ) (n b m : ℕ) → Reads ys n → m ≡ 10 * n + (b - 48) → Reads (ys ++ (b ∷ [])) m
reads_more ys n b m so_far e all =
    let a = and_parts (list_all is_ascii_digit ys) _ (sym (list_all-append is_ascii_digit ys (b ∷ [])) ∙ all) in
    omega (arith, e, so_far a.0, (digit_is b (and_parts (is_ascii_digit b) true a.1).0).0, digits_value_push 10 ys b)

front : (p : ℕ → Bool) (k : ℕ) (xs : List ℕ) → list_all p xs ≡ true → list_all p (take k xs) ≡ true
front p k xs e = (and_parts (list_all p (take k xs)) _ (sym (list_all-append p (take k xs) (drop k xs)) ∙ ap (list_all p) (take-append-drop k xs) ∙ e)).0

-- where a digit of a natural is read, there is room for it
pub record Room (n b : ℕ) : Type 0 where
  pub few : n < 10 ^ 17
  pub digit : 48 ≤ b

pub room : (word : List ℕ) (k n d : ℕ) → natural word ≡ true → k < length word → Reads (take k word) n → Room n (get_or word k d)
room word k n d e within so_far =
    let p = parts word e in
    let before = front is_ascii_digit k word p.digits in
    let here = and_parts (list_all is_ascii_digit (take k word)) _ (sym (list_all_more is_ascii_digit word k d within) ∙ front is_ascii_digit (k + 1) word p.digits) in
    record {
      few = omega (arith, so_far before, digits_value_short all_digits (take k word) 17 before (omega (arith, p.short, length-take-le k word (omega arith))));
      digit = (digit_is (get_or word k d) here.1).1;
    }

pub natural_read : (word : List ℕ) (n : ℕ) → natural word ≡ true → Reads word n → (n ≡ digits_value 10 word) × (n < 10 ^ 18)
natural_read word n e all =
    let p = parts word e in
    (all p.digits, omega (arith, all p.digits, p.small))

pub natural_yes : (word : List ℕ) → natural word ≡ true → natural_of word ≡ Some (digits_value 10 word)
unfolding natural_of
natural_yes word e = ap (λ b. then_some b (digits_value 10 word)) e

pub natural_no : (word : List ℕ) → natural word ≡ false → natural_of word ≡ None
unfolding natural_of
natural_no word e = ap (λ b. then_some b (digits_value 10 word)) e

pub whole_minus : (word : List ℕ) → get_or word 0 0 ≡ 45 → whole_of word ≡ option_map minus (natural_of (drop 1 word))
unfolding whole_of
whole_minus word e = cond-true _ _ _ (eq-eqb _ 45 e)

pub whole_plain : (word : List ℕ) → (get_or word 0 0 ≡ 45 → ⊥) → whole_of word ≡ option_map pos (natural_of word)
unfolding whole_of
whole_plain word e = cond-false _ _ _ (ne_eqb _ 45 e)

-- an empty word says no number
pub no_whole : whole_of [] ≡ None
no_whole = whole_plain [] (λ e. omega arith) ∙ ap (option_map pos) (natural_no [] refl)
