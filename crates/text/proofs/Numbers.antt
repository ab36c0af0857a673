-- What runs of digits are. Assumes nothing.
use Rattle.std.proofs.Common.{◌≡◌, ℕ, ◌^◌, ◌<◌, ◌≤◌, true, eqb, false, ◌+◌, ◌-◌, ◌*◌, List, [], ◌∷◌, ◌++◌, map, length, get_or, take, drop, sym, ap, ◌∙◌, subst, inl, inr, arith}
use Rattle.std.specs.Int.{IsInRange}
use Rattle.std.specs.Str.Parse.{AllDigits, digits_value}
use Rattle.std.proofs.lemmas.Int.Digits.{digits_push, digits_value_push}
use Rattle.std.proofs.lemmas.Str.{digit_value_digit}
use Rattle.std.proofs.lemmas.Str.Parse.{digits_value_short}
use Rattle.std.specs.Cmp.Lexicographic.{pointwise, same_text, other_text}
use Rattle.std.proofs.lemmas.List.{length-map, map_push, get_or-drop, get_or_past, drop_more, drop_all}
use Rattle.std.proofs.lemmas.Bool.{cases_lt}
use Rattle.model.proofs.Numbers.{all_digits}

-- these bytes are digits that write n
pub record Writes (run : List ℕ) (n : ℕ) : Type 0 where
  pub digits : AllDigits 10 run
  pub value : n ≡ digits_value 10 run

pub Writes-push : {A : Type 0} (f : A → ℕ) (xs : List A) (x : A) (m n : ℕ) → Writes (map f xs) m → IsInRange 48 57 (f x) → n ≡ 10 * m + (f x - 48) → Writes (map f (xs ++ (x ∷ []))) n
Writes-push f xs x m n w h e =
    let d = digit_value_digit (f x) h in
    subst (λ run. Writes run n) (sym (map_push f xs x))
    (record { digits = digits_push 10 (map f xs) (f x) w.digits (omega (arith, d)); value = omega (arith, d, e, w.value, digits_value_push 10 (map f xs) (f x)) })

-- fewer than seven leave room for one more
pub Writes-lt : {A : Type 0} (f : A → ℕ) (xs : List A) (n : ℕ) → Writes (map f xs) n → length xs ≤ 6 → n < 10 ^ 6
Writes-lt f xs n w h = subst (λ m. m < 10 ^ 6) (sym w.value) (digits_value_short all_digits (map f xs) 6 (all_digits.from (map f xs) w.digits) (omega (arith, length-map xs f)))

-- the first byte is b
pub head_yes : (run : List ℕ) (b : ℕ) → pointwise eqb (take 1 run) (b ∷ []) ≡ true → get_or run 0 0 ≡ b
head_yes [] b e = cc
head_yes (x ∷ run) b e = ap (λ l. get_or l 0 0) (same_text (x ∷ []) (b ∷ []) (sym e))

pub head_no : (run : List ℕ) (b : ℕ) → 0 < b → pointwise eqb (take 1 run) (b ∷ []) ≡ false → get_or run 0 0 ≡ b → ⊥
head_no [] b h e q = omega arith
head_no (x ∷ run) b h e q = other_text (x ∷ []) (b ∷ []) (sym e) (ap (λ y. y ∷ []) q)

-- the last byte is b
pub last_yes : (run : List ℕ) (b : ℕ) → pointwise eqb (drop (length run - 1) run) (b ∷ []) ≡ true → get_or run (length run - 1) 0 ≡ b
last_yes run b e =
    sym (get_or-drop (length run - 1) run 0 0 ∙ ap (λ i. get_or run i 0) (omega arith)) ∙ ap (λ l. get_or l 0 0) (same_text (drop (length run - 1) run) (b ∷ []) (sym e))

pub last_no : (run : List ℕ) (b : ℕ) → 0 < b → pointwise eqb (drop (length run - 1) run) (b ∷ []) ≡ false → get_or run (length run - 1) 0 ≡ b → ⊥
last_no run b h e q = elim (cases_lt 0 (length run)) [ inl some ↦ absurd (other_text (drop (length run - 1) run) (b ∷ []) (sym e) (last some)) | inr none ↦ omega (arith, get_or_past run (length run - 1) 0 (omega arith)) ]
  where
    last : 0 < length run → drop (length run - 1) run ≡ b ∷ []
    last some = drop_more run (length run - 1) 0 (omega arith) ∙ ap (λ x. x ∷ drop (length run - 1 + 1) run) q ∙ ap (λ l. b ∷ l) (drop_all (length run - 1 + 1) run (omega arith))
