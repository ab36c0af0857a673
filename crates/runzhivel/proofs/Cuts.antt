-- A text cut in four. Assumes nothing.
use Rattle.std.proofs.Common.{◌≡◌, ℕ, ◌+◌, ◌-◌, ◌≤◌, List, ◌++◌, length, take, drop, sym, ap, ◌∙◌, arith, length-drop, take-append-drop, length-take, drop-drop}

-- what lies from i to j, and what follows
part : (xs : List ℕ) (i j : ℕ) → i ≤ j → take (j - i) (drop i xs) ++ drop j xs ≡ drop i xs
part xs i j h =
    let met : i + (j - i) ≡ j = omega arith in
    ap (λ l. take (j - i) (drop i xs) ++ l) (sym (drop-drop (j - i) i xs ∙ ap (λ k. drop k xs) met)) ∙ take-append-drop (j - i) (drop i xs)

pub four : (xs : List ℕ) (i j k : ℕ) → i ≤ j → j ≤ k → xs ≡ take i xs ++ (take (j - i) (drop i xs) ++ (take (k - j) (drop j xs) ++ drop k xs))
four xs i j k h g =
    sym (ap (λ l. take i xs ++ (take (j - i) (drop i xs) ++ l)) (part xs j k g) ∙ (ap (λ l. take i xs ++ l) (part xs i j h) ∙ take-append-drop i xs))

pub two_lengths : (xs : List ℕ) (i j : ℕ) → i ≤ j → j ≤ length xs → length (take i xs) + length (take (j - i) (drop i xs)) ≡ j
two_lengths xs i j h g = omega (arith, length-take i xs, length-take (j - i) (drop i xs), length-drop i xs)

pub one_length : (xs : List ℕ) (i j : ℕ) → i ≤ j → j ≤ length xs → length (take (j - i) (drop i xs)) ≡ j - i
one_length xs i j h g = omega (arith, length-take (j - i) (drop i xs), length-drop i xs)
