-- What a run spells, by the run's first and last bytes. Assumes nothing.
use Rattle.std.proofs.Common.{◌≡◌, ℕ, zero, suc, ◌-◌, ◌<◌, ◌≤◌, Bool, true, false, not, eqb, ltb, leb, List, [], ◌∷◌, length, get_or, take, drop, ℤ, pos, IfSome, Some, None, Option, sym, refl, ap, ◌∙◌, subst, arith}
use Rattle.std.specs.Option.{option_map, option_or, option_zip}
use Rattle.std.specs.Bool.{then_some}
use Rattle.std.specs.Str.Parse.{digits_value, AllDigits}
use Rattle.std.specs.Char.{is_ascii_digit}
use Rattle.std.specs.Str.{all_ascii_digits, bytes_eq}
use Rattle.std.proofs.lemmas.Str.Parse.{IsNumeralModel, numerals_by_value, tells_all_ascii_digits, digits_value_short}
use Rattle.std.proofs.lemmas.Bool.{cond-true, cond-false, and_right, and_from, and_parts, lt-ltb, le-leb, leb-true, eq-eqb, ne_eqb, not_from_false, cond_both}
use Rattle.std.proofs.lemmas.List.Recursion.{and_fails_at}
use Rattle.model.specs.Bytes.{natural, natural_of, minus, amount_of, change_of, cut, slope_of, plain_of, number_of, Small, NumberSmall}

pub all_digits : IsNumeralModel (λ ds. all_ascii_digits ds ≡ true) (digits_value 10)
all_digits = numerals_by_value _ tells_all_ascii_digits

pub no_natural_byte : (run : List ℕ) (i : ℕ) → i < length run → is_ascii_digit (get_or run i 0) ≡ false → natural_of run ≡ None
unfolding natural_of
no_natural_byte run i h e =
    let other : all_ascii_digits run ≡ false = and_fails_at all_ascii_digits is_ascii_digit refl (λ _ _. refl) run i 0 h e in
    ap (λ b. then_some b (digits_value 10 run)) (and_right (ltb 0 (length run)) _ (and_right (leb (length run) 7) _ (and_right (not (eqb (get_or run 0 0) 48)) _ other)))

pub natural_digits : (run : List ℕ) → 0 < length run → length run ≤ 7 → (get_or run 0 0 ≡ 48 → ⊥) → AllDigits 10 run → natural_of run ≡ Some (digits_value 10 run)
unfolding natural_of
natural_digits run some short first ds =
    ap (λ b. then_some b (digits_value 10 run))
    (and_from _ _ (lt-ltb 0 (length run) some)
    (and_from _ _ (le-leb (length run) 7 short)
    (and_from _ _ (not_from_false _ (ne_eqb _ 48 first)) (all_digits.from run ds))))

pub amount_minus : (run : List ℕ) → get_or run 0 0 ≡ 45 → amount_of run ≡ option_map minus (natural_of (drop 1 run))
unfolding amount_of
amount_minus run e = cond-true _ _ _ (eq-eqb _ 45 e)

pub amount_plain : (run : List ℕ) → (get_or run 0 0 ≡ 45 → ⊥) → amount_of run ≡ option_map pos (natural_of run)
unfolding amount_of
amount_plain run e = cond-false _ _ _ (ne_eqb _ 45 e)

pub change_plus : (run : List ℕ) → get_or run 0 0 ≡ 43 → change_of run ≡ option_map pos (natural_of (drop 1 run))
unfolding change_of
change_plus run e = cond-true _ _ _ (eq-eqb _ 43 e)

pub change_minus : (run : List ℕ) → get_or run 0 0 ≡ 45 → change_of run ≡ option_map minus (natural_of (drop 1 run))
unfolding change_of
change_minus run e = cond-false _ _ _ (ne_eqb (get_or run 0 0) 43 (λ p. omega arith)) ∙ cond-true _ _ _ (eq-eqb _ 45 e)

pub change_none : (run : List ℕ) → (get_or run 0 0 ≡ 43 → ⊥) → (get_or run 0 0 ≡ 45 → ⊥) → change_of run ≡ None
unfolding change_of
change_none run p m = cond-false _ _ _ (ne_eqb _ 43 p) ∙ cond-false _ _ _ (ne_eqb _ 45 m)

pub slope_alone : (run : List ℕ) (c : ℤ) → amount_of run ≡ Some c → slope_of run ≡ Some (pos 0, c)
unfolding slope_of
slope_alone run c e = ap (λ o. option_or (option_map (λ z. (pos 0, z)) o) (option_zip (amount_of (take (cut run) run)) (change_of (drop (cut run) run)))) e

slope_sum : (run : List ℕ) (k : ℕ) → amount_of run ≡ None → k ≡ cut run → slope_of run ≡ option_zip (amount_of (take k run)) (change_of (drop k run))
unfolding slope_of
slope_sum run k e p =
    ap (λ o. option_or (option_map (λ z. (pos 0, z)) o) (option_zip (amount_of (take (cut run) run)) (change_of (drop (cut run) run)))) e
    ∙ ap (λ n. option_zip (amount_of (take n run)) (change_of (drop n run))) (sym p)

zipped_none : (o : Option ℤ) → option_zip {U = ℤ} o None ≡ None
zipped_none None = refl
zipped_none (Some a) = refl

pub slope_no_constant : (run : List ℕ) (k : ℕ) → amount_of run ≡ None → k ≡ cut run → amount_of (take k run) ≡ None → slope_of run ≡ None
slope_no_constant run k e p a = slope_sum run k e p ∙ ap (λ o. option_zip o (change_of (drop k run))) a

pub slope_no_change : (run : List ℕ) (k : ℕ) → amount_of run ≡ None → k ≡ cut run → change_of (drop k run) ≡ None → slope_of run ≡ None
slope_no_change run k e p c = slope_sum run k e p ∙ ap (option_zip (amount_of (take k run))) c ∙ zipped_none (amount_of (take k run))

pub slope_both : (run : List ℕ) (k : ℕ) (a c : ℤ) → amount_of run ≡ None → k ≡ cut run → amount_of (take k run) ≡ Some a → change_of (drop k run) ≡ Some c → slope_of run ≡ Some (a, c)
slope_both run k a c e p q r = slope_sum run k e p ∙ ap (λ o. option_zip o (change_of (drop k run))) q ∙ ap (option_zip (Some a)) r

pub number_index : (run : List ℕ) → get_or run (length run - 1) 0 ≡ 105 → number_of run ≡ slope_of (take (length run - 1) run)
unfolding number_of
number_index run e = cond-true _ _ _ (eq-eqb _ 105 e)

pub number_plain : (run : List ℕ) → (get_or run (length run - 1) 0 ≡ 105 → ⊥) → number_of run ≡ option_map (λ a. (a, pos 0)) (plain_of run)
unfolding number_of
number_plain run e = cond-false _ _ _ (ne_eqb _ 105 e)

-- a number that is read is small, by the parts of its run
small_natural : (run : List ℕ) → IfSome (natural_of run) (λ n. n ≤ 9999999)
unfolding natural_of
small_natural run = go (natural run) refl
  where
    go : (b : Bool) → natural run ≡ b → IfSome (then_some b (digits_value 10 run)) (λ n. n ≤ 9999999)
    go false e = tt
    go true e =
        let short = and_parts (leb (length run) 7) _ (and_parts (ltb 0 (length run)) _ e).1 in
        let digits = (and_parts (not (eqb (get_or run 0 0) 48)) (all_ascii_digits run) short.1).1 in
        omega (arith, digits_value_short all_digits run 7 digits (leb-true (length run) 7 short.0))

small_pos : (o : Option ℕ) → IfSome o (λ n. n ≤ 9999999) → IfSome (option_map pos o) Small
small_pos None h = tt
small_pos (Some n) h = h

small_minus : (o : Option ℕ) → IfSome o (λ n. n ≤ 9999999) → IfSome (option_map minus o) Small
small_minus None h = tt
small_minus (Some zero) h = h
small_minus (Some (suc n)) h = h

small_amount : (run : List ℕ) → IfSome (amount_of run) Small
unfolding amount_of
small_amount run =
    cond_both (eqb (get_or run 0 0) 45) _ _ (λ o. IfSome o Small)
    (λ _. small_minus (natural_of (drop 1 run)) (small_natural (drop 1 run))) (λ _. small_pos (natural_of run) (small_natural run))

small_change : (run : List ℕ) → IfSome (change_of run) Small
unfolding change_of
small_change run =
    cond_both (eqb (get_or run 0 0) 43) _ _ (λ o. IfSome o Small)
    (λ _. small_pos (natural_of (drop 1 run)) (small_natural (drop 1 run)))
    (λ _. cond_both (eqb (get_or run 0 0) 45) _ None (λ o. IfSome o Small) (λ _. small_minus (natural_of (drop 1 run)) (small_natural (drop 1 run))) (λ _. tt))

abbrev Smalls : ℤ × ℤ → Type 0
Smalls p = Small p.0 × Small p.1

small_alone : (o : Option ℤ) → IfSome o Small → IfSome (option_map (λ c. (pos 0, c)) o) Smalls
small_alone None h = tt
small_alone (Some c) h = (omega arith, h)

small_both : (o p : Option ℤ) → IfSome o Small → IfSome p Small → IfSome (option_zip o p) Smalls
small_both (Some a) (Some c) h k = (h, k)
small_both _ _ h k = tt

small_or : (o p : Option (ℤ × ℤ)) → IfSome o Smalls → IfSome p Smalls → IfSome (option_or o p) Smalls
small_or None p h k = k
small_or (Some x) p h k = h

small_slope : (run : List ℕ) → IfSome (slope_of run) Smalls
unfolding slope_of
small_slope run =
    small_or (option_map (λ c. (pos 0, c)) (amount_of run)) (option_zip (amount_of (take (cut run) run)) (change_of (drop (cut run) run)))
    (small_alone (amount_of run) (small_amount run)) (small_both (amount_of (take (cut run) run)) (change_of (drop (cut run) run)) (small_amount (take (cut run) run)) (small_change (drop (cut run) run)))

small_first : (o : Option ℤ) → IfSome o Small → IfSome (option_map (λ a. (a, pos 0)) o) Smalls
small_first None h = tt
small_first (Some a) h = (h, omega arith)

small_plain : (run : List ℕ) → IfSome (plain_of run) Small
unfolding plain_of
small_plain run = cond_both (bytes_eq run (48 ∷ [])) (Some (pos 0)) _ (λ o. IfSome o Small) (λ _. omega arith) (λ _. small_amount run)

small_number : (run : List ℕ) → IfSome (number_of run) Smalls
unfolding number_of
small_number run =
    cond_both (eqb (get_or run (length run - 1) 0) 105) _ _ (λ o. IfSome o Smalls)
    (λ _. small_slope (take (length run - 1) run)) (λ _. small_first (plain_of run) (small_plain run))

pub number_small : NumberSmall
number_small run a c e = subst (λ o. IfSome o Smalls) e (small_number run)
