-- Signs and zeros of numbers, and how numbers are spelled at each. Assumes nothing.
use Rattle.std.proofs.Common.{◌≡◌, zero, suc, ◌^◌, ◌<◌, true, false, [], ◌∷◌, ◌++◌, ℤ, pos, negsuc, nat_abs, decimal, sym, refl, arith, w64, SFits, of_z}
use lib.Signed.{lt_z}
use Rattle.std.specs.Fmt.{signed_decimal}
use Rattle.std.proofs.lemmas.Bool.{ltb-true, true≢false, cond-true}
use Rattle.model.specs.Bytes.{is_zero, change, numeral}

pub change_from_zero : (z : ℤ) → lt_z z (pos 0) ≡ false → change z ≡ 43 ∷ decimal (nat_abs z)
change_from_zero (pos n) h = refl
change_from_zero (negsuc n) h = absurd (true≢false h)

pub change_below_zero : (z : ℤ) → lt_z z (pos 0) ≡ true → change z ≡ 45 ∷ decimal (nat_abs z)
change_below_zero (pos n) h = absurd (let l = ltb-true n 0 h in omega arith)
change_below_zero (negsuc n) h = refl

zero_from_bits : (z : ℤ) → SFits w64 z → of_z w64 z ≡ 0 → is_zero z ≡ true
zero_from_bits (pos zero) f h = refl
zero_from_bits (pos (suc n)) f h = absurd (omega arith)
zero_from_bits (negsuc n) f h = absurd (let l : n < 2 ^ 63 = f.sfits in omega arith)

some_from_bits : (z : ℤ) → (of_z w64 z ≡ 0 → ⊥) → is_zero z ≡ false
some_from_bits (pos zero) h = absurd (h refl)
some_from_bits (pos (suc n)) h = refl
some_from_bits (negsuc n) h = refl

-- a number with a slope, by which of the two are 0
pub numeral_plain : (a c : ℤ) → SFits w64 c → of_z w64 c ≡ 0 → signed_decimal a ≡ numeral a c
numeral_plain a c f z = sym (cond-true (is_zero c) _ _ (zero_from_bits c f z))

pub numeral_slope : (a c : ℤ) → SFits w64 a → (of_z w64 c ≡ 0 → ⊥) → of_z w64 a ≡ 0 → signed_decimal c ++ (105 ∷ []) ≡ numeral a c
numeral_slope a c f n z = simp (zero_from_bits a f z, some_from_bits c n) refl

pub numeral_both : (a c : ℤ) → (of_z w64 c ≡ 0 → ⊥) → (of_z w64 a ≡ 0 → ⊥) → (signed_decimal a ++ change c) ++ (105 ∷ []) ≡ numeral a c
numeral_both a c n m = simp (some_from_bits a m, some_from_bits c n) refl
