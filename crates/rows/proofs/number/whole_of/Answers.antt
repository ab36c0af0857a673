use Rattle.std.proofs.Common.{◌≡◌, true, false, eqb, List, [], ◌∷◌, ℕ, get_or, drop, take, pos, neg_ℤ, Some, None, Option, refl, sym, ap, ◌∙◌, arith, rules}
use lib.Pointwise.{pointwise}
use Rattle.std.specs.Option.{option_map}
use Rattle.rows.specs.Numbers.{natural_of, minus}
use Rattle.rows.proofs.Naturals.{whole_minus, whole_plain}
use Rattle.rows.proofs.number.whole_of.Goals as goal

begins : (word : List ℕ) → pointwise eqb (take 1 word) (45 ∷ []) ≡ true → get_or word 0 0 ≡ 45
begins [] e = grind arith
begins (b ∷ word) e = grind arith

other : (word : List ℕ) → pointwise eqb (take 1 word) (45 ∷ []) ≡ false → get_or word 0 0 ≡ 45 → ⊥
other [] n e = grind arith
other (b ∷ word) n e = grind arith

negated : (n : Option ℕ) → option_map neg_ℤ (option_map pos n) ≡ option_map minus n
negated None = refl
negated (Some n) = refl

pub returns-in-Some : goal.returns-in-Some
returns-in-Some c =
    let e : c.map.result ≡ option_map neg_ℤ c.natural_of.result = search rules in
    e ∙ ap (option_map neg_ℤ) (c.natural_of.ensures ∙ ap (λ w. option_map pos (natural_of w)) c.in-Some.ensures.cases.1) ∙ negated (natural_of (drop 1 c.args.word.now)) ∙ sym (whole_minus c.args.word.now (begins c.args.word.now c.in-Some.ensures.cases.0))

pub returns-in-None : goal.returns-in-None
returns-in-None c = c.natural_of-in-None.ensures ∙ sym (whole_plain c.args.word.now (other c.args.word.now c.in-None.ensures.cases))
