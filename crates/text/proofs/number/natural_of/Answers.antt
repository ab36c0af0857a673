use Rattle.std.proofs.Common.{◌≡◌, ◌≤◌, ◌<◌, ◌*◌, ◌+◌, ◌-◌, ℕ, List, false, map, length, get_or, Option, Some, None, IfSome, Iter, Bor, refl, sym, ap, ◌∙◌, subst, rules, tests, arith}
use Rattle.std.specs.Char.{is_ascii_digit}
use Rattle.std.specs.Int.{IsInRange}
use Rattle.std.specs.Iterator.{Yields}
use Rattle.std.specs.Option.{MatchOption}
use Rattle.std.specs.Slice.Iter.{iter_rest}
use Rattle.std.proofs.lemmas.Bool.{eqb-false}
use Rattle.std.proofs.lemmas.Fn.{serves_by, chained_keeps, fronts}
use Rattle.std.proofs.lemmas.Iterator.{YieldsList-from_slice}
use Rattle.std.proofs.lemmas.Iterator.Consumers.{YieldsList-turn, YieldsList-end}
use Rattle.std.proofs.lemmas.List.{get_or_default}
use Rattle.std.proofs.lemmas.Str.Parse.{digits_value_short}
use Rattle.model.specs.Bytes.{natural_of}
use Rattle.model.proofs.Numbers.{all_digits, no_natural_byte, natural_digits}
use Rattle.text.proofs.Numbers.{Writes, Writes-push, Writes-lt}
use Rattle.text.proofs.number.natural_of.Goals as goal

pub returns-then-is_empty-clause-value : goal.returns-then-is_empty-clause-value
unfolding natural_of
returns-then-is_empty-clause-value c = search rules

pub try_fold-requires-clause-callable : goal.try_fold-requires-clause-callable
try_fold-requires-clause-callable c =
    let all = YieldsList-from_slice {s = c.iter.result} c.args.run.now cc in
    serves_by _ (λ xs q. Writes (map (λ y. y.now) xs) q.1)
    (λ xs q x v j r. let one : IsInRange 48 57 x.now × (v.1 ≡ 10 * q.1 + (x.now - 48)) = search rules in Writes-push (λ y. y.now) xs x q.1 v.1 j one.0 one.1)
    _ _ _ _ (record { digits = tt; value = refl })
    (λ xs t q x u y e j.
    let turn = YieldsList-turn all xs t y _ u x refl e in
    let few = Writes-lt (λ y. y.now) xs q.1 j (omega arith) in grind arith)

-- every byte was a digit, or the one at which the calls ended was none
ended : (run : List ℕ) (s t u : Iter ℕ) (xs : List (Bor ℕ)) (o : Option (Bor ℕ)) (n : ℕ) (r : Option ℕ) (No : Bor ℕ → Type 0)
    → 0 < length run → length run ≤ 7 → (get_or run 0 0 ≡ 48 → ⊥) → iter_rest s ≡ run → Yields fronts s xs t → fronts t o u → Writes (map (λ y. y.now) xs) n
    → MatchOption o (r ≡ Some n) No → ((x : Bor ℕ) → No x → (is_ascii_digit x.now ≡ false) × (r ≡ None)) → (r ≡ natural_of run) × IfSome r (λ m. m ≤ 9999999)
ended run s t u xs None n r No some short first from y step w is miss =
    let w : Writes run n = subst (λ l. Writes l n) (YieldsList-end (YieldsList-from_slice run from) xs t y None u refl step).0 w in (
      is ∙ ap Some w.value ∙ sym (natural_digits run some short first w.digits),
      subst (λ q. IfSome q (λ m. m ≤ 9999999)) (sym is) (omega (arith, w.value, digits_value_short all_digits run 7 (all_digits.from run w.digits) short)),
    )
ended run s t u xs (Some x) n r No some short first from y step w is miss =
    let turn = YieldsList-turn (YieldsList-from_slice run from) xs t y (Some x) u x refl step in
    let other = miss x is in (
      other.1 ∙ sym (no_natural_byte run (length xs) turn.0 (ap is_ascii_digit (get_or_default run (length xs) 0 x.now turn.0 ∙ sym turn.1) ∙ other.0)),
      subst (λ q. IfSome q (λ m. m ≤ 9999999)) (sym other.1) tt,
    )

pub returns : goal.returns
returns c =
    let ran = c.try_fold.ensures.ran in
    let w = chained_keeps _ (λ xs q. Writes (map (λ y. y.now) xs) q.1)
    (λ xs q x v j r. let one : IsInRange 48 57 x.now × (v.1 ≡ 10 * q.1 + (x.now - 48)) = search rules in Writes-push (λ y. y.now) xs x q.1 v.1 j one.0 one.1)
    ran.0 _ _ (record { digits = tt; value = refl }) ran.5 in
    let is = ended c.args.run.now c.iter.result ran.4.0 c.try_fold.new.self ran.0 ran.1 ran.3 c.try_fold.result _ (omega (arith, eqb-false (length c.args.run.now) 0 (sym c.if-is_empty.ensures))) c.if-run-gt7.false c.if-run-eq48.false (cc) ran.4.1 ran.4.2 w ran.6 (λ x p. search (rules, tests)) in
    record { value = is.0; small = is.1 }
