-- The outcome of a text, in the words of programs. Assumes nothing.
use Rattle.std.proofs.Common.{◌≡◌, ℕ, suc, ◌<◌, ◌≤◌, Bool, true, false, cond, ltb, List, length, sym, refl, ap, ◌∙◌, subst, inl, inr, arith, ltb-true}
use borrow.Author.Tests.{false-leb}
use Rattle.model.specs.Limits.{most_bytes}
use Rattle.model.specs.declared.refusal.Refusal.{Refusal}
use Rattle.model.specs.declared.refusal.Refusal.TheVariants.{NoToken, NoSolid, TooLarge}
use Rattle.model.specs.Syntax.{Solid, textual, size}
use Rattle.model.specs.Tokens.{tokens}
use Rattle.model.specs.Feed.{said}
use Rattle.model.specs.Grammar.{Outcome, whole, refused, judged}
use Rattle.model.specs.Texts.{past_end, feed_of, Accepts, Refuses, outcome, BothWays}
use Rattle.model.proofs.Once.{one_reading}
use Rattle.model.proofs.Stops.{whole_reading}
use Rattle.model.proofs.Back.{reads_back, within}
use Rattle.model.proofs.Refused.{first_stop, first_bad, over_first}

-- by whether the text is too long
by_length : (text : List ℕ) (P : Outcome → Type 0) → (most_bytes < length text → P (refused (TooLarge past_end))) → (length text ≤ most_bytes → P (judged (feed_of text))) → P (outcome text)
unfolding outcome
by_length text P long short = go (ltb most_bytes (length text)) refl
  where
    go : (b : Bool) → ltb most_bytes (length text) ≡ b → P (cond b (refused (TooLarge past_end)) (judged (feed_of text)))
    go true q = long (ltb-true most_bytes (length text) q)
    go false q = short (omega (arith, false-leb (suc most_bytes) (length text) (sym q)))

pub refuses : (text : List ℕ) (f : Refusal) → outcome text ≡ refused f → Refuses text f
refuses text f = by_length text (λ o. o ≡ refused f → Refuses text f) (λ long. too_long f long) (λ short. stopped f short)
  where
    too_long : (f : Refusal) → most_bytes < length text → refused (TooLarge past_end) ≡ refused f → Refuses text f
    too_long (TooLarge s) long q = inl (long, cc)
    too_long _ long q = cc

    stopped : (f : Refusal) → length text ≤ most_bytes → judged (feed_of text) ≡ refused f → Refuses text f
    stopped (NoToken s) short q = (short, first_bad (feed_of text) s q)
    stopped (NoSolid s) short q = (short, first_stop (feed_of text) s q)
    stopped (TooLarge s) short q = inr (short, over_first (feed_of text) s q)

-- a text with the outcome of a program, which has the program's tokens, says it
pub accepts : (text : List ℕ) (n : ℕ) (e : Solid) → outcome text ≡ whole n → said (feed_of text) ≡ tokens e → Accepts text e
accepts text n e = by_length text (λ o. o ≡ whole n → said (feed_of text) ≡ tokens e → Accepts text e) (λ long q. cc) (λ short q says.
    let w = whole_reading (feed_of text) n q in
    let l = within (feed_of text) n e q says in
    record { short = short; clean = w.3; says = says; orderless = subst (λ x. textual x ≡ true) (one_reading w.0 e (sym w.2 ∙ says)) w.1; small = l.1; shallow = l.2 })

-- and whatever a text says, it is read as that
pub told : (text : List ℕ) (e : Solid) → Accepts text e → outcome text ≡ whole (size e)
told text e a = by_length text (λ o. o ≡ whole (size e)) (λ long. absurd (omega (arith, a.short))) (λ short. reads_back e (feed_of text) a.orderless a.small a.shallow a.says a.clean)

pub never : (text : List ℕ) (f : Refusal) (e : Solid) → outcome text ≡ refused f → Accepts text e → ⊥
never text f e q a = let p = told text e a in cc

-- two texts say one program exactly when their tokens are equal
pub same_program : (t u : List ℕ) (e f : Solid) → Accepts t e → Accepts u f → BothWays (e ≡ f) (said (feed_of t) ≡ said (feed_of u))
same_program t u e f a b = (λ q. a.says ∙ ap tokens q ∙ sym b.says, λ q. one_reading e f (sym a.says ∙ q ∙ b.says))

pub outcome_long : (text : List ℕ) → most_bytes < length text → outcome text ≡ refused (TooLarge past_end)
outcome_long text h = by_length text (λ o. o ≡ refused (TooLarge past_end)) (λ _. refl) (λ short. absurd (omega arith))

pub outcome_short : (text : List ℕ) → length text ≤ most_bytes → outcome text ≡ judged (feed_of text)
outcome_short text h = by_length text (λ o. o ≡ judged (feed_of text)) (λ long. absurd (omega arith)) (λ _. refl)
