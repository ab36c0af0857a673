-- One token of a text after another. Assumes nothing.
use Rattle.std.proofs.Common.{◌≡◌, ℕ, zero, suc, ◌+◌, ◌-◌, ◌<◌, ◌≤◌, Bool, true, leb, List, length, get_or, drop, ℤ, Some, None, Option, sym, refl, ap, ◌∙◌, subst, arith, length-drop}
use borrow.Author.Tests.{false-leb}
use Rattle.std.specs.Option.{option_map}
use Rattle.std.specs.Char.{is_ascii_alphabetic}
use Rattle.std.specs.List.{prefix_len}
use Rattle.std.proofs.lemmas.List.{length-take-le}
use Rattle.std.proofs.lemmas.List.Sums.{prefix_len-drop_yes, prefix_len-le-length}
use Rattle.std.proofs.lemmas.Bool.Decides.{nat_tests}
use Rattle.std.proofs.lemmas.Bool.{or_left, cond_both, cond-true, cond-false, le-leb, lt-leb}
use Rattle.model.specs.declared.refusal.Span.{Span}
use Rattle.model.specs.declared.word.Word.{Word}
use Rattle.model.specs.declared.word.Mark.{Mark}
use Rattle.model.specs.Bytes.{in_word, in_number, starts_number, word_of, mark_of, number_of, Small}
use Rattle.model.specs.Feed.{Feed}
use Rattle.model.specs.Feed as F
use Rattle.model.specs.Lexing.{Step, got, end, run, stands, word_at, number_at, token_at, past_seps, step_at, fed, feeds, feed, number_token, SmallToken}
use Rattle.model.specs.Tokens.{Token, word, mark}
use Rattle.model.proofs.Numbers.{number_small}

-- a token ends past byte i, and within the text's n bytes
abbrev pub Ahead : ℕ → ℕ → Step → Type 0
Ahead i n (got x s) = (i < s.at + s.len) × (s.at + s.len ≤ n)
Ahead i n _ = Unit {0}

pub length_run : (p : ℕ → Bool) (t : List ℕ) (s : ℕ) → length (run p t s) ≡ prefix_len p (drop s t)
length_run p t s = length-take-le (prefix_len p (drop s t)) (drop s t) (prefix_len-le-length p (drop s t))

pub run_within : (p : ℕ → Bool) (t : List ℕ) (s : ℕ) → s ≤ length t → s + length (run p t s) ≤ length t
run_within p t s h = omega (arith, length_run p t s, prefix_len-le-length p (drop s t), length-drop s t)

run_some : (p : ℕ → Bool) (t : List ℕ) (s : ℕ) → s < length t → p (get_or t s 0) ≡ true → 0 < length (run p t s)
run_some p t s h e = omega (arith, length_run p t s, prefix_len-drop_yes p t s 0 h e)

stands_ahead : (o : Option Token) (s m n : ℕ) → 0 < m → s + m ≤ n → Ahead s n (stands o s m)
stands_ahead (Some x) s m n h w = (omega arith, w)
stands_ahead None s m n h w = tt

starts_in : (b : ℕ) → starts_number b ≡ true → in_number b ≡ true
starts_in b e = grind (arith, nat_tests)

-- a token takes a byte, and ends within the text
pub token_ahead : (t : List ℕ) (s : ℕ) → s < length t → Ahead s (length t) (token_at t s)
token_ahead t s lt =
    let le : s ≤ length t = omega arith in
    cond_both (is_ascii_alphabetic (get_or t s 0)) _ _ (Ahead s (length t))
    (λ l. stands_ahead _ s _ _ (run_some in_word t s lt (or_left _ _ l)) (run_within in_word t s le))
    (λ _. cond_both (starts_number (get_or t s 0)) _ _ (Ahead s (length t))
    (λ d. stands_ahead _ s _ _ (run_some in_number t s lt (starts_in (get_or t s 0) d)) (run_within in_number t s le))
    (λ _. stands_ahead _ s 1 _ (omega arith) (omega arith)))

pub got_ahead : (t : List ℕ) (s : ℕ) (x : Token) (p q : Span) → s < length t → token_at t s ≡ got x p → q ≡ p → (s < q.at + q.len) × (q.at + q.len ≤ length t)
got_ahead t s x p q h e same =
    let there = subst (Ahead s (length t)) e (token_ahead t s h) in
    let from = ap (λ r. r.at) same in
    let long = ap (λ r. r.len) same in
    (omega (arith, there.0), omega (arith, there.1))

later : (i s n : ℕ) (x : Step) → i ≤ s → Ahead s n x → Ahead i n x
later i s n (got x a) h p = (omega (arith, p.0), p.1)
later i s n _ h p = tt

pub step_ahead : (t : List ℕ) (i : ℕ) → Ahead i (length t) (step_at t i)
step_ahead t i =
    cond_both (leb (length t) (past_seps t i)) _ _ (Ahead i (length t)) (λ _. tt)
    (λ low. later i (past_seps t i) _ _ (omega arith) (token_ahead t (past_seps t i) (omega (arith, false-leb (length t) (past_seps t i) (sym low)))))

fed_same : (x : Step) (i n : ℕ) (p q : ℕ → Feed) → Ahead i n x → ((e : ℕ) → i < e → e ≤ n → p e ≡ q e) → fed x p ≡ fed x q
fed_same (got x s) i n p q a h = ap (F.token x s) (h (s.at + s.len) a.0 a.1)
fed_same _ i n p q a h = refl

-- more steps than bytes are as good as enough
enough : (f g : ℕ) (t : List ℕ) (i : ℕ) → length t - i < f → length t - i < g → feeds f t i ≡ feeds g t i
unfolding feeds
enough zero g t i a b = absurd (omega arith)
enough (suc f) zero t i a b = absurd (omega arith)
enough (suc f) (suc g) t i a b = fed_same (step_at t i) i (length t) (feeds f t) (feeds g t) (step_ahead t i) (λ e lt w. enough f g t e (omega arith) (omega arith))

-- a text's tokens are its first and those after it
pub feed_step : (t : List ℕ) (i : ℕ) → feed t i ≡ fed (step_at t i) (feed t)
unfolding feed feeds
feed_step t i = fed_same (step_at t i) i (length t) (feeds (length t - i) t) (feed t) (step_ahead t i) (λ e lt w. enough (length t - i) (suc (length t - e)) t e (omega arith) (omega arith))

-- what a text's tokens are, where s is the first byte from byte i on that is no separator
pub feed_end : (t : List ℕ) (i s : ℕ) → s ≡ past_seps t i → length t ≤ s → feed t i ≡ F.end s
feed_end t i s e h =
    let low = ap (leb (length t)) (sym e) ∙ le-leb (length t) s h in
    feed_step t i ∙ ap (λ x. fed x (feed t)) (cond-true _ (end (past_seps t i)) (token_at t (past_seps t i)) low) ∙ ap F.end (sym e)

pub feed_token : (t : List ℕ) (i s : ℕ) → s ≡ past_seps t i → s < length t → feed t i ≡ fed (token_at t s) (feed t)
feed_token t i s e h =
    let high = ap (leb (length t)) (sym e) ∙ lt-leb (length t) s h in
    feed_step t i ∙ ap (λ x. fed x (feed t)) (cond-false _ (end (past_seps t i)) (token_at t (past_seps t i)) high ∙ ap (token_at t) (sym e))

abbrev SmallStep : Step → Type 0
SmallStep (got x s) = SmallToken x
SmallStep _ = Unit {0}

small_word : (o : Option Word) (s n : ℕ) → SmallStep (stands (option_map word o) s n)
small_word None s n = tt
small_word (Some x) s n = tt

small_mark : (o : Option Mark) (s n : ℕ) → SmallStep (stands (option_map mark o) s n)
small_mark None s n = tt
small_mark (Some m) s n = tt

small_number : (o : Option (ℤ × ℤ)) (s n : ℕ) → ((a c : ℤ) → o ≡ Some (a, c) → Small a × Small c) → SmallStep (stands (option_map number_token o) s n)
small_number None s n h = tt
small_number (Some p) s n h = h p.0 p.1 refl

small_step : (t : List ℕ) (i : ℕ) → SmallStep (step_at t i)
small_step t i =
    let s = past_seps t i in
    cond_both (leb (length t) s) (end s) (token_at t s) SmallStep (λ _. tt)
    (λ _. cond_both (is_ascii_alphabetic (get_or t s 0)) (word_at t s) _ SmallStep (λ _. small_word (word_of (run in_word t s)) s _)
    (λ _. cond_both (starts_number (get_or t s 0)) (number_at t s) _ SmallStep (λ _. small_number (number_of (run in_number t s)) s _ (number_small (run in_number t s)))
    (λ _. small_mark (mark_of (get_or t s 0)) s 1)))

abbrev SmallFirst : Feed → Type 0
SmallFirst (F.token x s f) = SmallToken x
SmallFirst _ = Unit {0}

small_fed : (x : Step) (rest : ℕ → Feed) → SmallStep x → SmallFirst (fed x rest)
small_fed (got x s) rest h = h
small_fed _ rest h = tt

-- a text's tokens are small
pub feed_small : (t : List ℕ) (i : ℕ) (x : Token) (s : Span) (f : Feed) → feed t i ≡ F.token x s f → SmallToken x
feed_small t i x s f e = subst SmallFirst (sym (feed_step t i) ∙ e) (small_fed (step_at t i) (feed t) (small_step t i))
