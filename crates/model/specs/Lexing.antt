-- The tokens of a text, from a byte on. Assumes nothing.
use Rattle.std.specs.Prelude.{ℕ, zero, suc, ◌+◌, ◌-◌, Bool, cond, List, length, take, drop, ℤ, Some, None, Option, nat_le, slice_index}
use Rattle.std.specs.Option.{option_map}
use Rattle.std.specs.Char.{is_ascii_alphabetic}
use Rattle.std.specs.List.{prefix_len}
use Rattle.model.specs.declared.refusal.Span.{Span}
use Rattle.model.specs.Bytes.{is_sep, in_word, starts_number, in_number, word_of, mark_of, number_of, Small}
use Rattle.model.specs.Feed.{Feed}
use Rattle.model.specs.Feed as F
use Rattle.model.specs.Tokens.{Token, word, number, mark}

-- what stands at a byte: a token, a run or byte that is none, or the text's end
pub data Step : Type 0 where
  got : Token → Span → Step
  bad : Span → Step
  end : ℕ → Step

-- the longest run of bytes that pass, from byte s on
abbrev pub run : (ℕ → Bool) → List ℕ → ℕ → List ℕ
run p t s = take (prefix_len p (drop s t)) (drop s t)

-- n bytes from byte s on, and the token that they are, if any
abbrev pub stands : Option Token → ℕ → ℕ → Step
stands (Some x) s n = got x (record { at = s; len = n })
stands None s n = bad (record { at = s; len = n })

-- a number of this constant and slope
abbrev pub number_token : ℤ × ℤ → Token
number_token n = number n.0 n.1

-- the word that begins at byte s, or a bad run
abbrev pub word_at : List ℕ → ℕ → Step
word_at t s = stands (option_map word (word_of (run in_word t s))) s (length (run in_word t s))

-- the number that begins at byte s, or a bad run
abbrev pub number_at : List ℕ → ℕ → Step
number_at t s = stands (option_map number_token (number_of (run in_number t s))) s (length (run in_number t s))

-- what begins at byte s, which is within the text and no separator
abbrev pub token_at : List ℕ → ℕ → Step
token_at t s =
    cond (is_ascii_alphabetic (slice_index t s)) (word_at t s)
    (cond (starts_number (slice_index t s)) (number_at t s)
    (stands (option_map mark (mark_of (slice_index t s))) s 1))

-- the first byte from byte i on that is no separator
abbrev pub past_seps : List ℕ → ℕ → ℕ
past_seps t i = i + prefix_len is_sep (drop i t)

-- what stands first from byte i on
abbrev pub step_at : List ℕ → ℕ → Step
step_at t i = cond (nat_le (length t) (past_seps t i)) (end (past_seps t i)) (token_at t (past_seps t i))

-- a step, and what follows the token's last byte
abbrev pub fed : Step → (ℕ → Feed) → Feed
fed (got x s) rest = F.token x s (rest (s.at + s.len))
fed (bad s) rest = F.bad s
fed (end b) rest = F.end b

-- at most n steps
unfoldable pub feeds : ℕ → List ℕ → ℕ → Feed
feeds zero t i = F.end i
feeds (suc n) t i = fed (step_at t i) (feeds n t)

-- the tokens from byte i on; each takes a byte, so there are no more steps than these
unfoldable pub feed : List ℕ → ℕ → Feed
feed t i = feeds (suc (length t - i)) t i

-- a token's numbers have at most seven digits
abbrev pub SmallToken : Token → Type 0
SmallToken (word x) = Unit {0}
SmallToken (number a c) = Small a × Small c
SmallToken (mark m) = Unit {0}
