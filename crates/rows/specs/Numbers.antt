-- The number that a word says. Assumes nothing.
use Rattle.std.specs.Prelude.{ℕ, Bool, cond, ◌&&◌, List, length, drop, ℤ, pos, neg_ℤ, Some, None, Option, ◌==◌, nat_le, nat_lt, slice_index}
use Rattle.std.specs.Option.{option_map}
use Rattle.std.specs.Bool.{then_some}
use Rattle.std.specs.Str.Parse.{digits_value}
use Rattle.std.specs.List.{list_all}
use Rattle.std.specs.Char.{is_ascii_digit}

-- one to eighteen digits
abbrev pub natural : List ℕ → Bool
natural word = nat_lt 0 (length word) && (nat_le (length word) 18 && list_all is_ascii_digit word)

-- and their value
unfoldable pub natural_of : List ℕ → Option ℕ
natural_of word = then_some (natural word) (digits_value 10 word)

abbrev pub minus : ℕ → ℤ
minus n = neg_ℤ (pos n)

-- such digits, or a minus and such digits
unfoldable pub whole_of : List ℕ → Option ℤ
whole_of word = cond (slice_index word 0 == 45) (option_map minus (natural_of (drop 1 word))) (option_map pos (natural_of word))

-- a profile's number has sixteen bits
abbrev pub as_profile : Option ℕ → Option ℕ
as_profile None = None
as_profile (Some n) = then_some (nat_le n 65535) n

abbrev pub profile_of : List ℕ → Option ℕ
profile_of word = as_profile (natural_of word)
