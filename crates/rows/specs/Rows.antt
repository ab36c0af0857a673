-- What the words of a line say: a row, nothing, or neither. Assumes nothing.
use Rattle.std.specs.Prelude.{ℕ, cond, List, [], length, ℤ, Some, None, Option, Ok, Err, Result, ◌==◌, slice_index_or}
use Rattle.family.specs.declared.catalogue.Row.{Row}
use Rattle.rows.specs.declared.line.Neither.{Neither}
use Rattle.rows.specs.Numbers.{profile_of, whole_of}

-- a row of numbers, if there is each of them
abbrev pub row_from : Option ℕ → Option ℤ → Option ℤ → Option ℤ → Option ℤ → Option Row
row_from None p q r d = None
row_from (Some n) None q r d = None
row_from (Some n) (Some p) None r d = None
row_from (Some n) (Some p) (Some q) None d = None
row_from (Some n) (Some p) (Some q) (Some r) None = None
row_from (Some n) (Some p) (Some q) (Some r) (Some d) = Some (record { profile = n; p = p; q = q; r = r; d = d })

-- the row that the first five of these words say
unfoldable pub five_of : List (List ℕ) → Option Row
five_of ws = row_from (profile_of (slice_index_or ws 0 [])) (whole_of (slice_index_or ws 1 [])) (whole_of (slice_index_or ws 2 [])) (whole_of (slice_index_or ws 3 [])) (whole_of (slice_index_or ws 4 []))

-- the row that five words say
abbrev pub row_of : List (List ℕ) → Option Row
row_of ws = cond (length ws == 5) (five_of ws) None

-- a line that says neither a row nor nothing
abbrev pub neither : Result (Option Row) Neither
neither = Err (record {})

-- what a line of words says by its row, if they make one
abbrev pub a_row : Option Row → Result (Option Row) Neither
a_row None = neither
a_row (Some row) = Ok (Some row)

-- no words say nothing
unfoldable pub says : List (List ℕ) → Result (Option Row) Neither
says ws = cond (length ws == 0) (Ok None) (a_row (row_of ws))
