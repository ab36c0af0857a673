-- The line and the column of the byte that follows some bytes. Assumes nothing.
use Rattle.std.specs.Prelude.{ℕ, ◌+◌, Bool, not, List, count_by, ◌==◌}
use Rattle.std.specs.List.{suffix_len}

-- a line feed
abbrev pub feeds : ℕ → Bool
feeds b = b == 10

-- one more than the line feeds before it
abbrev pub line_after : List ℕ → ℕ
line_after before = 1 + count_by feeds before

-- one more than the bytes since the last line feed
abbrev pub column_after : List ℕ → ℕ
column_after before = 1 + suffix_len (λ b. not (feeds b)) before
