-- The lines of a text, what a line has before its comment, and its words. Assumes nothing.
use Rattle.std.specs.Prelude.{ℕ, ◌-◌, Bool, cond, not, ◌||◌, List, [], ◌∷◌, length, take, filter, ◌==◌, nat_lt, slice_index}
use Rattle.std.specs.List.{prefix_len, slice_split}

-- the pieces without the last, if it is empty
abbrev pub without_empty_last : List (List ℕ) → List (List ℕ)
without_empty_last [] = []
without_empty_last (x ∷ []) = cond (length x == 0) [] (x ∷ [])
without_empty_last (x ∷ y ∷ more) = x ∷ without_empty_last (y ∷ more)

-- the lines of a text: a line feed ends one, and the last may lack it
abbrev pub lines : List ℕ → List (List ℕ)
lines text = without_empty_last (slice_split (λ b. b == 10) text)

-- a carriage return at the end of a line is no part of it
unfoldable pub without_return : List ℕ → List ℕ
without_return line = cond (slice_index line (length line - 1) == 13) (take (length line - 1) line) line

-- what stands before the comment
abbrev pub before_comment : List ℕ → List ℕ
before_comment line = take (prefix_len (λ b. not (b == 35)) line) line

-- what a line says
abbrev pub content : List ℕ → List ℕ
content line = before_comment (without_return line)

-- a space or a tab
abbrev pub is_blank : ℕ → Bool
is_blank b = b == 32 || b == 9

abbrev pub has_bytes : List ℕ → Bool
has_bytes word = nat_lt 0 (length word)

-- the words of a line, with blanks around them
unfoldable pub words : List ℕ → List (List ℕ)
words line = filter has_bytes (slice_split is_blank line)
