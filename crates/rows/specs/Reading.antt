-- What reading the rows of a text answers. Assumes nothing.
use Rattle.std.specs.Prelude.{◌≡◌, ℕ, suc, ◌<◌, List, [], ◌∷◌, length, take, Some, None, Option, Ok, Err, Result, slice_index_or}
use Rattle.std.specs.List.{flat_map, AllByRecursion}
use Rattle.family.specs.declared.catalogue.Row.{Row}
use Rattle.rows.specs.declared.Unreadable as U
use Rattle.rows.specs.declared.Unreadable.TheVariants as u
use Rattle.rows.specs.declared.line.Neither.{Neither}
use Rattle.rows.specs.Pieces.{lines, content, words}
use Rattle.rows.specs.Rows.{says, neither}

-- what a line says
abbrev pub said : List ℕ → Result (Option Row) Neither
said line = says (words (content line))

-- a line says a row or nothing
abbrev pub Readable : List ℕ → Type 0
Readable line = said line ≡ neither → ⊥

-- the row that is said, if any
abbrev pub row_list : Result (Option Row) Neither → List Row
row_list (Ok None) = []
row_list (Ok (Some row)) = row ∷ []
row_list (Err _) = []

-- the rows of these lines, in their order
abbrev pub rows_of : List (List ℕ) → List Row
rows_of ls = flat_map (λ line. row_list (said line)) ls

-- every line of the text says a row or nothing, and these are the rows
abbrev pub Says : List ℕ → List Row → Type 0
Says text rows = AllByRecursion Readable (lines text) × (rows ≡ rows_of (lines text))

-- the lines before this one, counted from 0, are readable, and this one says x
abbrev pub Reaches : List (List ℕ) → ℕ → Result (Option Row) Neither → Type 0
Reaches ls k x = (k < length ls) × AllByRecursion Readable (take k ls) × (said (slice_index_or ls k []) ≡ x)

-- why a text is refused: n is the number, from 1 on, of the first line that says neither a row nor nothing; or there is no memory for a row
abbrev pub Refuses : List ℕ → U.Unreadable → Type 0
Refuses text (u.Row n) = (k : ℕ) × (n ≡ suc k) × Reaches (lines text) k neither
Refuses text u.NoMemory = (k : ℕ) × (row : Row) × Reaches (lines text) k (Ok (Some row))
