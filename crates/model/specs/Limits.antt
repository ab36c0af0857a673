-- How large a text and its program may be. Assumes nothing.
use Rattle.std.specs.Prelude.{ℕ}

abbrev pub most_bytes : ℕ
most_bytes = 65536

abbrev pub most_nodes : ℕ
most_nodes = 640

-- the depth of the deepest program
abbrev pub most_levels : ℕ
most_levels = 256

-- the elements of the longest list
abbrev pub most_elements : ℕ
most_elements = 1000

-- the nodes of the largest unrolling
abbrev pub most_unrolled : ℕ
most_unrolled = 65536
