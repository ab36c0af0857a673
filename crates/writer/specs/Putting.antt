-- What putting bytes into a buffer leaves there. Assumes nothing.
use Rattle.std.specs.Prelude.{◌≡◌, ℕ, ◌+◌, ◌-◌, ◌^◌, ◌<◌, ◌≤◌, min, List, ◌++◌, length, take, drop}
use Rattle.writer.specs.declared.sink.Sink.{Sink}

-- the bytes xs stand at byte i, and what lies before and after them is as it was
pub record Stand (i : ℕ) (xs old new : List ℕ) : Type 0 where
  pub front : take (i + length xs) new ≡ take i old ++ xs
  pub back : drop (i + length xs) new ≡ drop (i + length xs) old

-- the bytes xs were put at byte i, as far as the buffer goes, and e is the next place: bytes past the buffer's end are only counted
pub record Put (i : ℕ) (xs old : List ℕ) (e : ℕ) (new : List ℕ) : Type 0 where
  pub end : e ≡ min (i + length xs) (2 ^ 64 - 1)
  pub size : length new ≡ length old
  pub whole : i + length xs ≤ length old → length old < 2 ^ 63 → Stand i xs old new

-- the bytes xs were put into the sink s, which is t then, over the same buffer
pub record Puts (xs : List ℕ) (s t : Sink) : Type 0 where
  pub same : t.out.ghost_name ≡ s.out.ghost_name
  pub put : s.end < 2 ^ 64 → Put s.end xs s.out.now t.end t.out.now
