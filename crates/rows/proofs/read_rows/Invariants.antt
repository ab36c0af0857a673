use Rattle.std.proofs.Common.{eqb, length, vec_items}
use Rattle.std.specs.List.{slice_split}
use Rattle.rows.proofs.Turns.{ReadsTo}
use Rattle.rows.proofs.read_rows.Given as goal

abbrev pub invariant-loop-i : goal.invariant-loop-i
invariant-loop-i l =
    (goal.iterator-loop-i).can_next l.i-iterator × (goal.iterator-loop-i).is_finite l.i-iterator × ReadsTo (slice_split (λ b. eqb b 10) l.bytes) (length l.yielded) (vec_items l.rows)
