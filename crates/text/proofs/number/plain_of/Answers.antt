use Rattle.std.proofs.Common.{rules}
use Rattle.std.proofs.lemmas.Slice.Eq.{slice_eq-Decides, bytes_eq-Decides}
use Rattle.std.proofs.lemmas.Bool.Decides.{Decides-eqb}
use Rattle.model.specs.Bytes.{plain_of}
use Rattle.text.proofs.number.plain_of.Goals as goal

pub returns-then-eq : goal.returns-then-eq
unfolding plain_of
returns-then-eq c = let d = slice_eq-Decides Decides-eqb c.args.run.now c.as_slice.result.now _ c.eq.ensures in search (rules, bytes_eq-Decides)

pub returns-else-eq : goal.returns-else-eq
unfolding plain_of
returns-else-eq c = let d = slice_eq-Decides Decides-eqb c.args.run.now c.as_slice.result.now _ c.eq.ensures in search (rules, bytes_eq-Decides)
