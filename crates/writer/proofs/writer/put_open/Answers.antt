use Rattle.std.proofs.Common.{ap, ◌∷◌}
use Rattle.writer.proofs.Puts.{puts_then, puts_as}
use Rattle.writer.proofs.writer.put_open.Goals as goal

pub returns : goal.returns
returns c = puts_as (ap (λ l. 40 ∷ l) c.spelling.ensures) (puts_then c.byte.ensures c.bytes.ensures)
