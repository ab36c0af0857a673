use Rattle.writer.proofs.Puts.{puts_then}
use Rattle.writer.proofs.flat.put_placing.Goals as goal

pub returns : goal.returns
returns c = rw (← c.from.ensures) (puts_then (puts_then c.put_open.ensures (puts_then c.byte.ensures c.put_triple.ensures)) c.byte-2.ensures)
