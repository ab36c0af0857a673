use Rattle.writer.proofs.Puts.{puts_then}
use Rattle.writer.proofs.writer.put_bracket.Goals as goal

pub returns : goal.returns
returns c =
    rw c.axes.ensures at (puts_then c.byte.ensures (puts_then c.number.ensures (puts_then c.byte-2.ensures (puts_then c.number-2.ensures (puts_then c.byte-3.ensures (puts_then c.number-3.ensures c.byte-4.ensures))))))
