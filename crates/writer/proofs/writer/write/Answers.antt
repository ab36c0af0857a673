use Rattle.std.proofs.Common.{rules}
use Rattle.model.specs.Syntax.{one, solid}
use Rattle.model.specs.Spelling.{text_of}
use Rattle.model.specs.Tables.{held}
use Rattle.model.proofs.Spelled.{text_length}
use Rattle.writer.proofs.Tables.{held_short, held_reads}
use Rattle.writer.proofs.writer.write.Goals as goal

pub returns : goal.returns
returns c =
    let t = c.args.table.now in
    let wrote = c.fill.ensures (text_of (held t)) (λ s u p. search rules) in
    record {
      wrote = wrote;
      measure = text_length (one solid) (held t);
      short = held_short t;
      reads_back = held_reads t c.args.out.now c.fill.new.out c.fill.result wrote;
    }
