use Rattle.std.proofs.Common.{Bool, rules}
use Rattle.model.specs.Spelling.{text_of}
use Rattle.model.specs.Tables.{held}
use Rattle.model.specs.Unrolling.{unroll}
use Rattle.model.proofs.Unrolled.{unrolled_values}
use Rattle.writer.proofs.Parts.{part_says}
use Rattle.writer.proofs.flat.unroll.Goals as goal

pub returns : goal.returns
returns c =
    let p = c.args.part.now in
    let wrote = c.fill.ensures (text_of (unroll (held p.layout.table))) (λ s u q. search rules) in
    record { wrote = wrote; keeps = unrolled_values Bool; says = part_says p c.args.out.now c.fill.new.out c.fill.result wrote }
