use Rattle.std.proofs.Common.{length, get_or, ap, ◌∙◌, arith}
use Rattle.program.specs.Measures.{nothing}
use Rattle.program.proofs.Roots.{some_told, part_unrolled}
use Rattle.program.proofs.part.Part.unrolled.Goals as goal

pub overflow_cast-result : goal.overflow_cast-result
overflow_cast-result c = omega (arith, ap (λ ms. (get_or ms 0 nothing).unrolled) c.as_slice-measures.ensures.value, part_unrolled c.args.self.now, c.args.self.now.small)

pub returns : goal.returns
returns c = ap (λ ms. (get_or ms 0 nothing).unrolled) c.as_slice-measures.ensures.value ∙ part_unrolled c.args.self.now

pub bounds-measures-0 : goal.bounds-measures-0
bounds-measures-0 c = omega (arith, ap length c.as_slice-measures.ensures.value, some_told c.args.self.now.layout)
