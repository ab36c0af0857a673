use Rattle.std.proofs.Common.{◌≡◌, ◌≤◌, ◌⊎◌, length, refl, arith, rules}
use Rattle.program.proofs.Gathers.{gather_none, gather_more}
use Rattle.program.proofs.measuring.+gather.Goals as goal

pub returns-then-count-eq0 : goal.returns-then-count-eq0
returns-then-count-eq0 t c =
    let why : (c.args.count ≡ 0) ⊎ (length c.args.measures.now ≤ c.args.from) = search rules in
    gather_none c.args.measures.now c.args.from c.args.count _ why c.requires.place refl refl refl refl

pub returns : goal.returns
returns t c =
    let here = c.requires.bounded c.args.from (omega arith) c.if-from-measures.false in
    gather_more c.args.measures.now c.args.from c.args.count c.gather-rest.result _ c.if-from-measures.false (omega arith) here.some c.gather-rest.ensures refl refl refl refl
