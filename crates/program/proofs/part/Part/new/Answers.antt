use Rattle.std.proofs.Common.{sym, subst}
use Rattle.program.proofs.Roots.{Sound, empty_sound}
use Rattle.program.proofs.part.Part.new.Goals as goal

pub invariant_of-result : goal.invariant_of-result
invariant_of-result c =
    let s = subst Sound (sym c.in_ok-layout.ensures) empty_sound in
    record { orderless = s.orderless; counted = s.counted; small = s.small; tame = s.tamed }
