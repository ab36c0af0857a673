use Rattle.std.proofs.Common.{◌≡◌, ◌∷◌, nat_abs, decimal, sym, ap, ◌∙◌, w64, to_z, of_z}
use Rattle.std.proofs.lemmas.Int.{to_z-of_z}
use Rattle.model.specs.Bytes.{change}
use Rattle.writer.proofs.Puts.{puts_then, puts_as}
use Rattle.writer.proofs.Signs.{change_from_zero, change_below_zero}
use Rattle.writer.proofs.sink.Sink.change.Goals as goal
use Rattle.writer.proofs.sink.Sink.change.Goals.{then-slope-lt0, else-slope-lt0}

pub returns : goal.returns
returns c =
    let bits = to_z w64 (of_z w64 c.args.slope) in
    let digits = decimal (nat_abs bits) in
    let spelt : (c.if-slope-lt0.sign ∷ digits) ≡ change bits =
    elim c.if-slope-lt0.branch [
      | then-slope-lt0 w ↦ ap (λ b. b ∷ digits) w.sign-is ∙ sym (change_below_zero bits w.if-slope-lt0.true)
      | else-slope-lt0 w ↦ ap (λ b. b ∷ digits) w.sign-is ∙ sym (change_from_zero bits w.if-slope-lt0.false)
    ] in
    puts_as (ap (λ n. c.if-slope-lt0.sign ∷ decimal n) c.unsigned_abs.ensures.value ∙ spelt ∙ ap change (to_z-of_z w64 c.args.slope c.ranges.slope))
    (puts_then c.byte.ensures c.integer.ensures)
