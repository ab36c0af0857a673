use Rattle.std.proofs.Common.{◌∷◌, [], ◌++◌, ap, ◌∙◌, w64, SFits, rules}
use Rattle.std.specs.Fmt.{signed_decimal}
use Rattle.std.proofs.lemmas.Int.{to_z-of_z}
use Rattle.model.specs.Bytes.{change}
use Rattle.writer.proofs.Puts.{puts_then, puts_as}
use Rattle.writer.proofs.Signs.{numeral_plain, numeral_slope, numeral_both}
use Rattle.writer.proofs.sink.Sink.number.Goals as goal
use Rattle.writer.proofs.sink.Sink.number.Goals.{then-n-eq0-2, else-n-eq0-2}

pub returns-then-n-eq0 : goal.returns-then-n-eq0
returns-then-n-eq0 c =
    let a = c.args.n.constant in
    let s = c.args.n.slope in
    let fits : SFits w64 a = search rules in
    let small : SFits w64 s = search rules in
    puts_as (ap signed_decimal (to_z-of_z w64 a fits) ∙ numeral_plain a s small c.if-n-eq0.true) c.integer.ensures

pub returns : goal.returns
returns c =
    let a = c.args.n.constant in
    let s = c.args.n.slope in
    let fits : SFits w64 a = search rules in
    let small : SFits w64 s = search rules in
    let b = to_z-of_z w64 a fits in
    let t = to_z-of_z w64 s small in
    elim c.if-n-eq0-2.branch [
      | then-n-eq0-2 w ↦
          puts_as (ap (λ x. signed_decimal x ++ (105 ∷ [])) t ∙ numeral_slope a s fits c.if-n-eq0.false w.if-n-eq0-2.true)
          (puts_then w.integer-then-n-eq0-2.ensures (rw (← w.self-is) c.byte.ensures))
      | else-n-eq0-2 w ↦
          puts_as ((λ i. (signed_decimal (b i) ++ change (t i)) ++ (105 ∷ [])) ∙ numeral_both a s c.if-n-eq0.false w.if-n-eq0-2.false)
          (puts_then (puts_then w.integer-else-n-eq0-2.ensures w.change.ensures) (rw (← w.self-is) c.byte.ensures))
    ]
