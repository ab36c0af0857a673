use Rattle.std.proofs.Common.{pos, Some, sym, ap, ◌∙◌, arith, w64, SFits, rules}
use Rattle.std.specs.Option.{option_map}
use Rattle.std.proofs.lemmas.Int.{to_z-of_z}
use Rattle.model.specs.Bytes.{slope_of}
use Rattle.model.proofs.Numbers.{number_index, number_plain}
use Rattle.text.specs.Lexer.{pair}
use Rattle.text.proofs.Numbers.{last_yes, last_no}
use Rattle.text.proofs.number.number_of.Goals as goal

pub returns-in-Some : goal.returns-in-Some
returns-in-Some c =
    let run = c.args.run.now in
    c.slope_of.ensures ∙ ap slope_of c.in-Some.ensures.cases.1 ∙ sym (number_index run (last_yes run 105 c.in-Some.ensures.cases.0))

pub returns-in_err-plain_of-in-None : goal.returns-in_err-plain_of-in-None
returns-in_err-plain_of-in-None c =
    let run = c.args.run.now in
    ap (option_map pair) c.from_residual.ensures ∙ sym (number_plain run (last_no run 105 (omega arith) c.in-None.ensures.cases) ∙ ap (option_map (λ a. (a, pos 0))) (sym c.in_err-plain_of-in-None.ensures))

pub returns-in_ok-plain_of-in-None : goal.returns-in_ok-plain_of-in-None
returns-in_ok-plain_of-in-None c =
    let run = c.args.run.now in
    let fits : SFits w64 c.in_ok-plain_of-in-None.field-0 = search rules in
    ap (λ z. Some (z, pos 0)) (to_z-of_z w64 _ fits) ∙ sym (number_plain run (last_no run 105 (omega arith) c.in-None.ensures.cases) ∙ ap (option_map (λ a. (a, pos 0))) (sym c.in_ok-plain_of-in-None.ensures))
