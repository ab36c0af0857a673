use Rattle.std.proofs.Common.{pos, sym, ap, ◌∙◌, arith}
use Rattle.std.specs.Option.{option_map}
use Rattle.model.specs.Bytes.{natural_of, minus}
use Rattle.model.proofs.Numbers.{change_plus, change_minus, change_none}
use Rattle.text.proofs.Numbers.{head_yes, head_no}
use Rattle.text.proofs.number.change_of.Goals as goal

pub returns-in-Some : goal.returns-in-Some
returns-in-Some c =
    let run = c.args.run.now in
    c.positive.ensures ∙ ap (λ ds. option_map pos (natural_of ds)) c.in-Some.ensures.cases.1 ∙ sym (change_plus run (head_yes run 43 c.in-Some.ensures.cases.0))

pub returns-in_err-strip_prefix-in-None : goal.returns-in_err-strip_prefix-in-None
returns-in_err-strip_prefix-in-None c =
    let run = c.args.run.now in
    c.from_residual.ensures ∙ sym (change_none run (head_no run 43 (omega arith) c.in-None.ensures.cases) (head_no run 45 (omega arith) c.in_err-strip_prefix-in-None.ensures.cases))

pub returns-in_ok-strip_prefix-in-None : goal.returns-in_ok-strip_prefix-in-None
returns-in_ok-strip_prefix-in-None c =
    let run = c.args.run.now in
    let cases = c.in_ok-strip_prefix-in-None.ensures.cases in
    c.negative.ensures ∙ ap (λ ds. option_map minus (natural_of ds)) cases.1 ∙ sym (change_minus run (head_yes run 45 cases.0))
