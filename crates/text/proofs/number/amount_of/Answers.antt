use Rattle.std.proofs.Common.{sym, ap, ◌∙◌, arith}
use Rattle.std.specs.Option.{option_map}
use Rattle.model.specs.Bytes.{natural_of, minus}
use Rattle.model.proofs.Numbers.{amount_minus, amount_plain}
use Rattle.text.proofs.Numbers.{head_yes, head_no}
use Rattle.text.proofs.number.amount_of.Goals as goal

pub returns-in-Some : goal.returns-in-Some
returns-in-Some c =
    let run = c.args.run.now in
    c.negative.ensures ∙ ap (λ ds. option_map minus (natural_of ds)) c.in-Some.ensures.cases.1 ∙ sym (amount_minus run (head_yes run 45 c.in-Some.ensures.cases.0))

pub returns-in-None : goal.returns-in-None
returns-in-None c = c.positive.ensures ∙ sym (amount_plain c.args.run.now (head_no c.args.run.now 45 (omega arith) c.in-None.ensures.cases))
