use Rattle.std.proofs.Common.{◌≤◌, ◌-◌, ◌+◌, min, max, length, take, drop, sym, ap, ◌∙◌, arith, length-drop}
use Rattle.runzhivel.proofs.Cuts.{four, two_lengths, one_length}
use Rattle.runzhivel.proofs.excerpt.Excerpt.around.Goals as goal

pub returns : goal.returns
returns c =
    let text = c.args.text.now in
    let at = c.min-at.result in
    let within : at ≤ length text = omega (arith, c.min-at.ensures) in
    let from = at - c.shown_before.result in
    let to = at + c.shown_after.result in
    let early : from ≤ at = omega arith in
    let late : at ≤ to = omega arith in
    let end : to ≤ length text = omega (arith, c.shown_after.ensures, length-drop at text) in
    record {
      front = take from text;
      back = drop to text;
      parts = four text from at to early late;
      place = two_lengths text from at early within ∙ c.min-at.ensures;
      marks = c.max.ensures ∙ ap (λ n. max n 1) (c.min.ensures ∙ ap (min c.args.span.len) (sym (one_length text at to late end)));
    }
