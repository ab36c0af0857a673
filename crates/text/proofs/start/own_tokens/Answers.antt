use Rattle.std.proofs.Common.{◌≤◌, arith}
use Rattle.text.specs.Starting.{most_own}
use Rattle.text.proofs.Walks.{own_most}
use Rattle.text.proofs.start.own_tokens.Goals as goal
use Rattle.text.proofs.start.own_tokens.Goals.{then-place-target, else-place-target, then-end-target, else-end-target}

pub overflow_add-result : goal.overflow_add-result
overflow_add-result c =
    let few = own_most c.args.node in
    let opening : c.if-place-target.opening ≤ most_own = elim c.if-place-target.branch [ then-place-target w ↦ omega (arith, w.opening_tokens-opening.ensures) | else-place-target w ↦ omega arith ] in
    let closing : c.if-end-target.closing ≤ most_own = elim c.if-end-target.branch [ then-end-target w ↦ omega (arith, w.closing_tokens-closing.ensures) | else-end-target w ↦ omega arith ] in
    omega arith
