use Rattle.std.proofs.Common.{◌≡◌, ◌+◌, ℕ, List, length, refl, ap, ◌∙◌, arith}
use Rattle.std.specs.List.{prefix_len, slice_range}
use Rattle.std.proofs.lemmas.Result.{err_from_is_err_and}
use Rattle.std.proofs.lemmas.Slice.{between_to_end}
use Rattle.model.specs.Bytes.{is_sep}
use Rattle.model.specs.Lexing.{fed, feed, past_seps}
use Rattle.model.proofs.Feeds.{got_ahead, feed_end, feed_token}
use Rattle.text.proofs.token.Lexer.next.Goals as goal

-- the first byte that is no separator
past : (t : List ℕ) (i n : ℕ) → n ≡ prefix_len is_sep (slice_range t i (length t)) → i + n ≡ past_seps t i
past t i n e = ap (λ k. i + k) (e ∙ ap (prefix_len is_sep) (between_to_end t i (length t) (omega arith)))

pub returns-then-self-text-clause-nexts : goal.returns-then-self-text-clause-nexts
returns-then-self-text-clause-nexts c =
    let l = c.args.self.now in
    feed_end l.text.now l.at _ (past l.text.now l.at c.separators_len.result c.separators_len.ensures.len) (omega arith)

pub returns-in_err-token-clause-nexts : goal.returns-in_err-token-clause-nexts
returns-in_err-token-clause-nexts c =
    let l = c.args.self.now in
    let bad = c.in_err-token.ensures in
    let p = err_from_is_err_and c.from_residual.result c.from_residual.ensures.1 in
    let first = feed_token l.text.now l.at _ (past l.text.now l.at c.separators_len.result c.separators_len.ensures.len) (omega arith) in
    rw (p.1, p.2) (bad.0, bad.1, first ∙ ap (λ x. fed x (feed l.text.now)) bad.2)

pub overflow_add-self-2 : goal.overflow_add-self-2
overflow_add-self-2 c =
    let m = got_ahead c.args.self.now.text.now (c.args.self.now.at + c.separators_len.result) _ _ c.in_ok-token.token.span (omega arith) c.in_ok-token.ensures refl in
    omega (arith, m.1)

pub invariant_of-self-2 : goal.invariant_of-self-2
invariant_of-self-2 c =
    let m = got_ahead c.args.self.now.text.now (c.args.self.now.at + c.separators_len.result) _ _ c.in_ok-token.token.span (omega arith) c.in_ok-token.ensures refl in
    record { within = m.1; short = c.args.self.now.short }

pub returns-clause-nexts : goal.returns-clause-nexts
returns-clause-nexts c =
    let l = c.args.self.now in
    let s = l.at + c.separators_len.result in
    let m = got_ahead l.text.now s _ _ c.in_ok-token.token.span (omega arith) c.in_ok-token.ensures refl in
    let first = feed_token l.text.now l.at s (past l.text.now l.at c.separators_len.result c.separators_len.ensures.len) (omega arith) in
    (first ∙ ap (λ x. fed x (feed l.text.now)) c.in_ok-token.ensures, omega (arith, m.0))
