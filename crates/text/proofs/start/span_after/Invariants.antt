use Rattle.std.proofs.Common.{◌≡◌, ◌-◌}
use Rattle.model.specs.Texts.{feed_of}
use Rattle.model.specs.Starts.{nth_span}
use Rattle.text.specs.Lexer.{ahead}
use Rattle.text.proofs.start.span_after.Given as goal

-- the token looked for stands among those that are left
abbrev pub invariant-loop : goal.invariant-loop
invariant-loop l = nth_span (ahead l.src) (l.count - l.counter) ≡ nth_span (feed_of l.text) l.count
