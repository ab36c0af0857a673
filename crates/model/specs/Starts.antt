-- Where in a text a node begins: nodes are numbered from 0 in reading order. Assumes nothing.
use Rattle.std.specs.Prelude.{ℕ, zero, suc, ◌+◌, ◌-◌, cond, List, length, Some, None, Option, nat_lt}
use Rattle.model.specs.declared.refusal.Span.{Span}
use Rattle.model.specs.Syntax.{Sort, Expr, Exprs, node, none, more, Solid, size}
use Rattle.model.specs.Tokens.{opening, tokens}
use Rattle.model.specs.Feed.{Feed, token, bad, end}
use Rattle.model.specs.Texts.{feed_of}

-- how many tokens of an expression stand before its node n, which is one of its nodes
unfoldable mutual
  pub before : {s : Sort} → Expr s → ℕ → ℕ
  before (node h es) zero = 0
  before (node h es) (suc n) = length (opening h) + befores es n

  -- the same of expressions in a row
  pub befores : {ss : List Sort} → Exprs ss → ℕ → ℕ
  befores none n = 0
  befores (more e es) n = cond (nat_lt n (size e)) (before e n) (length (tokens e) + befores es (n - size e))

-- the part of the text where token n stands, if there is one
abbrev pub nth_span : Feed → ℕ → Option Span
nth_span (token t s f) zero = Some s
nth_span (token t s f) (suc n) = nth_span f n
nth_span (bad s) n = None
nth_span (end b) n = None

-- the first token of node n of a program that the text says
abbrev pub first_token : List ℕ → Solid → ℕ → Option Span
first_token text e n = cond (nat_lt n (size e)) (nth_span (feed_of text) (before e n)) None
