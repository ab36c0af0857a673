-- How many tokens stand before a node, counted along a table's nodes, and the next token of a lexer. Assumes nothing.
use Rattle.std.specs.Prelude.{◌≡◌, ℕ, ◌+◌, ◌-◌, cond, List, ◌++◌, length, drop, Some, None, Option, nat_le, nat_lt}
use Rattle.model.specs.declared.node.Node.{Node}
use Rattle.model.specs.declared.refusal.Span.{Span}
use Rattle.model.specs.Syntax.{Sort, Expr, Exprs, size, sizes}
use Rattle.model.specs.Nodes.{flatten, flattens}
use Rattle.model.specs.Tokens.{Token, opening, closing, tokens}
use Rattle.model.specs.Feed.{token}
use Rattle.model.specs.Spelling.{some_head}
use Rattle.model.specs.Starts.{before, befores, nth_span}
use Rattle.text.specs.declared.start.Walk.{Walk}
use Rattle.text.specs.declared.token.Lexer.{Lexer}
use Rattle.text.specs.Lexer.{ahead}

-- the number of tokens that stand before a node's parts
abbrev pub opening_count : Node → ℕ
opening_count n = length (opening (some_head n).1)

-- the number of tokens that stand after them
abbrev pub closing_count : Node → ℕ
closing_count n = length (closing (some_head n).1)

-- no node has more tokens of its own: a primitive has these
abbrev pub most_own : ℕ
most_own = 11

-- how many of its own tokens stand before the target, for a node at a place whose parts end at another
abbrev pub own_count : Node → ℕ → ℕ → ℕ → ℕ
own_count n place end target = cond (nat_lt place target) (opening_count n) 0 + cond (nat_le end target) (closing_count n) 0

-- the tokens of an expression before its node n, or all of them if it has no such node
abbrev pub passed : {s : Sort} → Expr s → ℕ → ℕ
passed e n = cond (nat_lt n (size e)) (before e n) (length (tokens e))

-- where the expression at a place ends, and how many of its tokens stand before the target
abbrev pub TermWalk : List Node → ℕ → ℕ → Walk → Type 0
TermWalk nodes place target r =
    (s : Sort) (e : Expr s) (rest : List Node) → drop place nodes ≡ flatten e ++ rest
    → (r.end ≡ place + size e) × (r.tokens ≡ passed e (target - place))

-- the same of so many expressions in a row
abbrev pub PartsWalk : List Node → ℕ → ℕ → ℕ → Walk → Type 0
PartsWalk nodes place n target r =
    (ss : List Sort) (es : Exprs ss) (rest : List Node) → length ss ≡ n → drop place nodes ≡ flattens es ++ rest
    → (r.end ≡ place + sizes es) × (r.tokens ≡ befores es (target - place))

-- the place of the next token, or no token is left
abbrev pub NextSpan : Lexer → Option Span → Lexer → Type 0
NextSpan a (Some s) b = (t : Token) × (ahead a ≡ token t s (ahead b))
NextSpan a None b = (n : ℕ) → nth_span (ahead a) n ≡ None
