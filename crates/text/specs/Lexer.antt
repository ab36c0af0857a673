-- What the lexer's answers say of a text's tokens. Assumes nothing.
use Rattle.std.specs.Prelude.{◌≡◌, ◌<◌, ℤ, Some, None, Ok, Err, Option, Result}
use Rattle.model.specs.declared.refusal.Span.{Span}
use Rattle.model.specs.declared.refusal.Refusal.{Refusal}
use Rattle.model.specs.declared.refusal.Refusal.TheVariants.{NoToken}
use Rattle.model.specs.declared.numeral.Numeral.{Numeral}
use Rattle.model.specs.Feed.{Feed, token, bad, end}
use Rattle.model.specs.Lexing.{Step, got, feed}
use Rattle.model.specs.Lexing as L
use Rattle.model.specs.Tokens as T
use Rattle.text.specs.declared.token.TokenKind.{TokenKind}
use Rattle.text.specs.declared.token.TokenKind.TheVariants.{Word, Number, Mark}
use Rattle.text.specs.declared.token.Token.{Token}
use Rattle.text.specs.declared.token.Lexer.{Lexer}

-- a number's constant and slope
abbrev pub pair : Numeral → ℤ × ℤ
pair n = (n.constant, n.slope)

-- what a token says
abbrev pub spoken : TokenKind → T.Token
spoken (Word x) = T.word x
spoken (Number n) = T.number n.constant n.slope
spoken (Mark m) = T.mark m

-- a token, without its place
abbrev pub token_of : Token → T.Token
token_of t = spoken t.kind

-- a token or a refusal that tells what stands at a byte
abbrev pub Tells : Step → Result Token Refusal → Type 0
Tells x (Ok t) = x ≡ got (token_of t) t.span
Tells x (Err f) = (s : Span) × (f ≡ NoToken s) × (x ≡ L.bad s)

-- the tokens that a lexer has yet to give
abbrev pub ahead : Lexer → Feed
ahead l = feed l.text.now l.at

-- what one call of `next` does
abbrev pub Nexts : Lexer → Result (Option Token) Refusal → Lexer → Type 0
Nexts a (Ok (Some t)) b = (ahead a ≡ token (token_of t) t.span (ahead b)) × (a.at < b.at)
Nexts a (Ok None) b = ahead a ≡ end b.at
Nexts a (Err f) b = (s : Span) × (f ≡ NoToken s) × (ahead a ≡ bad s)
