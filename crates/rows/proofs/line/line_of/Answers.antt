use Rattle.std.proofs.Common.{◌≡◌, length, Some, None, sym, ap, ◌∙◌, arith}
use Rattle.std.proofs.lemmas.Option.{MatchOption-at_some, MatchOption-at_none}
use Rattle.std.proofs.lemmas.Result.{err_from_is_err_and}
use Rattle.rows.specs.Pieces.{words, before_comment}
use Rattle.rows.specs.Rows.{a_row, says}
use Rattle.rows.proofs.Words.{says_blank, says_neither, says_five}
use Rattle.rows.proofs.line.line_of.Goals as goal

pub returns-in_default : goal.returns-in_default
returns-in_default c =
    let text = c.before_comment-text.ensures ∙ ap before_comment c.without_return.ensures in
    let none : c.first_word.result ≡ None = grind arith in
    sym (ap (λ t. says (words t)) (sym text) ∙ says_blank _ (MatchOption-at_none _ _ none c.first_word.ensures))

pub returns-in_err-words : goal.returns-in_err-words
returns-in_err-words c =
    let text = c.before_comment-text.ensures ∙ ap before_comment c.without_return.ensures in
    let first = c.in-Some.ensures in
    let none : c.five_words.result ≡ None = grind arith in
    let err = err_from_is_err_and c.from_residual.result c.from_residual.ensures.1 in
    let not-four = MatchOption-at_none _ _ none c.five_words.ensures in
    let ws = words c.before_comment-text.result.now in
    err.1 ∙ sym (ap (λ t. says (words t)) (sym text) ∙ says_neither ws (omega (arith, ap length first)) (λ e. not-four (omega (arith, ap length first, e))))

pub returns-in_err-row : goal.returns-in_err-row
returns-in_err-row c =
    let text = c.before_comment-text.ensures ∙ ap before_comment c.without_return.ensures in
    let first = c.in-Some.ensures in
    let five : c.five_words.result ≡ Some c.in_ok-words.words = grind arith in
    let none : c.row_from.result ≡ None = grind arith in
    let err = err_from_is_err_and c.from_residual-in_err-row.result c.from_residual-in_err-row.ensures.1 in
    let ws = words c.before_comment-text.result.now in
    err.1 ∙ sym (ap (λ t. says (words t)) (sym text) ∙ says_five ws c.in_ok-words.words (first ∙ MatchOption-at_some _ _ _ five c.five_words.ensures) ∙ ap a_row (sym c.row_from.ensures ∙ none))

pub returns : goal.returns
returns c =
    let text = c.before_comment-text.ensures ∙ ap before_comment c.without_return.ensures in
    let first = c.in-Some.ensures in
    let five : c.five_words.result ≡ Some c.in_ok-words.words = grind arith in
    let row : c.row_from.result ≡ Some c.in_ok-row.row = grind arith in
    let ws = words c.before_comment-text.result.now in
    sym (ap (λ t. says (words t)) (sym text) ∙ says_five ws c.in_ok-words.words (first ∙ MatchOption-at_some _ _ _ five c.five_words.ensures) ∙ ap a_row (sym c.row_from.ensures ∙ row))
