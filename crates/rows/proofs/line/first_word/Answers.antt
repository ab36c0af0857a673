use Rattle.std.proofs.Common.{drop, sym, ap, ◌∙◌, arith}
use Rattle.std.proofs.lemmas.List.{take_rest}
use Rattle.std.proofs.lemmas.Bool.{eqb-true, eqb-false}
use Rattle.rows.proofs.Splits.{found, none_found}
use Rattle.rows.proofs.line.first_word.Goals as goal

pub returns-then-is_empty : goal.returns-then-is_empty
returns-then-is_empty c =
    let from = take_rest c.args.text.now c.blanks_len.result ∙ ap (λ n. drop n c.args.text.now) c.blanks_len.ensures.value in
    none_found c.args.text.now _ from (eqb-true _ 0 (sym c.if-is_empty.ensures))

pub returns : goal.returns
returns c =
    let from = take_rest c.args.text.now c.blanks_len.result ∙ ap (λ n. drop n c.args.text.now) c.blanks_len.ensures.value in
    let some = eqb-false _ 0 (sym c.if-is_empty.ensures) in
    found c.args.text.now _ from (omega arith) ∙ cc
