use Rattle.std.proofs.Common.{◌≡◌, ◌+◌, ◌<◌, ◌≤◌, ℕ, List, [], length, pos, Some, sym, refl, ap, ◌∙◌, arith, w64, SFits, to_z, of_z, rules}
use Rattle.std.specs.Char.{is_ascii_digit}
use Rattle.std.specs.List.{prefix_len, slice_range}
use Rattle.std.specs.Option.{option_map}
use Rattle.std.proofs.lemmas.List.{drop_all, take_rest}
use Rattle.std.proofs.lemmas.Slice.{between_to_end}
use Rattle.std.proofs.lemmas.Int.{to_z-of_z}
use Rattle.model.specs.Bytes.{change_of, cut}
use Rattle.model.proofs.Numbers.{slope_alone, slope_no_constant, slope_no_change, slope_both, change_none}
use Rattle.text.specs.Lexer.{pair}
use Rattle.text.proofs.number.slope_of.Goals as goal

pub returns-in-Some : goal.returns-in-Some
returns-in-Some c =
    let fits : SFits w64 c.in-Some.slope = search rules in
    ap (λ z. Some (pos 0, z)) (to_z-of_z w64 _ fits) ∙ sym (slope_alone c.args.run.now _ (sym c.in-Some.ensures))

pub returns-in_err-get : goal.returns-in_err-get
returns-in_err-get c =
    let run = c.args.run.now in
    let empty : length run < 1 = search rules in
    ap (option_map pair) c.from_residual.ensures
    ∙ sym (slope_no_change run (cut run) (sym c.in_default.ensures) refl (ap change_of (drop_all (cut run) run (omega arith)) ∙ change_none [] (λ e. omega arith) (λ e. omega arith)))

-- where the constant ends
cut_is : (run rest : List ℕ) (k : ℕ) → 1 ≤ length run → rest ≡ slice_range run 1 (length run) → k ≡ prefix_len is_ascii_digit rest → 1 + k ≡ cut run
cut_is run rest k some is long = ap (λ n. 1 + n) (long ∙ ap (prefix_len is_ascii_digit) (is ∙ between_to_end run 1 (length run) (omega arith)))

pub returns-in_err-constant : goal.returns-in_err-constant
returns-in_err-constant c =
    let run = c.args.run.now in
    let rest = c.in_ok-get.ensures.lookup.0 in
    ap (option_map pair) c.from_residual-in_err-constant.ensures
    ∙ sym (slope_no_constant run (1 + c.digits_len-cut.result) (sym c.in_default.ensures) (cut_is run _ _ rest.0 rest.2 c.digits_len-cut.ensures.len) (sym c.in_err-constant.ensures))

pub returns-in_err-slope : goal.returns-in_err-slope
returns-in_err-slope c =
    let run = c.args.run.now in
    let rest = c.in_ok-get.ensures.lookup.0 in
    let n = 1 + c.digits_len-cut.result in
    ap (option_map pair) c.from_residual-in_err-slope.ensures
    ∙ sym (slope_no_change run n (sym c.in_default.ensures) (cut_is run _ _ rest.0 rest.2 c.digits_len-cut.ensures.len) (ap change_of (sym (take_rest run n)) ∙ sym c.in_err-slope.ensures))

pub returns : goal.returns
returns c =
    let run = c.args.run.now in
    let rest = c.in_ok-get.ensures.lookup.0 in
    let n = 1 + c.digits_len-cut.result in
    let fits-constant : SFits w64 c.in_ok-constant.constant = search rules in
    let fits-slope : SFits w64 c.in_ok-slope.slope = search rules in
    ap (λ a. Some (a, to_z w64 (of_z w64 c.in_ok-slope.slope))) (to_z-of_z w64 _ fits-constant)
    ∙ ap (λ z. Some (c.in_ok-constant.constant, z)) (to_z-of_z w64 _ fits-slope)
    ∙ sym (slope_both run n _ _ (sym c.in_default.ensures) (cut_is run _ _ rest.0 rest.2 c.digits_len-cut.ensures.len) (sym c.in_ok-constant.ensures) (ap change_of (sym (take_rest run n)) ∙ sym c.in_ok-slope.ensures))
