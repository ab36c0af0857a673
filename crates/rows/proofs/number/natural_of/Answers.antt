use Rattle.std.proofs.Common.{pos, Some, sym, ap, ◌∙◌, w64, arith}
use Rattle.std.specs.Option.{option_map}
use Rattle.std.proofs.lemmas.Int.{to_z_pos}
use Rattle.rows.proofs.Naturals.{natural_yes, natural_no}
use Rattle.rows.proofs.number.natural_of.Goals as goal

pub returns-then-not-is_natural : goal.returns-then-not-is_natural
returns-then-not-is_natural c = ap (option_map pos) (sym (natural_no c.args.word.now (sym c.is_natural.ensures ∙ c.if-not-is_natural.true)))

pub returns : goal.returns
returns c =
    let small = c.value_of.ensures.small in
    let natural = sym c.is_natural.ensures ∙ c.if-not-is_natural.false in
    ap Some (to_z_pos w64 c.value_of.result (omega arith) ∙ ap pos c.value_of.ensures.value) ∙ ap (option_map pos) (sym (natural_yes c.args.word.now natural))
