use Rattle.std.proofs.Common.{◌≡◌, ◌≤◌, vec_items, vec_len, refl, ◌∙◌, inl, arith, rules}
use Rattle.std.proofs.lemmas.List.{nil_from_length}
use Rattle.model.specs.declared.refusal.Refusal.TheVariants.{TooLarge}
use Rattle.model.specs.Grammar.{refused}
use Rattle.model.specs.Held.{program}
use Rattle.model.specs.Texts.{past_end, outcome}
use Rattle.model.proofs.Texts.{refuses, never, same_program, outcome_long, outcome_short}
use Rattle.model.proofs.Written.{read_small}
use Rattle.text.proofs.Loads.{loaded_in}
use Rattle.text.proofs.load.read.Goals as goal

pub returns-then-text-gt-MOST_BYTES : goal.returns-then-text-gt-MOST_BYTES
returns-then-text-gt-MOST_BYTES c =
    let text = c.args.text.now in
    let o : outcome text ≡ refused (TooLarge past_end) = outcome_long text c.if-text-gt-MOST_BYTES.true in
    record { outcome = o; reading = (inl (c.if-text-gt-MOST_BYTES.true, refl), λ e. never text (TooLarge past_end) e o, refl) }

pub read_program-requires : goal.read_program-requires
read_program-requires c = record { fresh = nil_from_length (vec_items c.args.table.now.spare.nodes) (omega (arith, c.args.table.now.fresh, c.args.table.now.spare.nodes.ok.0)) }

pub returns-in-Err : goal.returns-in-Err
returns-in-Err c =
    let text = c.args.text.now in
    let o : outcome text ≡ refused c.in-Err.refusal = outcome_short text c.if-text-gt-MOST_BYTES.false ∙ c.in-Err.ensures.goes in
    record { outcome = o; reading = (refuses text c.in-Err.refusal o, λ e. never text c.in-Err.refusal e o, refl) }

pub invariant_of-table-3 : goal.invariant_of-table-3
invariant_of-table-3 c =
    let l = loaded_in c.args.text.now _ _ _ c.swap.ensures.x_after c.in_default.ensures.read c.if-text-gt-MOST_BYTES.false c.in_default.ensures.goes in
    let few : vec_len c.swap.new.x ≤ 640 = omega (arith, l.few, c.swap.new.x.ok.0) in
    (search rules, (l.are_whole, (few, (search rules, (search rules, tt)))))

pub returns : goal.returns
returns c =
    let l = loaded_in c.args.text.now _ _ _ c.swap.ensures.x_after c.in_default.ensures.read c.if-text-gt-MOST_BYTES.false c.in_default.ensures.goes in
    record { outcome = l.outcome; reading = (l.accepted, read_small c.args.text.now (program (vec_items c.swap.new.x)) l.accepted, λ other e a. same_program other c.args.text.now e (program (vec_items c.swap.new.x)) a l.accepted) }
