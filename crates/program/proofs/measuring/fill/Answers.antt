use Rattle.std.proofs.Common.{ℕ, ◌+◌, ◌-◌, ◌^◌, ◌<◌, length, get_or, sym, refl, ap, ◌∙◌, subst, arith, rules}
use Rattle.std.proofs.lemmas.List.{drop_all}
use Rattle.model.specs.declared.node.Node.TheVariants.{Empty}
use Rattle.program.specs.Measures.{measures_of}
use Rattle.program.proofs.Fills.{Filled, filled_more}
use Rattle.program.proofs.measuring.fill.Goals as goal

pub loop-place-init : goal.loop-place-init
unfolding measures_of
loop-place-init c =
    let ns = c.args.nodes.now in
    let ms = c.args.measures.now in
    record {
      even = c.requires.even;
      told = drop_all (length ns) ms (omega arith) ∙ sym (ap measures_of (drop_all (length ns) ns (omega arith)));
      bounded = λ j above below. absurd (omega arith);
    }

pub loop-place-preserved : goal.loop-place-preserved
loop-place-preserved c =
    let ns = c.args.nodes.now in
    let ms = c.loop-place.measures in
    let place = c.loop-place.place - 1 in
    let P : ℕ → Type 0 = λ n. Filled ns ms n in
    let old : Filled ns ms (place + 1) = subst P (omega arith) c.loop-place.invariant in
    let short : length ms < 2 ^ 63 = search rules in
    filled_more ns ms place c.parts.result (get_or ns place Empty) Empty c.gather-parts.result c.told.result old (omega arith) short refl c.parts.ensures
    c.gather-parts.ensures c.told.ensures.value c.told.ensures.bound
