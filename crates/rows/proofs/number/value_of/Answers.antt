use Rattle.std.proofs.Common.{rules, ℕ, length, map, refl, [], ◌∷◌, Some, sym, subst}
use denote.Ref.{Bor}
use Rattle.std.proofs.lemmas.List.{map-append}
use Rattle.std.proofs.lemmas.Iterator.{YieldsList-from_slice}
use Rattle.std.proofs.lemmas.Iterator.Consumers.{YieldsList-so_far, YieldsList-turn}
use Rattle.std.proofs.lemmas.Fn.{fronts, serves_by, fold_over}
use Rattle.rows.proofs.Naturals.{Reads, reads_more, Room, room, natural_read}
use Rattle.rows.proofs.number.value_of.Goals as goal

abbrev now : Bor ℕ → ℕ
now y = y.now

pub fold-requires-clause-callable : goal.fold-requires-clause-callable
fold-requires-clause-callable c =
    let digits = c.args.digits.now in
    let chain = YieldsList-from_slice {s = c.iter.result} digits (cc) in
    serves_by _ (λ xs q. Reads (map now xs) q.1)
    (λ xs q x v so_far k. subst (λ ys. Reads ys v.1) (sym (map-append now xs (x ∷ []))) (reads_more (map now xs) q.1 x.now v.1 so_far (search rules)))
    (fronts {A = ℕ}) _ c.iter.result _ (λ _. refl)
    (λ xs t q x u yields step so_far.
    let at = YieldsList-turn chain xs t yields (Some x) u x refl step in
    let h : Room q.1 x.now = subst (Room q.1) (sym at.1) (room digits (length xs) q.1 x.now c.requires at.0 (subst (λ ys. Reads ys q.1) (YieldsList-so_far chain xs t yields) so_far)) in
    let few = h.few in
    let digit = h.digit in
    search rules)

pub returns : goal.returns
returns c =
    let digits = c.args.digits.now in
    let chain = YieldsList-from_slice {s = c.iter.result} digits (cc) in
    let all = fold_over (fronts {A = ℕ}) now _ Reads _ (λ ys n x m q so_far k. (reads_more ys n x.now m so_far (search rules), search rules)) c.iter.result digits 0 c.fold.result chain.runs (λ _. refl) c.fold.ensures.ran in
    let is = natural_read digits c.fold.result c.requires all in
    record { value = is.0; small = is.1 }
