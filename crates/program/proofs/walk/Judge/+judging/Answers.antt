use Rattle.std.proofs.Common.{◌≡◌, ◌+◌, ◌≤◌, true, false, ◌⊎◌, vec_len, Err, sym, subst, inl, inr, arith, rules}
use Rattle.program.specs.Judging.{Counted, PartsJudged}
use Rattle.program.proofs.Layouts.{stands_at}
use Rattle.program.proofs.Walks.{Tested, term_broken, term_parts, parts_none, parts_broken, parts_more}
use Rattle.program.proofs.walk.Judge.+judging.Goals as goal
use Rattle.program.proofs.walk.Judge.+judging.Goals.{parts-then-count-eq0-via-then-count-eq0, parts-then-count-eq0-via-else-count-eq0+then-place-len}

pub parts-returns-then-count-eq0-clause-judged : goal.parts-returns-then-count-eq0-clause-judged
parts-returns-then-count-eq0-clause-judged g t c =
    let j = c.args.self.now in
    let why : (c.args.count ≡ 0) ⊎ (vec_len j.layout.now.table.nodes ≤ c.args.place) =
    elim c.then-count-eq0.branch [
      | parts-then-count-eq0-via-then-count-eq0 w ↦ inl w.if-count-eq0.true
      | parts-then-count-eq0-via-else-count-eq0+then-place-len w ↦ inr (omega (arith, w.if-place-len.true, w.len.ensures))
    ] in
    parts_none (g.F.Family.meaning j.family.now) j.law j.layout.now c.args.place c.args.count c.args.context why

pub parts-returns-in_err-next-clause-judged : goal.parts-returns-in_err-next-clause-judged
parts-returns-in_err-next-clause-judged g t c =
    let j = c.args.self.now in
    let n = c.in_err-next.field-0.0 in
    let broken : c.from_residual.result ≡ Err n = search rules in
    let p = parts_broken (g.F.Family.meaning j.family.now) j.law j.layout.now c.args.place c.args.count n c.args.context (λ z. omega arith) c.in_err-next.ensures.judged in
    subst (PartsJudged (g.F.Family.meaning j.family.now) j.law j.layout.now c.args.place c.args.count c.args.context) (sym broken) p

pub parts-returns-clause-judged : goal.parts-returns-clause-judged
parts-returns-clause-judged g t c =
    let j = c.args.self.now in
    parts_more (g.F.Family.meaning j.family.now) j.law j.layout.now c.args.place c.args.count c.in_ok-next.next c.args.context c.parts.result (λ z. omega arith) c.in_ok-next.ensures.judged c.parts.ensures.judged

pub term-returns-then-breaks-clause-judged : goal.term-returns-then-breaks-clause-judged
term-returns-then-breaks-clause-judged g t c =
    let j = c.args.self.now in
    let n = c.index-node.result.now in
    let test : Tested (g.F.Family.meaning j.family.now) j.law j.layout.now c.args.place c.args.context n true = λ cs k p. c.if-breaks.ensures cs (subst (λ x. Counted x n cs) (sym c.counts_at.ensures) k) p in
    term_broken (g.F.Family.meaning j.family.now) j.law j.layout.now c.args.place c.args.context n (stands_at j.layout.now c.args.place n c.requires c.index-node.ensures) test

pub term-returns-clause-judged : goal.term-returns-clause-judged
term-returns-clause-judged g t c =
    let j = c.args.self.now in
    let n = c.index-node.result.now in
    let test : Tested (g.F.Family.meaning j.family.now) j.law j.layout.now c.args.place c.args.context n false = λ cs k p. c.if-breaks.ensures cs (subst (λ x. Counted x n cs) (sym c.counts_at.ensures) k) p in
    let inner = subst (λ x. PartsJudged (g.F.Family.meaning j.family.now) j.law j.layout.now (c.args.place + 1) c.parts.result x c.parts-2.result) c.below.ensures c.parts-2.ensures.judged in
    term_parts (g.F.Family.meaning j.family.now) j.law j.layout.now c.args.place c.args.context n c.parts.result c.parts-2.result (stands_at j.layout.now c.args.place n c.requires c.index-node.ensures) test c.parts.ensures inner
