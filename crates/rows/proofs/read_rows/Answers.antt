use Rattle.std.proofs.Common.{◌≡◌, ◌+◌, ◌++◌, length, vec_items, Some, None, Ok, Err, sym, ap, ◌∙◌, append-nil, length-append, arith, rules}
use Rattle.std.specs.Iterator.Adapters.{enumerate_source, enumerate_count}
use Rattle.std.proofs.lemmas.Iterator.Consumers.{YieldsList-turn, YieldsList-end}
use Rattle.std.proofs.lemmas.List.FromFn.{length-enumerate_from}
use Rattle.rows.specs.declared.Unreadable.TheVariants as u
use Rattle.rows.specs.Rows.{neither}
use Rattle.rows.specs.Reading.{row_list, said}
use Rattle.rows.proofs.Chains.{parts_in}
use Rattle.rows.proofs.Turns.{turn, reached, done, met, says_row, says_nothing}
use Rattle.rows.proofs.read_rows.Goals as goal

pub returns-in_err-said : goal.returns-in_err-said
returns-in_err-said c =
    let e = parts_in c.args.bytes.now c.loop-i.i-iterator c.next.new.self c.next.result c.next.ensures.steps c.split.ensures.rest c.split.ensures.done c.split.ensures.closure (ap enumerate_source c.into_iter-i-iterator.ensures.into_iter_gives ∙ c.enumerate-i-items.ensures.source) (ap enumerate_count c.into_iter-i-iterator.ensures.into_iter_gives ∙ c.enumerate-i-items.ensures.count) (λ x b q k. search rules) in
    let here = met _ _ _ _ (YieldsList-turn e c.loop-i.yielded c.loop-i.i-iterator c.loop-i.yielded_by c.next.result c.next.new.self (c.in-Some.i, c.in-Some.line) c.in-Some.is c.next.ensures.steps) in
    let not : c.line_of.result ≡ neither = search rules in
    let why : c.from_residual.result ≡ Err (u.Row (c.in-Some.i + 1)) = search rules in
    rw why (length c.loop-i.yielded, omega (arith, here.number), reached _ _ _ _ here.within c.loop-i.invariant.2 (ap said (sym here.part) ∙ sym c.line_of.ensures ∙ not) (λ z. grind (arith, z)))

pub loop-i-preserved-in-Continue-branch-2 : goal.loop-i-preserved-in-Continue-branch-2
loop-i-preserved-in-Continue-branch-2 c =
    let e = parts_in c.args.bytes.now c.loop-i.i-iterator c.next.new.self c.next.result c.next.ensures.steps c.split.ensures.rest c.split.ensures.done c.split.ensures.closure (ap enumerate_source c.into_iter-i-iterator.ensures.into_iter_gives ∙ c.enumerate-i-items.ensures.source) (ap enumerate_count c.into_iter-i-iterator.ensures.into_iter_gives ∙ c.enumerate-i-items.ensures.count) (λ x b q k. search rules) in
    let here = met _ _ _ _ (YieldsList-turn e c.loop-i.yielded c.loop-i.i-iterator c.loop-i.yielded_by c.next.result c.next.new.self (c.in-Some.i, c.in-Some.line) c.in-Some.is c.next.ensures.steps) in
    let is : c.line_of.result ≡ Ok (Some c.in-Some-said.row) = search rules in
    let pushed = c.in_ok-push.ensures.items ∙ ap (λ x. vec_items c.loop-i.rows ++ row_list x) (sym is ∙ c.line_of.ensures) in
    let more = turn _ _ _ _ _ _ here.within (length-append c.loop-i.yielded _) here.part c.loop-i.invariant.2 (says_row c.in-Some.line.now c.in-Some-said.row (sym c.line_of.ensures ∙ is)) pushed in
    (search rules, tt, more)

pub returns-in_err-push : goal.returns-in_err-push
returns-in_err-push c =
    let e = parts_in c.args.bytes.now c.loop-i.i-iterator c.next.new.self c.next.result c.next.ensures.steps c.split.ensures.rest c.split.ensures.done c.split.ensures.closure (ap enumerate_source c.into_iter-i-iterator.ensures.into_iter_gives ∙ c.enumerate-i-items.ensures.source) (ap enumerate_count c.into_iter-i-iterator.ensures.into_iter_gives ∙ c.enumerate-i-items.ensures.count) (λ x b q k. search rules) in
    let here = met _ _ _ _ (YieldsList-turn e c.loop-i.yielded c.loop-i.i-iterator c.loop-i.yielded_by c.next.result c.next.new.self (c.in-Some.i, c.in-Some.line) c.in-Some.is c.next.ensures.steps) in
    let is : c.line_of.result ≡ Ok (Some c.in-Some-said.row) = search rules in
    let why : c.from_residual-in_err-push.result ≡ Err u.NoMemory = search rules in
    rw why (length c.loop-i.yielded, c.in-Some-said.row, reached _ _ _ _ here.within c.loop-i.invariant.2 (ap said (sym here.part) ∙ sym c.line_of.ensures ∙ is) (λ z. grind (arith, z)))

pub loop-i-preserved : goal.loop-i-preserved
loop-i-preserved c =
    let e = parts_in c.args.bytes.now c.loop-i.i-iterator c.next.new.self c.next.result c.next.ensures.steps c.split.ensures.rest c.split.ensures.done c.split.ensures.closure (ap enumerate_source c.into_iter-i-iterator.ensures.into_iter_gives ∙ c.enumerate-i-items.ensures.source) (ap enumerate_count c.into_iter-i-iterator.ensures.into_iter_gives ∙ c.enumerate-i-items.ensures.count) (λ x b q k. search rules) in
    let here = met _ _ _ _ (YieldsList-turn e c.loop-i.yielded c.loop-i.i-iterator c.loop-i.yielded_by c.next.result c.next.new.self (c.in-Some.i, c.in-Some.line) c.in-Some.is c.next.ensures.steps) in
    let is : c.line_of.result ≡ Ok None = search rules in
    let same = sym (append-nil (vec_items c.loop-i.rows)) ∙ ap (λ x. vec_items c.loop-i.rows ++ row_list x) (sym is ∙ c.line_of.ensures) in
    let more = turn _ _ _ _ _ _ here.within (length-append c.loop-i.yielded _) here.part c.loop-i.invariant.2 (says_nothing c.in-Some.line.now (sym c.line_of.ensures ∙ is)) same in
    (search rules, tt, more)

pub returns : goal.returns
returns c =
    let e = parts_in c.args.bytes.now c.loop-i.i-iterator c.next.new.self c.next.result c.next.ensures.steps c.split.ensures.rest c.split.ensures.done c.split.ensures.closure (ap enumerate_source c.into_iter-i-iterator.ensures.into_iter_gives ∙ c.enumerate-i-items.ensures.source) (ap enumerate_count c.into_iter-i-iterator.ensures.into_iter_gives ∙ c.enumerate-i-items.ensures.count) (λ x b q k. search rules) in
    let all = YieldsList-end e c.loop-i.yielded c.loop-i.i-iterator c.loop-i.yielded_by c.next.result c.next.new.self c.in-None.is c.next.ensures.steps in
    done _ _ _ c.loop-i.invariant.2 (all.1 ∙ length-enumerate_from 0 _)
