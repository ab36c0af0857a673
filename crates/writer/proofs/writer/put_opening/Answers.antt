use Rattle.std.proofs.Common.{◌++◌, codes, sym, ap, ◌∙◌, append-nil, w64, SFits, rules}
use Rattle.std.proofs.lemmas.Int.{to_z-of_z}
use Rattle.model.specs.declared.node.Node.TheVariants as v
use Rattle.model.specs.Spelling.{opening_text}
use Rattle.model.specs.Bytes.{spelling}
use Rattle.writer.proofs.Puts.{puts_then, puts_as}
use Rattle.writer.proofs.writer.put_opening.Goals as goal

pub returns-in-Empty : goal.returns-in-Empty
returns-in-Empty c = rw c.in-Empty.is c.bytes.ensures

pub returns-in-Primitive : goal.returns-in-Primitive
returns-in-Primitive c =
    let k = c.in-Primitive.kind in
    let fits : SFits w64 k = search rules in
    rw c.in-Primitive.is (puts_as (ap (λ x. opening_text (v.Primitive x c.in-Primitive.size)) (to_z-of_z w64 k fits))
    (puts_then c.bytes-in-Primitive.ensures (puts_then c.integer.ensures (puts_then c.byte.ensures c.put_bracket.ensures))))

pub returns-in-Place : goal.returns-in-Place
returns-in-Place c = rw (c.in-Place.is, ← c.from.ensures) (puts_then c.put_open.ensures (puts_then c.byte-in-Place.ensures c.put_bracket-in-Place.ensures))

pub returns-in-Join : goal.returns-in-Join
returns-in-Join c = rw (c.in-Join.is, ← c.from-in-Join.ensures) (puts_as (sym (append-nil _)) c.put_open-in-Join.ensures)

pub returns-in-Fold : goal.returns-in-Fold
returns-in-Fold c = rw c.in-Fold.is c.bytes-in-Fold.ensures

pub returns-in-Vector : goal.returns-in-Vector
returns-in-Vector c = rw c.in-Vector.is c.put_bracket-in-Vector.ensures

pub returns-in-List : goal.returns-in-List
returns-in-List c = rw c.in-List.is c.bytes-in-List.ensures

pub returns-in-Repeat : goal.returns-in-Repeat
returns-in-Repeat c =
    let n = c.in-Repeat.n in
    let fits : SFits w64 n = search rules in
    rw c.in-Repeat.is (puts_as (ap (λ l. codes "(Repeat " ++ l) (sym (append-nil _)) ∙ ap (λ x. opening_text (v.Repeat x)) (to_z-of_z w64 n fits)) (puts_then c.bytes-in-Repeat.ensures c.integer-in-Repeat.ensures))

pub returns-in-Tabulate : goal.returns-in-Tabulate
returns-in-Tabulate c =
    let n = c.in-Tabulate.n in
    let fits : SFits w64 n = search rules in
    rw c.in-Tabulate.is (puts_as (ap (λ x. opening_text (v.Tabulate x)) (to_z-of_z w64 n fits))
    (puts_then c.bytes-in-Tabulate.ensures (puts_then c.integer-in-Tabulate.ensures c.byte-in-Tabulate.ensures)))

pub returns-in-Concat : goal.returns-in-Concat
returns-in-Concat c = rw c.in-Concat.is c.bytes-in-Concat.ensures

pub returns-in-Sort : goal.returns-in-Sort
returns-in-Sort c = rw c.in-Sort.is c.bytes-in-Sort.ensures

pub returns-in-Unsort : goal.returns-in-Unsort
returns-in-Unsort c = rw c.in-Unsort.is c.bytes-in-Unsort.ensures

pub returns-in-Map2 : goal.returns-in-Map2
returns-in-Map2 c =
    rw c.in-Map2.is
    (puts_as (ap (λ l. codes "(Map2 " ++ l) (c.spelling.ensures ∙ ap spelling c.from-in-Map2.ensures ∙ sym (append-nil _))) (puts_then c.bytes-in-Map2.ensures c.bytes-in-Map2-2.ensures))

pub returns-in-Number : goal.returns-in-Number
returns-in-Number c = rw c.in-Number.is (puts_as (sym (append-nil _)) c.integer-in-Number.ensures)
