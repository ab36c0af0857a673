use Rattle.std.proofs.Common.{[], ◌∷◌, ◌++◌, SFits, rules}
use mir.Syntax.{w128}
use Rattle.std.specs.Fmt.{signed_decimal}
use Rattle.std.proofs.lemmas.Int.{to_z-of_z}
use Rattle.writer.proofs.Puts.{puts_then, puts_as}
use Rattle.writer.proofs.flat.put_triple.Goals as goal

pub returns : goal.returns
returns c =
    let v = c.args.v in
    let fx : SFits w128 v.x = search rules in
    let fy : SFits w128 v.y = search rules in
    let fz : SFits w128 v.z = search rules in
    let x = to_z-of_z w128 v.x fx in
    let y = to_z-of_z w128 v.y fy in
    let z = to_z-of_z w128 v.z fz in
    puts_as (λ i. 91 ∷ (signed_decimal (x i) ++ (44 ∷ (signed_decimal (y i) ++ (44 ∷ (signed_decimal (z i) ++ (93 ∷ [])))))))
    (puts_then c.byte.ensures (puts_then c.integer.ensures (puts_then c.byte-2.ensures (puts_then c.integer-2.ensures (puts_then c.byte-3.ensures (puts_then c.integer-3.ensures c.byte-4.ensures))))))
