use Rattle.std.proofs.Common.{[], ◌∷◌, ◌++◌, sym, ap, ◌∙◌, w64}
use Rattle.std.proofs.lemmas.Int.{to_z-of_z}
use Rattle.model.specs.declared.node.Node.TheVariants as v
use Rattle.model.specs.Syntax.{prim, none}
use Rattle.model.specs.Placements.{still}
use Rattle.model.specs.Axes.{exact}
use Rattle.model.specs.Spelling.{opening_text}
use Rattle.model.proofs.Spelled.{text_node}
use Rattle.writer.proofs.Puts.{puts_then, puts_as}
use Rattle.writer.proofs.flat.put_primitive.Goals as goal

pub returns : goal.returns
returns c =
    let q = still (exact c.args.sizes) in
    puts_as (ap (λ z. opening_text (v.Primitive z q) ++ (41 ∷ [])) (to_z-of_z w64 c.args.kind c.ranges.kind) ∙ sym (text_node (prim c.args.kind q) none))
    (puts_then (puts_then c.bytes.ensures (puts_then c.integer.ensures (puts_then c.byte.ensures c.put_triple.ensures))) c.byte-2.ensures)
