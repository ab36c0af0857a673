use Rattle.std.proofs.Common.{◌≡◌, vec_items, slice_index_or, refl, ◌∙◌, rules}
use Rattle.program.specs.Measures.{nothing}
use Rattle.program.proofs.Places.{told_at}
use Rattle.program.proofs.layout.Layout.measure_at.Goals as goal

pub returns-clause-tells : goal.returns-clause-tells
returns-clause-tells c s e rest stands =
    let ms = vec_items c.args.self.now.measures in
    let is : c.unwrap_or.result ≡ slice_index_or ms c.args.place nothing = search rules in
    is ∙ told_at c.args.self.now c.args.place ms refl s e rest stands
