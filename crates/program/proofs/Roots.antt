-- What is told of a layout's root is told of its program. Assumes nothing.
use Rattle.std.proofs.Common.{◌≡◌, ◌<◌, ◌≤◌, true, length, get_or, vec_items, refl, ap, arith}
use Rattle.model.specs.Limits.{most_unrolled}
use Rattle.model.specs.Syntax.{Solid, Empty, size, sizes, textual, textuals}
use Rattle.model.specs.Shapes.{run, runs}
use Rattle.model.specs.Counts.{weight, weights}
use Rattle.model.specs.Tables.{held}
use Rattle.model.specs.Tame.{tame}
use Rattle.model.specs.Unrolling.{unroll}
use Rattle.model.specs.Families.{Meaning}
use Rattle.model.specs.Legality.{Legal}
use Rattle.model.proofs.Lawful.{legal_weight, legal_small}
use Rattle.model.proofs.Ordering.{textual_ordered}
use Rattle.model.proofs.Tamed.{legal_tame}
use Rattle.program.specs.declared.layout.Layout.{Layout}
use Rattle.program.specs.declared.part.Part.{Part}
use Rattle.program.specs.Measures.{nothing}
use Rattle.program.proofs.Told.{length_measures}
use Rattle.program.proofs.Layouts.{some_nodes, tells_whole}

pub some_told : (l : Layout) → 0 < length (vec_items l.measures)
some_told l = omega (arith, ap length l.told, length_measures (vec_items l.table.nodes), some_nodes l.table)

-- what a part's type says of its program
pub record Sound (e : Solid) : Type 0 where
  pub orderless : textual e ≡ true
  pub counted : weight e ≡ size (unroll e)
  pub small : size (unroll e) ≤ most_unrolled
  pub tamed : tame e ≡ true

pub empty_sound : Sound Empty
unfolding textual textuals weight weights size sizes unroll tame run runs
empty_sound = record { orderless = refl; counted = refl; small = omega arith; tamed = refl }

-- how many nodes a part unrolls to is told of its root
pub part_unrolled : (p : Part) → (get_or (vec_items p.layout.measures) 0 nothing).unrolled ≡ size (unroll (held p.layout.table))
part_unrolled p = omega (arith, ap (λ m. m.unrolled) (tells_whole p.layout), p.counted, p.small)

pub legal_sound : (m : Meaning) (e : Solid) → textual e ≡ true → Legal m e → Sound e
legal_sound m e t p = record { orderless = t; counted = legal_weight m e (textual_ordered e t) p; small = legal_small m e p; tamed = legal_tame m e p }
