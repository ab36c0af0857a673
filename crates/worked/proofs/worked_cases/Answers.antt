use Rattle.std.proofs.Common.{refl}
use Rattle.model.specs.Syntax.{size, sizes, depth, depths}
use Rattle.model.specs.Tokens.{tokens, row}
use Rattle.model.specs.Shapes.{run, runs}
use Rattle.model.specs.Counts.{count, counts}
use Rattle.model.specs.Legality.{first, firsts, fault, Legal}
use Rattle.model.specs.Unrolling.{unroll, value}
use Rattle.probe.specs.Probing.{answer, strays}
use Rattle.std.specs.Fmt.{digits}
use Rattle.worked.specs.Worked.{Boxes, Scales, Orders, Turns}
use Rattle.worked.proofs.worked_cases.Goals as goal

boxes : Boxes
unfolding size sizes depth depths tokens row run runs count counts first firsts fault Legal unroll value answer strays digits
boxes = record { spelled = refl; legal = refl; nodes = refl; unrolled = refl; on_face = refl; next_box = refl; beside = refl }

scales : Scales
unfolding run runs unroll value answer strays digits
scales = record { answers = refl; refuses = refl }

orders : Orders
orders = record { sorts = λ d a b c. refl; unsorts = λ d a b c. refl }

turns : Turns
turns = record { about_z = refl; about_two = refl }

pub returns : goal.returns
returns c = record { boxes = boxes; scales = scales; orders = orders; turns = turns }
