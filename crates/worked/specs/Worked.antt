-- Cases that were worked out by hand. Assumes nothing.
use Rattle.std.specs.Prelude.{◌≡◌, true, false, [], ◌∷◌, ℤ, pos, negsuc, Ok, Err, codes}
use Rattle.model.specs.declared.node.Placement.TheVariants.{Translate, Scale}
use Rattle.model.specs.Syntax.{Solid, node, none, more, prim, place, fold, tab}
use Rattle.model.specs.Syntax as S
use Rattle.model.specs.Placements.{triple, still, turned}
use Rattle.model.specs.Shapes.{sorted, unsorted}
use Rattle.model.specs.Spelling.{text_of}
use Rattle.model.specs.Unrolling.{unroll}
use Rattle.model.specs.Legality.{Legal}
use Rattle.family.specs.Standard.{standard}
use Rattle.probe.specs.declared.unprobed.Unprobed.TheVariants.{OutOfReach}
use Rattle.probe.specs.Probing.{answer}

-- a box at the origin
abbrev pub a_box : ℤ → ℤ → ℤ → Solid
a_box a b c = node (prim (pos 1) (still (triple a b c))) none

-- three boxes in a row, 4,000 apart
abbrev pub three_boxes : Solid
three_boxes =
    node fold (more (node (tab (pos 3)) (more
    (node (place Translate (record { constant = triple (pos 0) (pos 0) (pos 0); slope = triple (pos 4000) (pos 0) (pos 0) })) (more (a_box (pos 2000) (pos 1000) (pos 500)) none))
    none)) none)

abbrev pub scaled_box : ℤ → ℤ → ℤ → Solid
scaled_box s t u = node (place Scale (still (triple s t u))) (more (a_box (pos 1) (pos 1) (pos 1)) none)

-- the part of three boxes: how it is spelled, its size and its unrolling's, and points on and beside its faces
pub record Boxes : Type 0 where
  pub spelled : text_of three_boxes ≡ codes "(Fold Union (Tabulate (i 3) (Translate [4000i,0,0] (Prim 1 [2000,1000,500]))))"
  pub legal : Legal standard three_boxes
  pub nodes : S.size three_boxes ≡ 4
  pub unrolled : S.size (unroll three_boxes) ≡ 8
  pub on_face : answer standard (unroll three_boxes) (triple (pos 2000) (pos 0) (pos 0)) ≡ Ok true
  pub next_box : answer standard (unroll three_boxes) (triple (pos 4000) (pos 0) (pos 0)) ≡ Ok true
  pub beside : answer standard (unroll three_boxes) (triple (pos 2001) (pos 0) (pos 0)) ≡ Ok false

-- factors whose product is 1,000 leave a point in reach, and 2,000 do not
pub record Scales : Type 0 where
  pub answers : answer standard (unroll (scaled_box (pos 10) (pos 10) (pos 10))) (triple (pos 10) (pos 0) (pos 0)) ≡ Ok true
  pub refuses : answer standard (unroll (scaled_box (pos 20) (pos 10) (pos 10))) (triple (pos 10) (pos 0) (pos 0)) ≡ Err OutOfReach

-- the order 2, 0, 1 of a, b, c, and back
pub record Orders : Type 0 where
  pub sorts : (d a b c : Solid) → sorted d (2 ∷ 0 ∷ 1 ∷ []) (a ∷ b ∷ c ∷ []) ≡ c ∷ a ∷ b ∷ []
  pub unsorts : (d a b c : Solid) → unsorted d (2 ∷ 0 ∷ 1 ∷ []) (c ∷ a ∷ b ∷ []) ≡ a ∷ b ∷ c ∷ []

-- turns about z, and about x and then y
pub record Turns : Type 0 where
  pub about_z : turned (triple (pos 0) (pos 0) (pos 90)) (triple (pos 3) (negsuc 0) (pos 0)) ≡ triple (pos 1) (pos 3) (pos 0)
  pub about_two : turned (triple (pos 90) (pos 90) (pos 0)) (triple (pos 0) (pos 1) (pos 0)) ≡ triple (pos 1) (pos 0) (pos 0)

pub record WorkedCases : Type 0 where
  pub boxes : Boxes
  pub scales : Scales
  pub orders : Orders
  pub turns : Turns
