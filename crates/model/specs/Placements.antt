-- What a placement does to a point: the point of A that decides whether p is in the placed A. Assumes nothing.
use Rattle.std.specs.Prelude.{ℕ, zero, suc, ◌-◌, ◌/◌, ◌%◌, ℤ, pos, negsuc, ◌+ℤ◌, ◌-ℤ◌, ◌*ℤ◌, neg_ℤ}
use Rattle.model.specs.declared.node.Placement.{Placement}
use Rattle.model.specs.declared.node.Placement.TheVariants.{Translate, Scale, Rotate}
use Rattle.model.specs.declared.node.Triple.{Triple}
use Rattle.model.specs.declared.node.Linear.{Linear}
use Rattle.model.specs.declared.point.Point.{Point}
use Rattle.model.specs.Families.{rescaled}

-- a number that is linear in the loop index, at index i
abbrev pub linear : ℤ → ℤ → ℕ → ℤ
linear c s i = c +ℤ pos i *ℤ s

-- a vector at index i
abbrev pub at : ℕ → Linear → Triple
at i v = record {
  x = linear v.constant.x v.slope.x i;
  y = linear v.constant.y v.slope.y i;
  z = linear v.constant.z v.slope.z i;
}

abbrev pub triple : ℤ → ℤ → ℤ → Triple
triple a b c = record { x = a; y = b; z = c }

-- a vector without slope
abbrev pub still : Triple → Linear
still v = record { constant = v; slope = triple (pos 0) (pos 0) (pos 0) }

abbrev pub translated : Triple → Point → Point
translated v p = record { x = p.x -ℤ v.x *ℤ p.w; y = p.y -ℤ v.y *ℤ p.w; z = p.z -ℤ v.z *ℤ p.w; w = p.w }

-- how often a plane is turned by 90 degrees
pub data Quarter : Type 0 where
  q0 : Quarter
  q1 : Quarter
  q2 : Quarter
  q3 : Quarter

abbrev pub back : Quarter → Quarter
back q0 = q0
back q1 = q3
back q2 = q2
back q3 = q1

abbrev pub quarters : ℕ → Quarter
quarters zero = q0
quarters (suc zero) = q1
quarters (suc (suc zero)) = q2
quarters (suc (suc (suc n))) = q3

-- the quarters in a number of degrees, rounded down; a legal number has no rest
abbrev pub quarter : ℤ → Quarter
quarter (pos n) = quarters ((n / 90) % 4)
quarter (negsuc n) = quarters (3 - (n / 90) % 4)

-- the first axis of a plane is turned towards the second: what becomes of the two coordinates
abbrev pub first : Quarter → ℤ → ℤ → ℤ
first q0 a b = a
first q1 a b = neg_ℤ b
first q2 a b = neg_ℤ a
first q3 a b = b

abbrev pub second : Quarter → ℤ → ℤ → ℤ
second q0 a b = b
second q1 a b = a
second q2 a b = neg_ℤ b
second q3 a b = neg_ℤ a

-- 90 degrees about x take y to z, about y z to x, about z x to y
abbrev pub about_x : Quarter → Triple → Triple
about_x q v = triple v.x (first q v.y v.z) (second q v.y v.z)

abbrev pub about_y : Quarter → Triple → Triple
about_y q v = triple (second q v.z v.x) v.y (first q v.z v.x)

abbrev pub about_z : Quarter → Triple → Triple
about_z q v = triple (first q v.x v.y) (second q v.x v.y) v.z

-- v turned by the degrees r about x, then y, then z
abbrev pub turned : Triple → Triple → Triple
turned r v = about_z (quarter r.z) (about_y (quarter r.y) (about_x (quarter r.x) v))

-- and back again
abbrev pub unturned : Triple → Triple → Triple
unturned r v = about_x (back (quarter r.x)) (about_y (back (quarter r.y)) (about_z (back (quarter r.z)) v))

abbrev pub rotated : Triple → Point → Point
rotated r p = let v : Triple = unturned r (triple p.x p.y p.z) in record { x = v.x; y = v.y; z = v.z; w = p.w }

abbrev pub placed : Placement → Triple → Point → Point
placed Translate v p = translated v p
placed Scale v p = rescaled v p
placed Rotate v p = rotated v p
