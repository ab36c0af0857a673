-- The standard family: boxes and upright cylinders. Assumes nothing.
use Rattle.std.specs.Prelude.{ℕ, Bool, false, cond, ◌&&◌, ◌||◌, ℤ, pos, ◌+ℤ◌, ◌*ℤ◌, Some, None, Option, ◌==◌, int_le, int_lt, unsigned_abs}
use Rattle.model.specs.declared.node.Triple.{Triple}
use Rattle.model.specs.declared.point.Point.{Point}
use Rattle.model.specs.declared.point.Primitive.{Primitive}
use Rattle.model.specs.Bytes.{is_zero}
use Rattle.model.specs.Families.{Meaning}
use Rattle.family.specs.Reaching.{between}

-- a size in micrometres
abbrev pub is_size : ℤ → Bool
is_size v = between (pos 1) v (pos 1000000)

-- kind 1 with three sizes
abbrev pub is_box : Primitive → Bool
is_box r = r.kind == 1 && is_size r.sizes.x && is_size r.sizes.y && is_size r.sizes.z

-- kind 2 with a radius and a height
abbrev pub is_cylinder : Primitive → Bool
is_cylinder r = r.kind == 2 && is_size r.sizes.x && is_size r.sizes.y && is_zero r.sizes.z

-- a coordinate from 0 to a length, over the divisor w
abbrev pub along : ℤ → ℤ → ℤ → Bool
along v length w = between (pos 0) v (length *ℤ w)

-- x and y lie on a box's base
abbrev pub over_base : Primitive → Point → Bool
over_base r p = along p.x r.sizes.x p.w && along p.y r.sizes.y p.w

-- the point lies in the box, faces and all
abbrev pub in_box : Primitive → Point → Bool
in_box r p = over_base r p && along p.z r.sizes.z p.w

-- x and y lie in the circle around 0
abbrev pub in_circle : ℤ → ℤ → ℤ → Bool
in_circle x y radius = int_le (x *ℤ x +ℤ y *ℤ y) (radius *ℤ radius)

-- the point lies in the upright cylinder around the z axis
abbrev pub in_cylinder : Primitive → Point → Bool
in_cylinder r p = in_circle p.x p.y (r.sizes.x *ℤ p.w) && along p.z r.sizes.y p.w

-- what a record contains, by its kind
abbrev pub holds : Primitive → Point → Bool
holds r p = cond (is_box r) (in_box r p) (cond (is_cylinder r) (in_cylinder r p) false)

-- an answer that rests on a test
abbrev pub when : {X : Type 0} → Bool → X → Option X
when b x = cond b (Some x) None

-- a box with each side times its factor
abbrev pub larger_box : Primitive → Triple → Primitive
larger_box r f = record { kind = r.kind; sizes = record { x = r.sizes.x *ℤ f.x; y = r.sizes.y *ℤ f.y; z = r.sizes.z *ℤ f.z } }

-- a cylinder with its radius times the first factor without its sign, and its height times the last
abbrev pub larger_cylinder : Primitive → Triple → Primitive
larger_cylinder r f = record { kind = r.kind; sizes = record { x = r.sizes.x *ℤ pos (unsigned_abs f.x); y = r.sizes.y *ℤ f.z; z = pos 0 } }

-- a box absorbs positive factors, as far as its sizes stay sizes
abbrev pub box_absorbed : Primitive → Triple → Option Primitive
box_absorbed r f = when (int_lt (pos 0) f.x && int_lt (pos 0) f.y && int_lt (pos 0) f.z && is_box (larger_box r f)) (larger_box r f)

-- a cylinder absorbs two factors that are equal but for the sign, and a positive one upwards
abbrev pub cylinder_absorbed : Primitive → Triple → Option Primitive
cylinder_absorbed r f = when (unsigned_abs f.x == unsigned_abs f.y && int_lt (pos 0) f.z && is_cylinder (larger_cylinder r f)) (larger_cylinder r f)

-- the record that absorbs the factors, by the kind
abbrev pub absorbed_by : Primitive → Triple → Option Primitive
absorbed_by r f = cond (is_box r) (box_absorbed r f) (cond (is_cylinder r) (cylinder_absorbed r f) None)

-- a record of three sizes, if all are there
abbrev pub joint : ℕ → Option ℤ → Option ℤ → Option ℤ → Option Primitive
joint k None b c = None
joint k (Some a) None c = None
joint k (Some a) (Some b) None = None
joint k (Some a) (Some b) (Some c) = Some (record { kind = k; sizes = record { x = a; y = b; z = c } })

-- the standard family
abbrev pub standard : Meaning
standard = record { legal = λ r. is_box r || is_cylinder r; contains = holds; absorbed = absorbed_by }
