-- The unrolling of a program, and its values at points. Assumes nothing.
use Rattle.std.specs.Prelude.{◌≡◌, Bool, true, false, not, ◌&&◌, ◌||◌, ℤ, refl}
use Rattle.model.specs.declared.node.Operator.{Operator}
use Rattle.model.specs.declared.node.Operator.TheVariants.{Union, Diff, Inter}
use Rattle.model.specs.declared.node.Triple.{Triple}
use Rattle.model.specs.declared.point.Point.{Point}
use Rattle.model.specs.declared.point.Primitive.{Primitive}
use Rattle.model.specs.Families.{Meaning}
use Rattle.model.specs.Syntax.{Solid, Empty, node, none, more, prim, place, join}
use Rattle.model.specs.Placements.{still, placed}
use Rattle.model.specs.Shapes.{Shape, natural, run}

-- ---- the unrolling: a program made of the four forms alone
abbrev pub programs : Shape Solid
programs = record {
  empty = Empty;
  prim = λ k q. node (prim k (still q)) none;
  place = λ t v e. node (place t (still v)) (more e none);
  join = λ o a b. node (join o) (more a (more b none));
}

unfoldable pub unroll : Solid → Solid
unroll e = run programs e 0

-- ---- values
-- what values at a point need: the laws that the solids' operations keep
pub record Algebra (V : Type 0) : Type 0 where
  pub none : V
  pub or : V → V → V
  pub less : V → V → V
  pub and : V → V → V
  pub or_assoc : (a b c : V) → or a (or b c) ≡ or (or a b) c
  pub or_comm : (a b : V) → or a b ≡ or b a
  pub or_same : (a : V) → or a a ≡ a
  pub or_none : (a : V) → or a none ≡ a
  pub less_less : (a b c : V) → less (less a b) c ≡ less a (or b c)
  pub less_none : (a : V) → less a none ≡ a
  pub and_comm : (a b : V) → and a b ≡ and b a

abbrev pub apply : {V : Type 0} → Algebra V → Operator → V → V → V
apply A Union a b = A.or a b
apply A Diff a b = A.less a b
apply A Inter a b = A.and a b

-- a record of this kind and these sizes
abbrev pub primitive : ℤ → Triple → Primitive
primitive k q = record { kind = natural k; sizes = q }

-- the values of solids at points, by those of primitives
abbrev pub values : {V : Type 0} → Algebra V → (Primitive → Point → V) → Shape (Point → V)
values A f = record {
  empty = λ p. A.none;
  prim = λ k q. f (primitive k q);
  place = λ t v g p. g (placed t v p);
  join = λ o g h p. apply A o (g p) (h p);
}

-- the value of a program at a point
unfoldable pub value : {V : Type 0} → Algebra V → (Primitive → Point → V) → Solid → Point → V
value A f e p = run (values A f) e 0 p

-- ---- yes or no
pub or_assoc : (a b c : Bool) → a || (b || c) ≡ (a || b) || c
or_assoc true b c = refl
or_assoc false b c = refl

pub or_comm : (a b : Bool) → a || b ≡ b || a
or_comm true true = refl
or_comm true false = refl
or_comm false true = refl
or_comm false false = refl

pub or_same : (a : Bool) → a || a ≡ a
or_same true = refl
or_same false = refl

pub or_none : (a : Bool) → a || false ≡ a
or_none true = refl
or_none false = refl

pub less_less : (a b c : Bool) → (a && not b) && not c ≡ a && not (b || c)
less_less true true c = refl
less_less true false c = refl
less_less false b c = refl

pub less_none : (a : Bool) → a && not false ≡ a
less_none true = refl
less_none false = refl

pub and_comm : (a b : Bool) → a && b ≡ b && a
and_comm true true = refl
and_comm true false = refl
and_comm false true = refl
and_comm false false = refl

-- whether a point belongs to a solid
abbrev pub belonging : Algebra Bool
belonging = record {
  none = false;
  or = λ a b. a || b;
  less = λ a b. a && not b;
  and = λ a b. a && b;
  or_assoc = or_assoc;
  or_comm = or_comm;
  or_same = or_same;
  or_none = or_none;
  less_less = less_less;
  less_none = less_none;
  and_comm = and_comm;
}

-- whether the program's solid contains a point
abbrev pub contains : Meaning → Solid → Point → Bool
contains m e p = value belonging m.contains e p

-- a program has the values of its unrolling, in every algebra
abbrev pub UnrolledValues : Type 0 → Type 0
UnrolledValues V = (A : Algebra V) (f : Primitive → Point → V) (e : Solid) (p : Point) → value A f (unroll e) p ≡ value A f e p
