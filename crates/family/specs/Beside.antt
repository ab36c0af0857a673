-- Two families side by side: the even kinds are the first's, the odd ones the second's. Assumes nothing.
use Rattle.std.specs.Prelude.{ℕ, ◌+◌, ◌*◌, ◌/◌, ◌%◌, Bool, cond, ◌==◌}
use Rattle.std.specs.Option.{option_map}
use Rattle.model.specs.declared.point.Primitive.{Primitive}
use Rattle.model.specs.Families.{Meaning}

-- the record is the first family's
abbrev pub is_first : Primitive → Bool
is_first r = r.kind % 2 == 0

-- the record of another kind
abbrev pub of_kind : ℕ → Primitive → Primitive
of_kind k r = record { kind = k; sizes = r.sizes }

-- the record as its own family knows it
abbrev pub own : Primitive → Primitive
own r = of_kind (r.kind / 2) r

-- the record that a family knows as q: the first at side 0, the second at side 1
abbrev pub outer : ℕ → Primitive → Primitive
outer side q = of_kind (2 * q.kind + side) q

-- each answer is that of the family whose kind it is
abbrev pub beside : Meaning → Meaning → Meaning
beside m n = record {
  legal = λ r. cond (is_first r) (m.legal (own r)) (n.legal (own r));
  contains = λ r p. cond (is_first r) (m.contains (own r) p) (n.contains (own r) p);
  absorbed = λ r f. cond (is_first r) (option_map (outer 0) (m.absorbed (own r) f)) (option_map (outer 1) (n.absorbed (own r) f));
}
