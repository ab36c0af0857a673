-- A lawful family keeps the kind, so what it absorbs has the kind at hand on the outside too.
use Rattle.std.proofs.Common.{◌≡◌, ℕ, ◌+◌, ◌*◌, ◌%◌, Some, None, Option, sym, refl, ap}
use Rattle.std.specs.Option.{option_map}
use Rattle.model.specs.declared.node.Triple.{Triple}
use Rattle.model.specs.declared.point.Primitive.{Primitive}
use Rattle.model.specs.Families.{Meaning, Laws}
use Rattle.family.specs.Beside.{of_kind, own, outer}
use Rattle.family.specs.BesideLaws.{outer_kind}

same_kinds : (k side : ℕ) (o : Option Primitive) → ((q : Primitive) → o ≡ Some q → 2 * q.kind + side ≡ k) → option_map (of_kind k) o ≡ option_map (outer side) o
same_kinds k side None h = refl
same_kinds k side (Some q) h = ap (λ (j : ℕ). Some (of_kind j q)) (sym (h q refl))

pub raised : (m : Meaning) → Laws m → (side : ℕ) (r : Primitive) (f : Triple) → r.kind % 2 ≡ side
    → option_map (of_kind r.kind) (m.absorbed (own r) f) ≡ option_map (outer side) (m.absorbed (own r) f)
raised m lm side r f e = same_kinds r.kind side (m.absorbed (own r) f) (λ q h. outer_kind side r q e (lm.absorbs (own r) f q h).same_kind)
