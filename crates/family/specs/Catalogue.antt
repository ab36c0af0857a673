-- The catalogue: profiles cut out by the half spaces of a table's rows. Assumes nothing.
use Rattle.std.specs.Prelude.{ℕ, Bool, true, false, cond, ◌&&◌, List, ℤ, pos, ◌+ℤ◌, ◌*ℤ◌, neg_ℤ, None, ◌==◌, int_le}
use Rattle.std.specs.List.{list_any, list_all}
use Rattle.model.specs.declared.point.Point.{Point}
use Rattle.model.specs.declared.point.Primitive.{Primitive}
use Rattle.model.specs.Bytes.{is_zero}
use Rattle.model.specs.Families.{Meaning}
use Rattle.family.specs.declared.catalogue.Row.{Row}
use Rattle.family.specs.Reaching.{between, near}

-- the row is of this profile
abbrev pub of_profile : ℕ → Row → Bool
of_profile k row = row.profile == k

-- a coefficient in range
abbrev pub is_coefficient : ℤ → Bool
is_coefficient v = between (neg_ℤ (pos 1000)) v (pos 1000)

-- all numbers of the row are in range
abbrev pub in_range : Row → Bool
in_range row = is_coefficient row.p && is_coefficient row.q && is_coefficient row.r && near row.d

-- a row of the profile is in range
abbrev pub fits : ℕ → Row → Bool
fits k row = cond (of_profile k row) (in_range row) true

-- the point lies in the row's half space
abbrev pub half_space : Row → Point → Bool
half_space row p = int_le (row.p *ℤ p.x +ℤ row.q *ℤ p.y +ℤ row.r *ℤ p.z) (row.d *ℤ p.w)

-- the point lies in the half space of a row of the profile
abbrev pub admits : ℕ → Point → Row → Bool
admits k p row = cond (of_profile k row) (half_space row p) true

-- some row is of this profile
abbrev pub has_profile : ℕ → List Row → Bool
has_profile k rows = list_any (of_profile k) rows

-- the record has no sizes
abbrev pub no_sizes : Primitive → Bool
no_sizes r = is_zero r.sizes.x && is_zero r.sizes.y && is_zero r.sizes.z

-- the record has no sizes, and is a profile whose rows are in range
abbrev pub listed : List Row → Primitive → Bool
listed rows r = no_sizes r && has_profile r.kind rows && list_all (fits r.kind) rows

-- the catalogue of a table
abbrev pub catalogue : List Row → Meaning
catalogue rows = record {
  legal = listed rows;
  contains = λ r p. cond (listed rows r) (list_all (admits r.kind p) rows) false;
  absorbed = λ r f. None;
}
