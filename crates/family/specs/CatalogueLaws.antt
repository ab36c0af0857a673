-- A catalogue keeps the laws of a family. Assumes nothing.
use Rattle.std.specs.Prelude.{◌≡◌, ℕ, ◌<◌, Bool, true, false, cond, List, [], ◌∷◌, ℤ, pos, ◌+ℤ◌, ◌*ℤ◌, ◌<ℤ◌, refl}
use Rattle.std.specs.List.{list_all}
use Rattle.std.proofs.Common.{sym, ap, subst}
use Rattle.std.proofs.lemmas.Option.{none-some}
use Rattle.std.proofs.lemmas.Bool.{cond-false}
use Rattle.model.specs.declared.point.Point.{Point}
use Rattle.model.specs.declared.point.Primitive.{Primitive}
use Rattle.model.specs.Families.{Laws, times}
use Rattle.family.specs.declared.catalogue.Row.{Row}
use Rattle.family.specs.Catalogue.{catalogue, listed, admits, of_profile}
use Rattle.family.specs.Ring.{ring, *ℤ-left-comm}
use Rattle.family.specs.Scaled.{le_times, and_same, natural}

-- a sum of products, with the common factor in front
sums : (a b c x y z k : ℤ) → a *ℤ (k *ℤ x) +ℤ b *ℤ (k *ℤ y) +ℤ c *ℤ (k *ℤ z) ≡ k *ℤ (a *ℤ x +ℤ b *ℤ y +ℤ c *ℤ z)
sums a b c x y z k = simp ring

-- a row admits a place however it is written
row_place : (kind : ℕ) (p : Point) (n : ℕ) → 0 < n → (row : Row) → admits kind (times (pos n) p) row ≡ admits kind p row
row_place kind p n h row =
    ap (λ (b : Bool). cond (of_profile kind row) b true)
    (le_times n h (row.p *ℤ p.x +ℤ row.q *ℤ p.y +ℤ row.r *ℤ p.z) (row.d *ℤ p.w) _ _ (sums row.p row.q row.r p.x p.y p.z (pos n)) (*ℤ-left-comm row.d (pos n) p.w))

-- tests that agree at each row
all_same : (f g : Row → Bool) → ((row : Row) → f row ≡ g row) → (rows : List Row) → list_all f rows ≡ list_all g rows
all_same f g h [] = refl
all_same f g h (row ∷ rows) = and_same (h row) (all_same f g h rows)

-- and so does the whole table
place : (rows : List Row) (r : Primitive) (p : Point) (k : ℤ) → pos 0 <ℤ k → (catalogue rows).contains r (times k p) ≡ (catalogue rows).contains r p
place rows r p k h =
    let n = natural k h in
    subst (λ (k : ℤ). (catalogue rows).contains r (times k p) ≡ (catalogue rows).contains r p) (sym n.1.0)
    (ap (λ (b : Bool). cond (listed rows r) b false) (all_same (admits r.kind (times (pos n.0) p)) (admits r.kind p) (row_place r.kind p n.0 n.1.1) rows))

-- a catalogue is lawful
pub catalogue_laws : (rows : List Row) → Laws (catalogue rows)
catalogue_laws rows = record {
  illegal_empty = λ r p e. cond-false (listed rows r) (list_all (admits r.kind p) rows) false e;
  absorbs = λ r f q e. absurd (none-some q e);
  same_place = λ r p k w h. place rows r p k h;
}
