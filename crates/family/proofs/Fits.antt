-- Products and sums that fit their types.
use Rattle.std.proofs.Common.{◌≡◌, ◌^◌, ℕ, ◌*◌, ◌≤◌, true, ◌&&◌, eqb, ℤ, pos, ◌+ℤ◌, ◌*ℤ◌, neg_ℤ, nat_abs, mul-le-mul, arith, w64, SFits}
use borrow.Author.Differences.{ints}
use lib.Signed.{le_z}
use mir.Syntax.{w128}
use Rattle.std.proofs.lemmas.Bool.{and_parts}
use Rattle.std.proofs.lemmas.Int.{unsigned_abs-mul, fits_signed_mul}
use Rattle.model.specs.declared.point.Point.{Point}
use Rattle.model.specs.declared.point.Primitive.{Primitive}
use Rattle.model.specs.Bytes.{is_zero}
use Rattle.family.specs.Reaching.{between, farthest, near, in_reach}
use Rattle.family.specs.Standard.{is_size, is_cylinder}

-- a product is at most the product of the bounds
pub abs_bound : (a b : ℤ) (m n : ℕ) → nat_abs a ≤ m → nat_abs b ≤ n → nat_abs (a *ℤ b) ≤ m * n
abs_bound a b m n p q = rw (unsigned_abs-mul a b) (mul-le-mul p q)

-- a coordinate in reach
pub near_abs : (v : ℤ) → near v ≡ true → nat_abs v ≤ 1000000000
near_abs v e = let h = and_parts (le_z (neg_ℤ farthest) v) (le_z v farthest) e in omega (arith, ints, h.0, h.1)

-- the numbers of a point in reach
pub record Reached (p : Point) : Type 0 where
  pub x : nat_abs p.x ≤ 1000000000
  pub y : nat_abs p.y ≤ 1000000000
  pub z : nat_abs p.z ≤ 1000000000
  pub w : nat_abs p.w ≤ 1000

pub reached : (p : Point) → in_reach p ≡ true → Reached p
reached p e =
    let a = and_parts (near p.x && near p.y && near p.z) (between (pos 1) p.w (pos 1000)) e in
    let b = and_parts (near p.x && near p.y) (near p.z) a.0 in
    let c = and_parts (near p.x) (near p.y) b.0 in
    let w = and_parts (le_z (pos 1) p.w) (le_z p.w (pos 1000)) a.1 in
    record { x = near_abs p.x c.0; y = near_abs p.y c.1; z = near_abs p.z b.1; w = omega (arith, ints, w.0, w.1) }

pub squares_fit : (p : Point) → in_reach p ≡ true → SFits w128 (p.x *ℤ p.x +ℤ p.y *ℤ p.y)
squares_fit p e =
    let n = reached p e in
    sum (p.x *ℤ p.x) (p.y *ℤ p.y) (abs_bound p.x p.x 1000000000 1000000000 n.x n.x) (abs_bound p.y p.y 1000000000 1000000000 n.y n.y)
  where
    sum : (a b : ℤ) → nat_abs a ≤ 1000000000000000000 → nat_abs b ≤ 1000000000000000000 → SFits w128 (a +ℤ b)
    sum a b p q = omega (arith, ints)

size_abs : (v : ℤ) → is_size v ≡ true → nat_abs v ≤ 1000000
size_abs v e = let h = and_parts (le_z (pos 1) v) (le_z v (pos 1000000)) e in omega (arith, ints, h.0, h.1)

-- a cylinder's radius over the divisor of a point in reach
pub radius_fits : (r : Primitive) (p : Point) → is_cylinder r ≡ true → in_reach p ≡ true → SFits w64 (r.sizes.x *ℤ p.w)
radius_fits r p e f =
    let a = and_parts (eqb r.kind 2 && is_size r.sizes.x && is_size r.sizes.y) (is_zero r.sizes.z) e in
    let b = and_parts (eqb r.kind 2 && is_size r.sizes.x) (is_size r.sizes.y) a.0 in
    let c = and_parts (eqb r.kind 2) (is_size r.sizes.x) b.0 in
    fits_signed_mul w64 r.sizes.x p.w 1000000 1000 (size_abs r.sizes.x c.1) (reached p f).w (omega arith)

-- a number of 64 bits times a coordinate in reach
far_product : (a x : ℤ) → SFits w64 a → nat_abs x ≤ 1000000000 → nat_abs (a *ℤ x) ≤ 9223372036854775808000000000
far_product a x f h = abs_bound a x 9223372036854775808 1000000000 (omega (arith, ints)) h

-- two such products, and three
pub two_fit : (p q : ℤ) (at : Point) → SFits w64 p → SFits w64 q → in_reach at ≡ true → SFits w128 (p *ℤ at.x +ℤ q *ℤ at.y)
two_fit p q at fp fq e =
    let n = reached at e in
    sum (p *ℤ at.x) (q *ℤ at.y) (far_product p at.x fp n.x) (far_product q at.y fq n.y)
  where
    sum : (a b : ℤ) → nat_abs a ≤ 9223372036854775808000000000 → nat_abs b ≤ 9223372036854775808000000000 → SFits w128 (a +ℤ b)
    sum a b ha hb = omega (arith, ints)

pub three_fit : (p q r : ℤ) (at : Point) → SFits w64 p → SFits w64 q → SFits w64 r → in_reach at ≡ true → SFits w128 (p *ℤ at.x +ℤ q *ℤ at.y +ℤ r *ℤ at.z)
three_fit p q r at fp fq fr e =
    let n = reached at e in
    sum (p *ℤ at.x) (q *ℤ at.y) (r *ℤ at.z) (far_product p at.x fp n.x) (far_product q at.y fq n.y) (far_product r at.z fr n.z)
  where
    sum : (a b c : ℤ) → nat_abs a ≤ 9223372036854775808000000000 → nat_abs b ≤ 9223372036854775808000000000 → nat_abs c ≤ 9223372036854775808000000000 → SFits w128 (a +ℤ b +ℤ c)
    sum a b c ha hb hc = omega (arith, ints)

-- a number of 64 bits times another one without its sign
pub unsigned_fits : (a b : ℤ) → SFits w64 a → SFits w64 b → SFits w128 (a *ℤ pos (nat_abs b))
unsigned_fits a b fa fb =
    let most : nat_abs b ≤ 2 ^ 63 = omega (arith, ints) in
    fits_signed_mul w128 a (pos (nat_abs b)) (2 ^ 63) (2 ^ 63) (omega (arith, ints)) most (omega arith)
