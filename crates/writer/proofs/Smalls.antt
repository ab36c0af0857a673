-- The tokens of the unrolling of a tame program have small numbers. Assumes nothing.
use Rattle.std.proofs.Common.{◌≡◌, true, false, not, [], ◌++◌, ℤ, pos, negsuc, nat_abs, arith}
use Rattle.std.specs.List.{AllByRecursion}
use Rattle.std.proofs.ByRecursion.{All-append}
use Rattle.std.proofs.lemmas.Bool.{false≢true, ltb-false, leb-true, and_parts, or_parts, not-true, not-false}
use Rattle.model.specs.declared.node.Operator.{Operator}
use Rattle.model.specs.declared.node.Placement.{Placement}
use Rattle.model.specs.declared.node.Triple.{Triple}
use Rattle.model.specs.Bytes.{Small}
use Rattle.model.specs.Syntax.{Solid}
use Rattle.model.specs.Tokens.{tokens, row}
use Rattle.model.specs.Lexing.{SmallToken}
use Rattle.model.specs.Legality.{some_axis, beyond, unkind}
use Rattle.model.specs.Tame.{small_vector, taming, tame}
use Rattle.model.specs.Unrolling.{programs, unroll}
use Rattle.model.proofs.Related.{related}

abbrev SmallTriple : Triple → Type 0
SmallTriple q = Small q.x × Small q.y × Small q.z

near : (z : ℤ) → beyond 1000000 z ≡ false → Small z
near z e = omega (arith, ltb-false 1000000 (nat_abs z) e)

small_triple : (q : Triple) → small_vector q ≡ true → SmallTriple q
small_triple q e =
    let x = or_parts _ _ (not-true (some_axis (beyond 1000000) q) e) in
    let y = or_parts _ _ x.1 in
    (near q.x x.0, near q.y y.0, near q.z y.1)

small_kind : (k : ℤ) → unkind k ≡ false → Small k
small_kind (pos n) e = omega (arith, leb-true n 65535 (and_parts _ _ (not-false _ e)).1)
small_kind (negsuc n) e = absurd (false≢true (not-false false e))

zero_small : Small (pos 0)
zero_small = omega arith

-- ---- the four forms
abbrev Fine : Solid → Type 0
Fine x = AllByRecursion SmallToken (tokens x)

fine_empty : Fine programs.empty
unfolding tokens row
fine_empty = (tt, tt)

fine_prim : (k : ℤ) (q : Triple) → Small k → SmallTriple q → Fine (programs.prim k q)
unfolding tokens row
fine_prim k q h s = let z = zero_small in (tt, (tt, ((h, z), (tt, ((s.0, z), (tt, ((s.1, z), (tt, ((s.2, z), (tt, (tt, tt)))))))))))

fine_place : (p : Placement) (q : Triple) (x : Solid) → SmallTriple q → Fine x → Fine (programs.place p q x)
unfolding tokens row
fine_place p q x s f =
    let z = zero_small in
    (tt, (tt, (tt, ((s.0, z), (tt, ((s.1, z), (tt, ((s.2, z), (tt, All-append SmallToken (tokens x ++ []) _ (All-append SmallToken (tokens x) [] f tt) (tt, tt))))))))))

fine_join : (o : Operator) (a b : Solid) → Fine a → Fine b → Fine (programs.join o a b)
unfolding tokens row
fine_join o a b f g =
    (tt, (tt, All-append SmallToken (tokens a ++ (tokens b ++ [])) _ (All-append SmallToken (tokens a) (tokens b ++ []) f (All-append SmallToken (tokens b) [] g tt)) (tt, tt)))

pub small_unrolling : (e : Solid) → tame e ≡ true → AllByRecursion SmallToken (tokens (unroll e))
unfolding tame unroll
small_unrolling e is-tame =
    related programs taming (λ x b. b ≡ true → Fine x)
    (record {
      on_empty = λ _. fine_empty;
      on_prim = λ k q h. let both = and_parts (not (unkind k)) (small_vector q) h in fine_prim k q (small_kind k (not-true (unkind k) both.0)) (small_triple q both.1);
      on_place = λ p q x b f h. let both = and_parts (small_vector q) b h in fine_place p q x (small_triple q both.0) (f both.1);
      on_join = λ o x x' b b' f f' h. let both = and_parts b b' h in fine_join o x x' (f both.0) (f' both.1);
    }) e 0 is-tame
