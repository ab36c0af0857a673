-- The first law that a program breaks, law by law. Assumes nothing.
use Rattle.std.proofs.Common.{◌≡◌, ℕ, zero, suc, ◌+◌, ◌<◌, ◌≤◌, true, false, cond, ltb, List, [], ◌∷◌, length, get_or, drop, Some, None, Option, sym, refl, ap, ◌∙◌, subst, arith}
use Rattle.std.proofs.lemmas.List.{drop_more}
use Rattle.std.specs.Result.{result_err}
use Rattle.model.specs.declared.law.Law.{Law}
use Rattle.model.specs.declared.law.Law.TheVariants.{Size, Primitives, Lengths}
use Rattle.model.specs.Limits.{most_unrolled}
use Rattle.model.specs.Families.{Meaning}
use Rattle.model.specs.Orders.{Ordered}
use Rattle.model.specs.Syntax.{Solid}
use Rattle.model.specs.Counts.{weight}
use Rattle.model.specs.Legality.{root, first, culprit, laws, told, first_fault, fault}
use Rattle.model.proofs.Weights.{weight_unrolled}
use Rattle.program.specs.Judging.{walked, KeptBefore}

pub err_walked : (o : Option ℕ) (end : ℕ) → result_err (walked o end) ≡ o
err_walked None end = refl
err_walked (Some n) end = refl

module _ (m : Meaning) (e : Solid) where
  -- the unrolling of a program that keeps the law on pairs
  pub too_far : (law : Law) → law ≡ Lengths → true ≡ ltb most_unrolled (weight e) → Ordered e → KeptBefore m e law → Some 0 ≡ culprit m e law
  too_far law is far orderless =
      subst (λ l. KeptBefore m e l → Some 0 ≡ culprit m e l) (sym is)
      (λ pairs. ap (λ b. cond b (Some 0) (first m Lengths root e 0)) (far ∙ ap (ltb most_unrolled) (weight_unrolled m e orderless pairs)))

  pub near_enough : (law : Law) (r : Option ℕ) → law ≡ Lengths → false ≡ ltb most_unrolled (weight e) → r ≡ first m law root e 0 → Ordered e → KeptBefore m e law → r ≡ culprit m e law
  near_enough law r is near found orderless =
      subst (λ l. r ≡ first m l root e 0 → KeptBefore m e l → r ≡ culprit m e l) (sym is)
      (λ q pairs. q ∙ ap (λ b. cond b (Some 0) (first m Lengths root e 0)) (near ∙ ap (ltb most_unrolled) (weight_unrolled m e orderless pairs))) found

  -- all laws before the one at i are kept
  abbrev pub KeptTo : ℕ → Type 0
  KeptTo i = (k : ℕ) → k < i → culprit m e (get_or laws k Size) ≡ None

  pub kept_before : (i : ℕ) → i < 6 → KeptTo i → KeptBefore m e (get_or laws i Size)
  kept_before zero h before = tt
  kept_before (suc zero) h before = tt
  kept_before (suc (suc zero)) h before = tt
  kept_before (suc (suc (suc zero))) h before = before 2 (omega arith)
  kept_before (suc (suc (suc (suc zero)))) h before = tt
  kept_before (suc (suc (suc (suc (suc zero))))) h before = before 4 (omega arith)
  kept_before (suc (suc (suc (suc (suc (suc i)))))) h before = absurd (omega arith)

  -- laws that are kept are passed over
  skipped : (ls : List Law) (i : ℕ) → i ≤ length ls → ((k : ℕ) → k < i → culprit m e (get_or ls k Size) ≡ None) → first_fault m e ls ≡ first_fault m e (drop i ls)
  skipped ls zero h before = refl
  skipped [] (suc i) h before = absurd (omega arith)
  skipped (l ∷ ls) (suc i) h before = ap (λ o. told l o (first_fault m e ls)) (before 0 (omega arith)) ∙ skipped ls i (omega arith) (λ k q. before (suc k) (omega arith))

  pub fault_found : (i n : ℕ) → i < 6 → KeptTo i → Some n ≡ culprit m e (get_or laws i Size) → Some (record { law = get_or laws i Size; node = n }) ≡ fault m e
  unfolding fault
  fault_found i n h before is =
      ap (λ o. told (get_or laws i Size) o (first_fault m e (drop (i + 1) laws))) is ∙ ap (first_fault m e) (sym (drop_more laws i Size h)) ∙ sym (skipped laws i (omega arith) before)

  pub no_fault : (i : ℕ) → 6 ≤ i → KeptTo i → None ≡ fault m e
  unfolding fault
  no_fault i h before = sym (skipped laws 6 (omega arith) (λ k q. before k (omega arith)))

pub not_primitives : (law : Law) → law ≡ Lengths → law ≡ Primitives → ⊥
not_primitives law p q = let z : ◌≡◌ {A = ℕ} 0 1 = cc in omega arith
