-- A legal program breaks no law. Assumes nothing.
use Rattle.std.proofs.Common.{◌≡◌, ℕ, ◌≤◌, ltb, Some, None, Option, List, [], ◌∷◌, refl}
use Rattle.std.specs.List.{AllByRecursion}
use Rattle.std.proofs.lemmas.Bool.{ltb-false}
use Rattle.model.specs.Limits.{most_unrolled}
use Rattle.model.specs.declared.law.Law.{Law}
use Rattle.model.specs.declared.law.Law.TheVariants.{Size, Loops, Numbers, Primitives, Pairs, Lengths}
use Rattle.model.specs.declared.law.Fault.{Fault}
use Rattle.model.specs.Families.{Meaning}
use Rattle.model.specs.Orders.{Ordered}
use Rattle.model.specs.Syntax.{Solid, size}
use Rattle.model.specs.Counts.{weight}
use Rattle.model.specs.Legality.{root, first, culprit, laws, told, first_fault, fault, Legal}
use Rattle.model.specs.Unrolling.{unroll}
use Rattle.model.proofs.Weights.{kept, weight_unrolled}

none_told : (l : Law) (o : Option ℕ) (later : Option Fault) → told l o later ≡ None → (o ≡ None) × (later ≡ None)
none_told l None later p = (refl, p)
none_told l (Some n) later p = cc

kept_all : (m : Meaning) (e : Solid) (ls : List Law) → first_fault m e ls ≡ None → AllByRecursion (λ l. culprit m e l ≡ None) ls
kept_all m e [] p = tt
kept_all m e (l ∷ ls) p = let q = none_told l (culprit m e l) (first_fault m e ls) p in (q.0, kept_all m e ls q.1)

pub keeps_law : (m : Meaning) (e : Solid) → Legal m e → (l : Law) → culprit m e l ≡ None
unfolding Legal fault
keeps_law m e p = each (kept_all m e laws p)
  where
    each : AllByRecursion (λ l. culprit m e l ≡ None) laws → (l : Law) → culprit m e l ≡ None
    each k Size = k.0
    each k Loops = k.1.0
    each k Numbers = k.1.1.0
    each k Primitives = k.1.1.1.0
    each k Pairs = k.1.1.1.1.0
    each k Lengths = k.1.1.1.1.1.0

-- its unrolling is counted without it, and is not too large
pub legal_weight : (m : Meaning) (e : Solid) → Ordered e → Legal m e → weight e ≡ size (unroll e)
legal_weight m e t p = weight_unrolled m e t (keeps_law m e p Pairs)

pub legal_small : (m : Meaning) (e : Solid) → Legal m e → size (unroll e) ≤ most_unrolled
legal_small m e p =
    let small = (kept (ltb most_unrolled (size (unroll e))) 0 (first m Lengths root e 0) (keeps_law m e p Lengths)).0 in
    ltb-false most_unrolled (size (unroll e)) small
