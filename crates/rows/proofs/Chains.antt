-- What the library's iterators give of a text. Assumes nothing.
use Rattle.std.specs.Slice.Iter as slice
use Rattle.std.proofs.Common.{◌≡◌, ℕ, Bool, false, eqb, List, Option}
use Rattle.std.specs.Fn.{CalledAt}
use Rattle.std.specs.Iterator.Adapters.{enumerate_source, enumerate_count, enumerate_steps}
use Rattle.std.specs.List.{enumerate_from, slice_split}
use Rattle.std.specs.declared.iter.Enumerate.{Enumerate}
use Rattle.std.specs.declared.slice.Split.{Split}
use denote.Param.Members.{Mut}
use denote.Ref.{Bor}
use Rattle.std.proofs.lemmas.Iterator.{YieldsList}
use Rattle.std.proofs.lemmas.Iterator.Consumers.{YieldsList-from_enumerate, YieldsList-at}
use Rattle.std.proofs.lemmas.Iterator.Splits.{YieldsList-from_slice_split}

-- the parts between line feeds, with their numbers from 0 on
pub parts_in : {F : Type 0} {g : Mut F (Bor ℕ × Unit {0}) Bool} {s : Enumerate (Split ℕ F)} {p : Split ℕ F} {a : F} (text : List ℕ) (t u : Enumerate (Split ℕ F)) (r : Option (ℕ × Bor (List ℕ)))
    → enumerate_steps (slice.split_steps g) t r u
    → slice.split_rest p ≡ text → slice.split_done p ≡ false → slice.split_callee p ≡ a → enumerate_source s ≡ p → enumerate_count s ≡ 0
    → ((x : ℕ) (t : Bool) (q : F) → CalledAt g a x t q → (q ≡ a) × (t ≡ eqb x 10))
    → YieldsList {B = ℕ × List ℕ} (enumerate_steps (slice.split_steps g)) (λ x. (x.0, x.1.now)) s (enumerate_from 0 (slice_split (λ b. eqb b 10) text))
parts_in {g = g} text t u r step rest done callee source count feed =
    YieldsList-from_enumerate (YieldsList-at source (YieldsList-from_slice_split g (λ b. eqb b 10) text rest done callee feed)) count
