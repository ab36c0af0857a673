-- A faulty node of a text's program begins somewhere in the text. Assumes nothing.
use Rattle.std.proofs.Common.{◌≡◌, ℕ, suc, ◌<◌, cond, List, length, Option, Some, None, sym, ap, ◌∙◌, inl, inr, arith}
use Rattle.std.proofs.lemmas.Bool.Decides.{leb_tells}
use Rattle.model.specs.declared.law.Fault.{Fault}
use Rattle.model.specs.Orders.{Ordered}
use Rattle.model.specs.Families.{Meaning}
use Rattle.model.specs.Syntax.{Solid, size}
use Rattle.model.specs.Legality.{fault}
use Rattle.model.specs.Starts.{before, nth_span, first_token}
use Rattle.model.specs.Texts.{Accepts, feed_of}
use Rattle.model.proofs.Ordering.{textual_ordered}
use Rattle.model.proofs.Culprits.{fault_within, before_within, nth_some}

-- the fault that is found in what a text says
pub judged : (m : Meaning) (text : List ℕ) (e : Solid) (found : Option Fault) → Accepts text e → (Ordered e → found ≡ fault m e) → fault m e ≡ found
judged m text e found a h = sym (h (textual_ordered e a.orderless))

node_begins : (text : List ℕ) (e : Solid) (n : ℕ) → Accepts text e → n < size e → first_token text e n ≡ None → ⊥
node_begins text e n a h q =
    elim (leb_tells (suc n) (size e)) [
      | inl p ↦ nth_some (feed_of text) (before e n) (let w = before_within e n h in omega (arith, ap length a.says)) (sym (ap (λ b. cond b (nth_span (feed_of text) (before e n)) None) p.0) ∙ q)
      | inr p ↦ absurd (omega arith)
    ]

pub fault_begins : (m : Meaning) (text : List ℕ) (e : Solid) (f : Fault) → Accepts text e → fault m e ≡ Some f → first_token text e f.node ≡ None → ⊥
fault_begins m text e f a p = node_begins text e f.node a (fault_within m e f p)
