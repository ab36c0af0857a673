-- The ring laws of ℤ. Assumes nothing.
use Rattle.std.specs.Prelude.{◌≡◌, ℕ, zero, suc, ℤ, pos, negsuc, ◌+ℤ◌, ◌*ℤ◌, neg_ℤ}
use Rattle.std.proofs.Common.{sym, ◌∙◌, ap}
use Rattle.std.proofs.Math.IntN.{suc_ℤ, pred_ℤ, suc_ℤ-+ℤ, pred_ℤ-+ℤ, +ℤ_idl, +ℤ_assoc, +ℤ_comm, suc_ℤ-*ℤ, pred_ℤ-*ℤ, zero-*ℤ, *ℤ_comm, +ℤ_invl, +ℤ_invr, +ℤ_idr, neg_ℤ-+ℤ, neg_ℤ-neg_ℤ}

-- induction up and down from zero
ℤ_walk : (P : ℤ → Type 0) → P (pos zero) → ((k : ℤ) → P k → P (suc_ℤ k)) → ((k : ℤ) → P k → P (pred_ℤ k)) → (k : ℤ) → P k
ℤ_walk P z s p (pos n) = above n
  where
    above : (n : ℕ) → P (pos n)
    above zero = z
    above (suc n) = s (pos n) (above n)
ℤ_walk P z s p (negsuc n) = below n
  where
    below : (n : ℕ) → P (negsuc n)
    below zero = p (pos zero) z
    below (suc n) = p (negsuc n) (below n)

-- addends change places
pub +ℤ-left-comm : (a b c : ℤ) → a +ℤ (b +ℤ c) ≡ b +ℤ (a +ℤ c)
+ℤ-left-comm a b c = sym (+ℤ_assoc a b c) ∙ ap (λ t. t +ℤ c) (+ℤ_comm a b) ∙ +ℤ_assoc b a c

-- a product of a sum, from either side
pub distrib_r : (m n k : ℤ) → (m +ℤ n) *ℤ k ≡ m *ℤ k +ℤ n *ℤ k
distrib_r m n k = ℤ_walk (λ m. (m +ℤ n) *ℤ k ≡ m *ℤ k +ℤ n *ℤ k) base up down m
  where
    base : (pos zero +ℤ n) *ℤ k ≡ pos zero *ℤ k +ℤ n *ℤ k
    base = simp (+ℤ_idl, zero-*ℤ)

    up : (m : ℤ) → (m +ℤ n) *ℤ k ≡ m *ℤ k +ℤ n *ℤ k → (suc_ℤ m +ℤ n) *ℤ k ≡ suc_ℤ m *ℤ k +ℤ n *ℤ k
    up m h = simp (suc_ℤ-+ℤ, suc_ℤ-*ℤ, h, +ℤ_assoc) (ap (λ t. m *ℤ k +ℤ t) (+ℤ_comm (n *ℤ k) k))

    down : (m : ℤ) → (m +ℤ n) *ℤ k ≡ m *ℤ k +ℤ n *ℤ k → (pred_ℤ m +ℤ n) *ℤ k ≡ pred_ℤ m *ℤ k +ℤ n *ℤ k
    down m h = simp (pred_ℤ-+ℤ, pred_ℤ-*ℤ, h, +ℤ_assoc) (ap (λ t. m *ℤ k +ℤ t) (+ℤ_comm (n *ℤ k) (neg_ℤ k)))

pub distrib_l : (k m n : ℤ) → k *ℤ (m +ℤ n) ≡ k *ℤ m +ℤ k *ℤ n
distrib_l k m n = *ℤ_comm k (m +ℤ n) ∙ distrib_r m n k ∙ ap (λ t. t +ℤ n *ℤ k) (*ℤ_comm m k) ∙ ap (λ t. k *ℤ m +ℤ t) (*ℤ_comm n k)

-- what has the sum zero with a is its negation
neg_unique : (a b : ℤ) → a +ℤ b ≡ pos zero → b ≡ neg_ℤ a
neg_unique a b h = sym (+ℤ_idl b) ∙ ap (λ t. t +ℤ b) (sym (+ℤ_invl a)) ∙ +ℤ_assoc (neg_ℤ a) a b ∙ ap (λ t. neg_ℤ a +ℤ t) h ∙ +ℤ_idr (neg_ℤ a)

-- a product of a negation, from either side
pub neg_*ℤ : (m k : ℤ) → neg_ℤ m *ℤ k ≡ neg_ℤ (m *ℤ k)
neg_*ℤ m k = neg_unique (m *ℤ k) (neg_ℤ m *ℤ k) (sym (distrib_r m (neg_ℤ m) k) ∙ ap (λ t. t *ℤ k) (+ℤ_invr m) ∙ zero-*ℤ k)

pub *ℤ-neg : (m k : ℤ) → m *ℤ neg_ℤ k ≡ neg_ℤ (m *ℤ k)
*ℤ-neg m k = *ℤ_comm m (neg_ℤ k) ∙ neg_*ℤ k m ∙ ap neg_ℤ (*ℤ_comm k m)

-- products regroup
pub *ℤ-assoc : (m n k : ℤ) → (m *ℤ n) *ℤ k ≡ m *ℤ (n *ℤ k)
*ℤ-assoc m n k = ℤ_walk (λ m. (m *ℤ n) *ℤ k ≡ m *ℤ (n *ℤ k)) base up down m
  where
    base : (pos zero *ℤ n) *ℤ k ≡ pos zero *ℤ (n *ℤ k)
    base = simp zero-*ℤ

    up : (m : ℤ) → (m *ℤ n) *ℤ k ≡ m *ℤ (n *ℤ k) → (suc_ℤ m *ℤ n) *ℤ k ≡ suc_ℤ m *ℤ (n *ℤ k)
    up m h = simp (suc_ℤ-*ℤ, distrib_r, h)

    down : (m : ℤ) → (m *ℤ n) *ℤ k ≡ m *ℤ (n *ℤ k) → (pred_ℤ m *ℤ n) *ℤ k ≡ pred_ℤ m *ℤ (n *ℤ k)
    down m h = simp (pred_ℤ-*ℤ, distrib_r, neg_*ℤ, h)

-- and factors change places
pub *ℤ-left-comm : (a b c : ℤ) → a *ℤ (b *ℤ c) ≡ b *ℤ (a *ℤ c)
*ℤ-left-comm a b c = sym (*ℤ-assoc a b c) ∙ ap (λ t. t *ℤ c) (*ℤ_comm a b) ∙ *ℤ-assoc b a c

-- every sum of products comes to one form: for `simp`
pub ruleset ring = (distrib_r, distrib_l, neg_*ℤ, *ℤ-neg, neg_ℤ-+ℤ, neg_ℤ-neg_ℤ, *ℤ-assoc, *ℤ-left-comm, *ℤ_comm, +ℤ_assoc, +ℤ-left-comm, +ℤ_comm)
