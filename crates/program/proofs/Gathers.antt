-- What is told of terms in a row, one after the other. Assumes nothing.
use Rattle.std.proofs.Common.{◌≡◌, ℕ, zero, suc, ◌+◌, ◌-◌, ◌<◌, ◌≤◌, ◌⊎◌, List, [], ◌∷◌, length, get_or, drop, sym, refl, ap, ◌∙◌, subst, inl, inr, arith}
use Rattle.std.proofs.lemmas.List.{drop_all, drop-drop, drop_more}
use Rattle.program.specs.declared.measure.Measure.{Measure}
use Rattle.program.specs.declared.parts.Parts.{Parts}
use Rattle.program.specs.Measures.{nothing, terms, Gathered}

terms_none : (k : ℕ) → terms k [] ≡ []
terms_none zero = refl
terms_none (suc k) = refl

no_terms : (ms : List Measure) (from k : ℕ) → (k ≡ 0) ⊎ (length ms ≤ from) → terms k (drop from ms) ≡ []
no_terms ms from k (inl z) = ap (λ n. terms n (drop from ms)) z
no_terms ms from k (inr l) = ap (terms k) (drop_all from ms l) ∙ terms_none k

pub gather_none : (ms : List Measure) (from k : ℕ) (r : Parts) → (k ≡ 0) ⊎ (length ms ≤ from) → from ≤ length ms
    → r.nodes ≡ 0 → r.first ≡ 0 → r.second ≡ 0 → r.unrolled ≡ 0 → Gathered (length ms) from (terms k (drop from ms)) r
gather_none ms from k r why place n a b u =
    subst (λ ts. Gathered (length ms) from ts r) (sym (no_terms ms from k why)) (record { nodes = n; first = a; second = b; unrolled = u; within = omega arith })

-- the first of them, and those behind it
first_term : (ms : List Measure) (from k : ℕ) → from < length ms → 1 ≤ (get_or ms from nothing).nodes
    → terms (suc k) (drop from ms) ≡ get_or ms from nothing ∷ terms k (drop (from + (get_or ms from nothing).nodes) ms)
first_term ms from k h some =
    let t : Measure = get_or ms from nothing in
    ap (terms (suc k)) (drop_more ms from nothing h)
    ∙ ap (λ l. t ∷ terms k l) (drop-drop (t.nodes - 1) (from + 1) ms ∙ ap (λ n. drop n ms) (omega arith))

pub gather_more : (ms : List Measure) (from k : ℕ) (rest r : Parts) → from < length ms → 1 ≤ k → 1 ≤ (get_or ms from nothing).nodes
    → Gathered (length ms) (from + (get_or ms from nothing).nodes) (terms (k - 1) (drop (from + (get_or ms from nothing).nodes) ms)) rest
    → r.nodes ≡ (get_or ms from nothing).nodes + rest.nodes → r.first ≡ (get_or ms from nothing).elements → r.second ≡ rest.first → r.unrolled ≡ (get_or ms from nothing).unrolled + rest.unrolled
    → Gathered (length ms) from (terms k (drop from ms)) r
gather_more ms from k rest r h some one g n a b u =
    let t : Measure = get_or ms from nothing in
    let all = ap (λ n. terms n (drop from ms)) (let e : k ≡ suc (k - 1) = omega arith in e) ∙ first_term ms from (k - 1) h one in
    subst (λ ts. Gathered (length ms) from ts r) (sym all)
    (record { nodes = n ∙ ap (λ n. t.nodes + n) g.nodes; first = a; second = b ∙ g.first; unrolled = u ∙ ap (λ n. t.unrolled + n) g.unrolled; within = omega (arith, g.within) })
