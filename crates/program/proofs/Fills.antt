-- Telling of one node more, in front of those that were told of. Assumes nothing.
use Rattle.std.proofs.Common.{◌≡◌, ℕ, zero, suc, ◌+◌, ◌-◌, ◌*◌, ◌^◌, ◌<◌, ◌≤◌, min, List, [], ◌∷◌, map, length, get_or, drop, set, sym, refl, ap, ◌∙◌, subst, ap₂, inl, inr, arith, length-drop, length-set, get_or-set_other, get_or-set_same}
use Rattle.std.proofs.lemmas.List.{drop_more, drop-set}
use Rattle.std.proofs.lemmas.Bool.{cases_lt, cases_eq}
use Rattle.model.specs.declared.node.Node.{Node}
use Rattle.model.specs.declared.node.Node.TheVariants as v
use Rattle.model.specs.Nodes.{parts}
use Rattle.model.specs.Counts.{elements, unrolled}
use Rattle.program.specs.declared.measure.Measure.{Measure}
use Rattle.program.specs.declared.parts.Parts.{Parts}
use Rattle.program.specs.Measures.{cap, total, nothing, terms, over, over_parts, both, measures_of, Bounded, BoundedFrom, Gathered}
use Rattle.program.proofs.Told.{as_told}

-- more terms than there are nodes are no more
all_terms : (a b : ℕ) (ms : List Measure) → length ms ≤ a → length ms ≤ b → terms a ms ≡ terms b ms
all_terms zero zero [] p q = refl
all_terms zero (suc b) [] p q = refl
all_terms (suc a) zero [] p q = refl
all_terms (suc a) (suc b) [] p q = refl
all_terms zero b (m ∷ ms) p q = absurd (omega arith)
all_terms (suc a) zero (m ∷ ms) p q = absurd (omega arith)
all_terms (suc a) (suc b) (m ∷ ms) p q =
    let l = length-drop (m.nodes - 1) ms in
    ap (λ ts. m ∷ ts) (all_terms a b (drop (m.nodes - 1) ms) (omega arith) (omega arith))

pub cut_terms : (k : ℕ) (ms : List Measure) → length ms < 2 ^ 63 → terms (min k (2 ^ 64 - 1)) ms ≡ terms k ms
cut_terms k ms short =
    elim (cases_lt k (2 ^ 64)) [ inl h ↦ ap (λ n. terms n ms) (omega arith) | inr h ↦ all_terms (min k (2 ^ 64 - 1)) k ms (omega arith) (omega arith) ]

-- only the first part's elements and the second's are asked for
two_elements : (n : Node) (cs : List ℕ) → elements n cs ≡ elements n (get_or cs 0 0 ∷ get_or cs 1 0 ∷ [])
two_elements v.Empty cs = refl
two_elements (v.Primitive k a) cs = refl
two_elements (v.Place t a) cs = refl
two_elements (v.Join o) cs = refl
two_elements v.Fold cs = refl
two_elements (v.Vector a) cs = refl
two_elements (v.List n) cs = refl
two_elements (v.Repeat n) cs = refl
two_elements (v.Tabulate n) cs = refl
two_elements v.Concat cs = refl
two_elements (v.Sort n) cs = refl
two_elements (v.Unsort n) cs = refl
two_elements (v.Map2 t) cs = refl
two_elements (v.Number j) cs = refl

two_unrolled : (n : Node) (cs : List ℕ) (w : ℕ) → unrolled n cs w ≡ unrolled n (get_or cs 0 0 ∷ get_or cs 1 0 ∷ []) w
two_unrolled v.Empty cs w = refl
two_unrolled (v.Primitive k a) cs w = refl
two_unrolled (v.Place t a) cs w = refl
two_unrolled (v.Join o) cs w = refl
two_unrolled v.Fold cs w = refl
two_unrolled (v.Vector a) cs w = refl
two_unrolled (v.List n) cs w = refl
two_unrolled (v.Repeat n) cs w = refl
two_unrolled (v.Tabulate n) cs w = refl
two_unrolled v.Concat cs w = refl
two_unrolled (v.Sort n) cs w = refl
two_unrolled (v.Unsort n) cs w = refl
two_unrolled (v.Map2 t) cs w = refl
two_unrolled (v.Number j) cs w = refl

over_gathered : (n : Node) (ts : List Measure) (r : Parts) (long from : ℕ) → Gathered long from ts r → over_parts n r ≡ over n ts
over_gathered n ts r long from g =
    let cs : List ℕ = map (λ t. t.elements) ts in
    let two : both r ≡ get_or cs 0 0 ∷ get_or cs 1 0 ∷ [] = ap₂ (λ a b. a ∷ b ∷ []) g.first g.second in
    as_told _ _ _ _ _ _ (ap suc g.nodes) (ap (elements n) two ∙ sym (two_elements n cs))
    (ap₂ (λ l w. min (unrolled n l w) cap) two g.unrolled ∙ ap (λ w. min w cap) (sym (two_unrolled n cs (total (λ t. t.unrolled) ts))))

-- from a place on all nodes are told of
pub record Filled (nodes : List Node) (ms : List Measure) (place : ℕ) : Type 0 where
  pub even : length ms ≡ length nodes
  pub told : drop place ms ≡ measures_of (drop place nodes)
  pub bounded : BoundedFrom ms place

-- what is told of one place more is bounded
new_bounded : (ms : List Measure) (place j : ℕ) (t : Measure) → BoundedFrom ms (place + 1) → place < length ms → Bounded (length ms) place t → place ≤ j → j < length ms
    → Bounded (length ms) j (get_or (set ms place t) j nothing)
new_bounded ms place j t old here b above below =
    let P : ℕ → Measure → Type 0 = λ n m. Bounded (length ms) n m in
    elim (cases_eq j place) [
      | inl e ↦ subst (λ n. P n (get_or (set ms place t) n nothing)) (sym e) (subst (P place) (sym (get_or-set_same ms place t nothing here)) b)
      | inr e ↦ subst (P j) (sym (get_or-set_other ms place j t nothing e)) (old j (omega arith) below)
    ]

pub filled_more : (nodes : List Node) (ms : List Measure) (place k : ℕ) (n d : Node) (r : Parts) (t : Measure)
    → Filled nodes ms (place + 1) → place < length nodes → length ms < 2 ^ 63 → n ≡ get_or nodes place d → k ≡ min (parts n) (2 ^ 64 - 1)
    → Gathered (length ms) (place + 1) (terms k (drop (place + 1) ms)) r → t ≡ over_parts n r → t.elements ≤ t.nodes * 2 ^ 64 → Filled nodes (set ms place t) place
unfolding measures_of
filled_more nodes ms place k n d r t f within short is cut g value bound =
    let here : place < length ms = omega (arith, f.even) in
    let rest : List Measure = drop (place + 1) ms in
    let few : length rest < 2 ^ 63 = omega (arith, length-drop (place + 1) ms) in
    let now' : t ≡ over n (terms (parts n) (measures_of (drop (place + 1) nodes))) =
    value ∙ over_gathered n (terms k rest) r (length ms) (place + 1) g ∙ ap (over n) (ap (λ j. terms j rest) cut ∙ cut_terms (parts n) rest few ∙ ap (terms (parts n)) f.told) in
    let long = length-set ms place t in
    let own : Bounded (length ms) place t = record {
      some = omega (arith, ap (λ m. m.nodes) value);
      within = omega (arith, ap (λ m. m.nodes) value, g.within);
      elements = bound;
      unrolled = omega (arith, ap (λ m. m.unrolled) value);
    } in
    record {
      even = omega (arith, f.even);
      told = drop-set ms place t here ∙ ap₂ ◌∷◌ now' f.told ∙ sym (ap measures_of (drop_more nodes place d within ∙ ap (λ x. x ∷ drop (place + 1) nodes) (sym is)));
      bounded = λ j above below. subst (λ l. Bounded l j (get_or (set ms place t) j nothing)) (sym long) (new_bounded ms place j t f.bounded here own above (omega arith));
    }
