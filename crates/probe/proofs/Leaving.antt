-- The turns that take an answer to the frame on top. Assumes nothing.
use Rattle.std.proofs.Common.{◌≡◌, ℕ, ◌+◌, ◌*◌, ◌<◌, ◌≤◌, Bool, ◌||◌, List, [], ◌∷◌, ◌++◌, length, get_or, drop, Some, sym, refl, ap, ◌∙◌, subst, arith}
use Rattle.model.specs.declared.node.Node.{Node}
use Rattle.model.specs.declared.node.Operator.{Operator}
use Rattle.model.specs.declared.node.Operator.TheVariants.{Union}
use Rattle.model.specs.Families.{Meaning}
use Rattle.probe.specs.declared.task.Task.{Task}
use Rattle.probe.specs.declared.task.Frame.{Frame}
use Rattle.probe.specs.declared.task.Frame.TheVariants.{Left, Right, Rest}
use Rattle.probe.specs.declared.task.Turn.{Turn}
use Rattle.probe.specs.declared.task.Turn.TheVariants.{Enter, Leave}
use Rattle.std.proofs.lemmas.List.{drop_more, drop_all}
use Rattle.model.specs.Syntax.{solid, many}
use Rattle.model.specs.Counts.{count}
use Rattle.model.specs.Unrolling.{apply, belonging}
use Rattle.model.proofs.Counted.{length_run}
use Rattle.probe.specs.Terms.{term}
use Rattle.probe.specs.Walking.{both, Walk, walking, any, reserve, total, Sound, AllSound, walk, walks, said, Goes, Leads}
use Rattle.probe.proofs.Terms.{inside}
use Rattle.probe.proofs.Frames.{or_assoc, or_nothing, sound_last, goes_pop, goes_swap}

module _ (nodes : List Node) (fs : List Frame) where
  -- the frame on top is this one
  pub last_of : (f h : Frame) → f ≡ h → AllSound nodes 0 (fs ++ f ∷ []) → Sound nodes (length fs) h
  last_of f h e s = subst (Sound nodes (length fs)) e (sound_last nodes fs f s)

  module _ (m : Meaning) where
    seen : (f h : Frame) (t u : Turn) (gs : List Frame) → f ≡ h → (AllSound nodes 0 (fs ++ h ∷ []) → Goes nodes m (fs ++ h ∷ []) t gs u) → AllSound nodes 0 (fs ++ f ∷ []) → Goes nodes m (fs ++ f ∷ []) t gs u
    seen f h t u gs e k s = subst (λ z. Goes nodes m (fs ++ z ∷ []) t gs u) (sym e) (k (subst (λ z. AllSound nodes 0 (fs ++ z ∷ [])) e s))

    pub leave_left : (f : Frame) (o : Operator) (x : Task) (b : Bool) → f ≡ Left o x → AllSound nodes 0 (fs ++ f ∷ []) → Goes nodes m (fs ++ f ∷ []) (Leave b) (fs ++ Right o b ∷ []) (Enter x)
    leave_left f o x b e s =
        let l = last_of f (Left o x) e s in
        seen f (Left o x) (Leave b) (Enter x) (fs ++ Right o b ∷ []) e (λ z. goes_swap nodes m fs (Left o x) (Right o b) (Leave b) (Enter x) refl (omega arith) z tt (omega (arith, l.0), l.1)) s

    pub leave_right : (f : Frame) (o : Operator) (a b r : Bool) → f ≡ Right o a → r ≡ apply belonging o a b → AllSound nodes 0 (fs ++ f ∷ []) → Goes nodes m (fs ++ f ∷ []) (Leave b) fs (Leave r)
    leave_right f o a b r e q s = seen f (Right o a) (Leave b) (Leave r) fs e (λ z. goes_pop nodes m fs (Right o a) (Leave b) (Leave r) (ap Some q) (omega arith) z tt) s

    pub leave_done : (f : Frame) (x : Task) (k : ℕ) (a b r : Bool) → f ≡ Rest x k a → r ≡ (a || b) → count (term nodes (many solid) x.term.place) ≤ k → AllSound nodes 0 (fs ++ f ∷ []) → Goes nodes m (fs ++ f ∷ []) (Leave b) fs (Leave r)
    leave_done f x k a b r e q l s =
        let n = length_run (walking m) (term nodes (many solid) x.term.place) x.term.index in
        let z : drop k (walks nodes m x.term) ≡ [] = drop_all k (walks nodes m x.term) (omega arith) in
        seen f (Rest x k a) (Leave b) (Leave r) fs e
        (λ t. goes_pop nodes m fs (Rest x k a) (Leave b) (Leave r)
        (ap Some q ∙ sym (or_nothing (Some (a || b))) ∙ ap (λ p. both Union (Some (a || b)) (any p x.spot)) (sym z)) (omega arith) t tt) s

    pub leave_next : (f : Frame) (x y : Task) (k : ℕ) (a b r : Bool) → f ≡ Rest x k a → r ≡ (a || b) → k < count (term nodes (many solid) x.term.place) → length nodes ≤ 640
        → Leads nodes m x (get_or (walks nodes m x.term) k (walking m).empty) y → AllSound nodes 0 (fs ++ f ∷ []) → Goes nodes m (fs ++ f ∷ []) (Leave b) (fs ++ Rest x (k + 1) r ∷ []) (Enter y)
    leave_next f x y k a b r e q l few led s =
        let o = last_of f (Rest x k a) e s in
        let n = length_run (walking m) (term nodes (many solid) x.term.place) x.term.index in
        let w : Walk = get_or (walks nodes m x.term) k (walking m).empty in
        let us = drop (k + 1) (walks nodes m x.term) in
        let z : drop k (walks nodes m x.term) ≡ w ∷ us = drop_more (walks nodes m x.term) k (walking m).empty (omega arith) in
        let R = any us x.spot in
        let same : both Union (both Union (Some r) (said nodes m y)) R ≡ both Union (both Union (Some a) (Some b)) (any (drop k (walks nodes m x.term)) x.spot) =
        (λ j. both Union (both Union (Some (q j)) (led.same j)) R) ∙ sym (or_assoc (Some (a || b)) (w.says x.spot) R) ∙ ap (λ u. both Union (Some (a || b)) (any u x.spot)) (sym z) in
        let c : total (reserve x.term.place) (drop k (walks nodes m x.term)) ≡ (2560 * w.turns + reserve x.term.place) + total (reserve x.term.place) us = ap (total (reserve x.term.place)) z in
        let i = inside nodes (many solid) x.term.place o.1 in
        let le : (walk nodes m y.term).turns ≤ w.turns = led.turns in
        seen f (Rest x k a) (Leave b) (Enter y) (fs ++ Rest x (k + 1) r ∷ []) e
        (λ t. goes_swap nodes m fs (Rest x k a) (Rest x (k + 1) r) (Leave b) (Enter y) same (omega (arith, c, le, led.behind)) t o (omega (arith, o.0, led.behind), led.stands)) s
