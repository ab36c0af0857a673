-- What the words of a line say, by their number. Assumes nothing.
use Rattle.std.proofs.Common.{◌≡◌, ℕ, ◌<◌, List, [], length, None, Ok, refl, ap, ◌∙◌, arith}
use Rattle.std.proofs.lemmas.Bool.{cond-false, ne_eqb}
use Rattle.rows.specs.declared.line.Five.{Five}
use Rattle.rows.specs.Rows.{five_of, a_row, neither, says}
use Rattle.rows.specs.Words.{listed}

pub says_blank : (ws : List (List ℕ)) → ws ≡ [] → says ws ≡ Ok None
unfolding says
says_blank ws h = rw h refl

pub says_neither : (ws : List (List ℕ)) → 0 < length ws → (length ws ≡ 5 → ⊥) → says ws ≡ neither
unfolding says
says_neither ws some h = cond-false _ _ _ (ne_eqb (length ws) 0 (λ e. omega arith)) ∙ ap a_row (cond-false _ _ _ (ne_eqb (length ws) 5 h))

pub says_five : (ws : List (List ℕ)) (five : Five) → ws ≡ listed five → says ws ≡ a_row (five_of (listed five))
unfolding says
says_five ws five h = rw h refl
