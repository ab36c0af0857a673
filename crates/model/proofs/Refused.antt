-- Where each refusal stands. Assumes nothing.
use Rattle.std.proofs.Common.{◌≡◌, ℕ, suc, ◌+◌, ◌≤◌, List, [], ◌∷◌, length, sym, ap, ◌∙◌, append_assoc, arith}
use mathlib.Core.Option.{Option, some}
use mathlib.Core.Option as O
use lib.ListN.{length-map}
use Rattle.std.proofs.lemmas.Bool.{cond_both}
use Rattle.model.specs.Limits.{most_levels}
use Rattle.model.specs.declared.refusal.Span.{Span}
use Rattle.model.specs.declared.refusal.Refusal.TheVariants.{NoToken, NoSolid, TooLarge}
use Rattle.model.specs.Syntax.{size}
use Rattle.model.specs.Tokens.{Token}
use Rattle.model.specs.Feed.{end}
use Rattle.model.specs.Grammar.{Goal, Move, stuck, on, node, move, moved, run, room, Outcome, whole, refused}
use Rattle.model.specs.Readings.{alone, firsts, first_over, RoomFor, FirstStop, FirstBad, FirstOver}
use Rattle.model.proofs.Back.{ended, exact}
use Rattle.model.proofs.Stops.{fed, start, Passes, goes_on, halt, judged_told}

-- spans that say which token they are of
place : ℕ → Span
place j = record { at = j; len = 0 }

ended_over : (o : Option ℕ) (n j : ℕ) → ended place o (whole n) ≡ refused (TooLarge (place j)) → o ≡ some j
unfolding place
ended_over O.none n j q = cc
ended_over (some k) n j q = let p : place k ≡ place j = cc in ap (λ s. some s.at) p

pub over_first : FirstOver
over_first f s p =
    let h = judged_told f (refused (TooLarge s)) p in
    let us = alone h.0 in
    record {
      passed = h.0;
      first = h.1;
      rest = h.2;
      stands = h.3;
      goes_on = goes_on _ h.4;
      over = λ e r x q.
          ended_over (first_over 0 (firsts e 0 most_levels)) (0 + size e) (0 + length us)
          (sym (exact e x place 0 most_levels 0 (end 0) [])
          ∙ ap (λ vs. run (fed place 0 vs (end 0)) start 0) (q ∙ append_assoc us (h.1 ∷ []) r)
          ∙ h.5 place 0 r (end 0))
          ∙ ap some (omega (arith, length-map h.0 (λ t. t.0)));
    }

late_by : (m : Move) (go : List Goal → ℕ → Outcome) (n k : ℕ) (s : Span) → ((hs : List Goal) (l : ℕ) → go hs l ≡ refused (TooLarge s) → k ≤ s.at) → moved m go n (place k) ≡ refused (TooLarge s) → k ≤ s.at
unfolding place
late_by stuck go n k s later q = cc
late_by (on hs) go n k s later q = later hs n q
late_by (node d hs) go n k s later q =
    cond_both (room d n) (go hs (n + 1)) (refused (TooLarge (place k))) (λ o. o ≡ refused (TooLarge s) → k ≤ s.at)
    (λ _ p. later hs (n + 1) p) (λ _ p. let e : place k ≡ s = cc in omega (arith, ap (λ x. x.at) e)) q

-- a limit is passed no earlier than at the first token
late : (r : List Token) (gs : List Goal) (n k : ℕ) (s : Span) → run (fed place k r (end 0)) gs n ≡ refused (TooLarge s) → k ≤ s.at
unfolding place
late [] [] n k s q = cc
late (t ∷ r) (g ∷ gs) n k s q = late_by (move g gs t) (run (fed place (suc k) r (end 0))) n k s (λ hs m p. let l = late r hs m (suc k) s p in omega arith) q
late _ _ n k s q = cc

passes_room : (us : List Token) → Passes us start 0 → RoomFor us
unfolding place
passes_room us p e r x q j o =
    let here : run (fed place (0 + length us) r (end 0)) p.0 p.1 ≡ refused (TooLarge (place j)) =
    sym (p.2 place 0 r (end 0)) ∙ ap (λ vs. run (fed place 0 vs (end 0)) start 0) (sym q) ∙ exact e x place 0 most_levels 0 (end 0) [] ∙ ap (λ k. ended place k (run (end 0) [] (0 + size e))) o in
    let l = late r p.0 p.1 (0 + length us) (place j) here in
    omega arith

pub first_stop : FirstStop
first_stop f s p =
    let h = judged_told f (refused (NoSolid s)) p in
    record { passed = h.0; rest = h.1; stands = h.2; goes_on = goes_on _ h.3; room = passes_room _ h.5; halts = halt (alone h.0) s h.1 h.4 }

pub first_bad : FirstBad
first_bad f s p =
    let h = judged_told f (refused (NoToken s)) p in
    record { passed = h.0; stands = h.1; goes_on = goes_on _ h.2; room = passes_room _ h.3 }
