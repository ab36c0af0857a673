-- What each outcome of a run says of the goals. Assumes nothing.
use Rattle.std.proofs.Common.{◌≡◌, ℕ, suc, ◌+◌, true, false, List, [], ◌∷◌, ◌++◌, length, sym, refl, ap, ◌∙◌, subst, append_assoc, append-nil, arith}
use Rattle.std.proofs.lemmas.Bool.{cond_both, cond-true, cond-false}
use Rattle.model.specs.Limits.{most_levels}
use Rattle.model.specs.declared.refusal.Span.{Span}
use Rattle.model.specs.declared.refusal.Refusal.TheVariants.{NoToken, NoSolid, TooLarge}
use Rattle.model.specs.Syntax.{solid, Solid, textual}
use Rattle.model.specs.Tokens.{Token, tokens}
use Rattle.model.specs.Feed.{Feed, token, bad, end, said, Clean}
use Rattle.model.specs.Grammar.{Goal, element, Move, stuck, on, node, move, moved, room, run, Outcome, whole, refused, judged}
use Rattle.model.specs.Readings.{before, alone, GoesOn, Halt, at_token, at_end, WholeReading}
use Rattle.model.proofs.Derive.{GenAll, After, forth}
use Rattle.model.proofs.Rejoin.{back, met}

-- tokens in front of a feed, with spans by their places from i on
abbrev pub fed : (ℕ → Span) → ℕ → List Token → Feed → Feed
fed sp i [] f = f
fed sp i (t ∷ us) f = token t (sp i) (fed sp (suc i) us f)

-- what the goals stand for begins with these tokens
abbrev pub Begun : List Goal → List Token → Type 0
Begun gs us = (r : List Token) × GenAll gs (us ++ r)

-- nothing that the goals stand for goes on from ts with what follows
pub data Halted (gs : List Goal) (ts : List Token) (s : Span) : Feed → Type 0 where
  by_token : (t : Token) (f : Feed) → ((r : List Token) → GenAll gs (ts ++ (t ∷ r)) → ⊥) → Halted gs ts s (token t s f)
  by_end : (b : ℕ) → s ≡ record { at = b; len = 0 } → (GenAll gs ts → ⊥) → Halted gs ts s (end b)

-- the run stops at that token whatever follows it, and whatever the spans
abbrev pub Stays : List Token → Token → List Goal → ℕ → Type 0
Stays us t gs n = (sp : ℕ → Span) (i : ℕ) (r : List Token) (f : Feed) → run (fed sp i (us ++ (t ∷ r)) f) gs n ≡ refused (TooLarge (sp (i + length us)))

-- the run gets past these tokens whatever follows them, and whatever the spans
abbrev pub Passes : List Token → List Goal → ℕ → Type 0
Passes us gs n = (hs : List Goal) × (m : ℕ) × ((sp : ℕ → Span) (i : ℕ) (r : List Token) (f : Feed) → run (fed sp i (us ++ r) f) gs n ≡ run (fed sp (i + length us) r f) hs m)

passes_none : (gs : List Goal) (n : ℕ) → Passes [] gs n
passes_none gs n = (gs, n, λ sp i r f. ap (λ j. run (fed sp j r f) gs n) (omega arith))

-- what an outcome, with n nodes so far, says of the feed and the goals
abbrev pub Told : Feed → List Goal → ℕ → Outcome → Type 0
Told f gs n (whole m) = GenAll gs (said f) × Clean f
Told f gs n (refused (NoToken s)) = (ts : List (Token × Span)) × (f ≡ before ts (bad s)) × Begun gs (alone ts) × Passes (alone ts) gs n
Told f gs n (refused (NoSolid s)) = (ts : List (Token × Span)) × (f' : Feed) × (f ≡ before ts f') × Begun gs (alone ts) × Halted gs (alone ts) s f' × Passes (alone ts) gs n
Told f gs n (refused (TooLarge s)) = (ts : List (Token × Span)) × (t : Token) × (f' : Feed) × (f ≡ before ts (token t s f')) × Begun gs (alone ts ++ (t ∷ [])) × Stays (alone ts) t gs n

not_nil : {t : Token} {us : List Token} → [] ≡ t ∷ us → ⊥
not_nil e = cc

-- the first token of what goals stand for moves them on
onward : (g : Goal) (gs : List Goal) (t : Token) (us : List Token) → GenAll (g ∷ gs) (t ∷ us) → After (move g gs t) us
onward g gs t us h =
    let f = forth g gs (t ∷ us) h in
    let same = f.2 in
    let one : f.0 ≡ t = cc in
    let rest : f.1 ≡ us = cc in
    subst (λ u. After (move g gs u) us) one (subst (λ v. After (move g gs f.0) v) rest f.3)

-- a token moves the first goal on to the goals hs
module _ (g : Goal) (gs hs : List Goal) (t : Token) (s : Span) (f : Feed) (there : (us : List Token) → After (move g gs t) us → GenAll hs us) (here : (us : List Token) → GenAll hs us → After (move g gs t) us) where
  whole_on : (us : List Token) → GenAll hs us → GenAll (g ∷ gs) (t ∷ us)
  whole_on us h = back g gs t us (here us h)

  halted_on : (ts : List Token) (u : Span) (f' : Feed) → Halted hs ts u f' → Halted (g ∷ gs) (t ∷ ts) u f'
  halted_on ts u _ (by_token t' f' h) = by_token t' f' (λ r x. h r (there _ (onward g gs t _ x)))
  halted_on ts u _ (by_end b e h) = by_end b e (λ x. h (there _ (onward g gs t _ x)))

  passes_on : (n m : ℕ) (us : List Token) → ((k : Feed) (sp : Span) → run (token t sp k) (g ∷ gs) n ≡ run k hs m) → Passes us hs m → Passes (t ∷ us) (g ∷ gs) n
  passes_on n m us goes h = (h.0, h.1, λ sp i r k. goes _ (sp i) ∙ h.2 sp (suc i) r k ∙ ap (λ j. run (fed sp j r k) h.0 h.1) (omega arith))

  told_on : (n m : ℕ) (o : Outcome) → ((k : Feed) (sp : Span) → run (token t sp k) (g ∷ gs) n ≡ run k hs m) → Told f hs m o → Told (token t s f) (g ∷ gs) n o
  told_on n m (whole l) goes h = (whole_on (said f) h.0, h.1)
  told_on n m (refused (NoToken u)) goes h = ((t, s) ∷ h.0, ap (token t s) h.1, (h.2.0, whole_on _ h.2.1), passes_on n m _ goes h.3)
  told_on n m (refused (NoSolid u)) goes h = ((t, s) ∷ h.0, h.1, ap (token t s) h.2, (h.3.0, whole_on _ h.3.1), halted_on (alone h.0) u h.1 h.4, passes_on n m _ goes h.5)
  told_on n m (refused (TooLarge u)) goes h = ((t, s) ∷ h.0, h.1, h.2, ap (token t s) h.3, (h.4.0, whole_on _ h.4.1), (λ sp i r k. goes _ (sp i) ∙ h.5 sp (suc i) r k ∙ ap (λ j. refused (TooLarge (sp j))) (omega arith)))

-- a node that does not fit
over : (g : Goal) (gs hs : List Goal) (d n : ℕ) (t : Token) (s : Span) (f : Feed) → move g gs t ≡ node d hs → room d n ≡ false → Told (token t s f) (g ∷ gs) n (refused (TooLarge s))
over g gs hs d n t s f p x =
    let r = met hs in (
      [],
      t,
      f,
      refl,
      (r.0, back g gs t r.0 (subst (λ m. After m r.0) (sym p) r.1)),
      (λ sp i us k. ap (λ m. moved m (run (fed sp (suc i) us k)) n (sp i)) p ∙ cond-false (room d n) _ _ x ∙ ap (λ j. refused (TooLarge (sp j))) (omega arith)),
    )

by_move : (m : Move) (g : Goal) (gs : List Goal) (t : Token) (s : Span) (f : Feed) (n : ℕ) → move g gs t ≡ m → ((hs : List Goal) (l : ℕ) → Told f hs l (run f hs l)) → Told (token t s f) (g ∷ gs) n (moved m (run f) n s)
by_move stuck g gs t s f n p ih = ([], token t s f, refl, met (g ∷ gs), by_token t f (λ r x. subst (λ m. After m r) p (onward g gs t r x)), passes_none (g ∷ gs) n)
by_move (on hs) g gs t s f n p ih =
    told_on g gs hs t s f (λ us a. subst (λ m. After m us) p a) (λ us a. subst (λ m. After m us) (sym p) a) n n (run f hs n) (λ k sp. ap (λ m. moved m (run k) n sp) p) (ih hs n)
by_move (node d hs) g gs t s f n p ih =
    cond_both (room d n) (run f hs (n + 1)) (refused (TooLarge s)) (Told (token t s f) (g ∷ gs) n)
    (λ x. told_on g gs hs t s f (λ us a. subst (λ m. After m us) p a) (λ us a. subst (λ m. After m us) (sym p) a) n (n + 1) (run f hs (n + 1)) (λ k sp. ap (λ m. moved m (run k) n sp) p ∙ cond-true (room d n) _ _ x) (ih hs (n + 1)))
    (λ x. over g gs hs d n t s f p x)

pub told : (f : Feed) (gs : List Goal) (n : ℕ) → Told f gs n (run f gs n)
told (bad s) gs n = ([], refl, met gs, passes_none gs n)
told (end b) [] n = (refl, tt)
told (end b) (g ∷ gs) n = ([], end b, refl, met (g ∷ gs), by_end b refl (λ h. not_nil (forth g gs [] h).2), passes_none (g ∷ gs) n)
told (token t s f) [] n = ([], token t s f, refl, ([], refl), by_token t f (λ r h. not_nil (sym h)), passes_none [] n)
told (token t s f) (g ∷ gs) n = by_move (move g gs t) g gs t s f n refl (λ hs l. told f hs l)

-- what is to come of a whole text
abbrev pub start : List Goal
start = element solid most_levels ∷ []

one_solid : (us : List Token) → GenAll start us → (e : Solid) × (textual e ≡ true) × (us ≡ tokens e)
one_solid us h = let m = h.1 in (m.0, m.1, m.2 ∙ ap (λ l. tokens m.0 ++ l) h.2 ∙ append-nil (tokens m.0))

as_goal : (e : Solid) (us : List Token) → textual e ≡ true → tokens e ≡ us → GenAll start us
as_goal e us x p = ([], (e, x, sym p ∙ sym (append-nil (tokens e))), refl)

pub goes_on : (us : List Token) → Begun start us → GoesOn us
goes_on us b = let o = one_solid (us ++ b.0) b.1 in (o.0, o.1, b.0, sym o.2)

-- the same of a whole text
pub halt : (ts : List Token) (s : Span) (f : Feed) → Halted start ts s f → Halt ts s f
halt ts s _ (by_token t f h) = at_token t f (λ g. h g.2 (as_goal g.0 _ g.1 (g.3 ∙ append_assoc ts (t ∷ []) g.2)))
halt ts s _ (by_end b e h) = at_end b e (λ x z p. h (as_goal x ts z p))

pub judged_told : (f : Feed) (o : Outcome) → judged f ≡ o → Told f start 0 o
judged_told f o p = subst (Told f start 0) p (told f start 0)

pub whole_reading : WholeReading
whole_reading f n p =
    let h = judged_told f (whole n) p in
    let o = one_solid (said f) h.0 in
    (o.0, o.1, o.2, h.1)
