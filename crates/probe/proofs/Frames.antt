-- The frames of a walk, and what a turn does to them. Assumes nothing.
use Rattle.std.proofs.Common.{◌≡◌, ℕ, suc, ◌+◌, ◌<◌, true, false, List, [], ◌∷◌, ◌++◌, length, Some, None, sym, refl, ap, ◌∙◌, subst, arith, length-append}
use Rattle.model.specs.declared.node.Node.{Node}
use Rattle.model.specs.declared.node.Operator.TheVariants.{Union}
use Rattle.model.specs.Families.{Meaning}
use Rattle.probe.specs.declared.task.Frame.{Frame}
use Rattle.probe.specs.declared.task.Frame.TheVariants.{Left, Right, Rest}
use Rattle.probe.specs.declared.task.Turn.{Turn}
use Rattle.probe.specs.Walking.{Answer, both, Sound, AllSound, Low, after, resume, left, work, turn_says, turn_cost, Goes}

-- ---- answers
pub or_assoc : (a b c : Answer) → both Union a (both Union b c) ≡ both Union (both Union a b) c
or_assoc None b c = refl
or_assoc (Some a) None c = refl
or_assoc (Some a) (Some b) None = refl
or_assoc (Some true) (Some b) (Some c) = refl
or_assoc (Some false) (Some b) (Some c) = refl

pub or_false : (a : Answer) → both Union (Some false) a ≡ a
or_false None = refl
or_false (Some b) = refl

pub or_nothing : (a : Answer) → both Union a (Some false) ≡ a
or_nothing None = refl
or_nothing (Some true) = refl
or_nothing (Some false) = refl

length_push : (fs : List Frame) (f : Frame) → length (fs ++ f ∷ []) ≡ suc (length fs)
length_push fs f = omega (arith, length-append fs (f ∷ []))

module _ (nodes : List Node) where
  sound_push : (t : ℕ) (fs : List Frame) (f : Frame) → AllSound nodes t fs → Sound nodes (t + length fs) f → AllSound nodes t (fs ++ f ∷ [])
  sound_push t [] f s h = (let P : ℕ → Type 0 = λ n. Sound nodes n f in let e : t + 0 ≡ t = omega arith in subst P e h, tt)
  sound_push t (g ∷ fs) f s h = (s.0, sound_push (suc t) fs f s.1 (let P : ℕ → Type 0 = λ n. Sound nodes n f in let e : t + suc (length fs) ≡ suc t + length fs = omega arith in subst P e h))

  sound_front : (t : ℕ) (fs : List Frame) (f : Frame) → AllSound nodes t (fs ++ f ∷ []) → AllSound nodes t fs
  sound_front t [] f s = tt
  sound_front t (g ∷ fs) f s = (s.0, sound_front (suc t) fs f s.1)

  sound_top : (t : ℕ) (fs : List Frame) (f : Frame) → AllSound nodes t (fs ++ f ∷ []) → Sound nodes (t + length fs) f
  sound_top t [] f s = let P : ℕ → Type 0 = λ n. Sound nodes n f in let e : t ≡ t + 0 = omega arith in subst P e s.0
  sound_top t (g ∷ fs) f s = let P : ℕ → Type 0 = λ n. Sound nodes n f in let e : suc t + length fs ≡ t + suc (length fs) = omega arith in subst P e (sound_top (suc t) fs f s.1)

  -- the frame on top
  pub sound_last : (fs : List Frame) (f : Frame) → AllSound nodes 0 (fs ++ f ∷ []) → Sound nodes (length fs) f
  sound_last fs f s = let P : ℕ → Type 0 = λ n. Sound nodes n f in let e : 0 + length fs ≡ length fs = omega arith in subst P e (sound_top 0 fs f s)

  above : (fs : List Frame) (f : Frame) → AllSound nodes 0 fs → Sound nodes (length fs) f → AllSound nodes 0 (fs ++ f ∷ [])
  above fs f s h = sound_push 0 fs f s (let P : ℕ → Type 0 = λ n. Sound nodes n f in let e : length fs ≡ 0 + length fs = omega arith in subst P e h)

  module _ (m : Meaning) where
    pub resume_push : (fs : List Frame) (f : Frame) (a : Answer) → resume nodes m (fs ++ f ∷ []) a ≡ resume nodes m fs (after nodes m f a)
    unfolding resume
    resume_push [] f a = refl
    resume_push (g ∷ fs) f a = ap (after nodes m g) (resume_push fs f a)

    after_none : (f : Frame) → after nodes m f None ≡ None
    after_none (Left o x) = refl
    after_none (Right o b) = refl
    after_none (Rest x k b) = refl

    pub resume_none : (fs : List Frame) → resume nodes m fs None ≡ None
    unfolding resume
    resume_none [] = refl
    resume_none (f ∷ fs) = ap (after nodes m f) (resume_none fs) ∙ after_none f

    work_push : (fs : List Frame) (f : Frame) → work nodes m (fs ++ f ∷ []) ≡ work nodes m fs + left nodes m f
    unfolding work
    work_push [] f = omega arith
    work_push (g ∷ fs) f = omega (arith, work_push fs f)

    -- ---- a turn leaves the frames, pushes one, pops one or puts one for another
    pub goes_stay : (fs : List Frame) (t u : Turn) → turn_says nodes m u ≡ turn_says nodes m t → turn_cost nodes m u < turn_cost nodes m t → AllSound nodes 0 fs → Low nodes (length fs) u → Goes nodes m fs t fs u
    goes_stay fs t u e l s w = record { same = ap (resume nodes m fs) e; less = omega arith; sound = s; low = w }

    pub goes_push : (fs : List Frame) (f : Frame) (t u : Turn) → after nodes m f (turn_says nodes m u) ≡ turn_says nodes m t → left nodes m f + turn_cost nodes m u < turn_cost nodes m t
        → AllSound nodes 0 fs → Sound nodes (length fs) f → Low nodes (suc (length fs)) u → Goes nodes m fs t (fs ++ f ∷ []) u
    goes_push fs f t u e l s h w = record {
      same = resume_push fs f (turn_says nodes m u) ∙ ap (resume nodes m fs) e;
      less = omega (arith, work_push fs f);
      sound = above fs f s h;
      low = (let P : ℕ → Type 0 = λ n. Low nodes n u in subst P (sym (length_push fs f)) w);
    }

    pub goes_pop : (fs : List Frame) (f : Frame) (t u : Turn) → turn_says nodes m u ≡ after nodes m f (turn_says nodes m t) → turn_cost nodes m u < left nodes m f + turn_cost nodes m t
        → AllSound nodes 0 (fs ++ f ∷ []) → Low nodes (length fs) u → Goes nodes m (fs ++ f ∷ []) t fs u
    goes_pop fs f t u e l s w = record {
      same = ap (resume nodes m fs) e ∙ sym (resume_push fs f (turn_says nodes m t));
      less = omega (arith, work_push fs f);
      sound = sound_front 0 fs f s;
      low = w;
    }

    pub goes_swap : (fs : List Frame) (f h : Frame) (t u : Turn) → after nodes m h (turn_says nodes m u) ≡ after nodes m f (turn_says nodes m t) → left nodes m h + turn_cost nodes m u < left nodes m f + turn_cost nodes m t
        → AllSound nodes 0 (fs ++ f ∷ []) → Sound nodes (length fs) h → Low nodes (suc (length fs)) u → Goes nodes m (fs ++ f ∷ []) t (fs ++ h ∷ []) u
    goes_swap fs f h t u e l s k w = record {
      same = resume_push fs h (turn_says nodes m u) ∙ ap (resume nodes m fs) e ∙ sym (resume_push fs f (turn_says nodes m t));
      less = omega (arith, work_push fs f, work_push fs h);
      sound = above fs h (sound_front 0 fs f s) k;
      low = (let P : ℕ → Type 0 = λ n. Low nodes n u in subst P (sym (length_push fs h)) w);
    }
