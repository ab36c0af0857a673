-- Lists of what expressions come to. Assumes nothing.
use Rattle.std.proofs.Common.{◌≡◌, ℕ, zero, suc, ◌+◌, ◌<◌, min, List, [], ◌∷◌, ◌++◌, length, get_or, replicate, refl, ap, ◌∙◌, arith}
use Rattle.std.proofs.lemmas.List.{get_or-replicate, get_or_append_left, get_or-append-add}
use Rattle.model.specs.Shapes.{from, zip_with}

pub length_from : {A : Type 0} (f : ℕ → A) (i n : ℕ) → length (from f i n) ≡ n
length_from f i zero = refl
length_from f i (suc n) = ap suc (length_from f (suc i) n)

pub length_zip : {A B C : Type 0} (f : A → B → C) (l : List A) (m : List B) → length (zip_with f l m) ≡ min (length l) (length m)
length_zip f [] m = omega arith
length_zip f (a ∷ l) [] = omega arith
length_zip f (a ∷ l) (b ∷ m) = let h = length_zip f l m in omega arith

-- ---- single elements
pub at_from : {A : Type 0} (f : ℕ → A) (i n k : ℕ) (d : A) → k < n → get_or (from f i n) k d ≡ f (i + k)
at_from f i zero k d h = absurd (omega arith)
at_from f i (suc n) zero d h = ap f (omega arith)
at_from f i (suc n) (suc k) d h = at_from f (suc i) n k d (omega arith) ∙ ap f (omega arith)

pub at_replicate : {A : Type 0} (n k : ℕ) (a d : A) → k < n → get_or (replicate n a) k d ≡ a
at_replicate n k a d h = get_or-replicate n k a d h

pub at_zip : {A B C : Type 0} (f : A → B → C) (l : List A) (m : List B) (k : ℕ) (a : A) (b : B) (c : C) → k < length l → k < length m
    → get_or (zip_with f l m) k c ≡ f (get_or l k a) (get_or m k b)
at_zip f (x ∷ l) (y ∷ m) zero a b c p q = refl
at_zip f (x ∷ l) (y ∷ m) (suc k) a b c p q = at_zip f l m k a b c (omega arith) (omega arith)
at_zip f _ _ k a b c p q = absurd (omega arith)

pub at_front : {A : Type 0} (l m : List A) (k : ℕ) (d : A) → k < length l → get_or (l ++ m) k d ≡ get_or l k d
at_front l m k d h = get_or_append_left l m d k h

pub at_back : {A : Type 0} (l m : List A) (k : ℕ) (d : A) → get_or (l ++ m) (length l + k) d ≡ get_or m k d
at_back l m k d = get_or-append-add l m k d
