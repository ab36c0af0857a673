use Rattle.std.proofs.Common.{◌≡◌, ℕ, ◌+◌, ◌-◌, Bool, true, false, ◌&&◌, eqb, List, [], ◌∷◌, length, get_or, drop, take, Some, None, Option, refl, sym, ap, ◌∙◌, arith}
use denote.Ref.{Bor}
use lib.Pointwise.{pointwise}
use Rattle.std.specs.Option.{MatchOption, unwrap_or}
use Rattle.std.proofs.lemmas.List.{drop_more, drop_all}
use Rattle.std.proofs.lemmas.Bool.{cond-true, cond-false}
use Rattle.rows.specs.Pieces.{without_return}
use Rattle.rows.proofs.line.without_return.Goals as goal

last_byte : (line : List ℕ) (i : ℕ) → i + 1 ≡ length line → pointwise eqb (drop i line) (13 ∷ []) ≡ eqb (get_or line i 0) 13
last_byte line i e =
    let rest : drop i line ≡ get_or line i 0 ∷ [] = drop_more line i 0 (omega arith) ∙ ap (λ xs. get_or line i 0 ∷ xs) (drop_all (i + 1) line (omega arith)) in
    ap (λ xs. pointwise eqb xs (13 ∷ [])) rest ∙ alone (eqb (get_or line i 0) 13)
  where
    alone : (b : Bool) → (b && true) ≡ b
    alone true = refl
    alone false = refl

-- whether a line ends with a carriage return
last_is : (line : List ℕ) → pointwise eqb (drop (length line - 1) line) (13 ∷ []) ≡ eqb (get_or line (length line - 1) 0) 13
last_is [] = grind arith
last_is (b ∷ line) = last_byte (b ∷ line) (length (b ∷ line) - 1) (omega arith)

stripped : (line : Bor (List ℕ)) (o : Option (Bor (List ℕ))) →
    MatchOption o (pointwise eqb (drop (length line.now - 1) line.now) (13 ∷ []) ≡ false) (λ x. (pointwise eqb (drop (length line.now - 1) line.now) (13 ∷ []) ≡ true) × (x.now ≡ take (length line.now - 1) line.now) × (length x.now + 1 ≡ length line.now))
    → (unwrap_or o line).now ≡ without_return line.now
unfolding without_return
stripped line None h = sym (cond-false _ _ _ (sym (last_is line.now) ∙ h))
stripped line (Some x) h = h.1 ∙ sym (cond-true _ _ _ (sym (last_is line.now) ∙ h.0))

pub returns : goal.returns
returns c = ap (λ (x : Bor (List ℕ)). x.now) c.unwrap_or.ensures ∙ stripped c.args.line c.strip_suffix.result c.strip_suffix.ensures.cases
