-- A turn of the loop over the lines of a text. Assumes nothing.
use Rattle.std.proofs.Common.{◌≡◌, ℕ, ◌+◌, ◌<◌, eqb, List, [], ◌∷◌, ◌++◌, length, get_or, take, Some, None, Option, Ok, Result, sym, refl, ap, ◌∙◌, ◌⊎◌, inl, inr, subst, append-nil, length-append, arith}
use Rattle.std.specs.List.{AllByRecursion, enumerate_from}
use Rattle.std.proofs.lemmas.List.FromFn.{length-enumerate_from, get_or-enumerate_from}
use Rattle.std.proofs.ByRecursion.{All-more}
use Rattle.std.proofs.lemmas.List.{take-append-le, get_or_append_left, get_or_default, take_more, take_all, flat_map_more, nil_from_length}
use Rattle.std.proofs.lemmas.Grind.{flat_map-append}
use Rattle.std.proofs.Math.Seq.{get_or-append_seam}
use Rattle.std.proofs.lemmas.Bool.{cases_Bool, cases_lt, cond-true, cond-false, eqb-true}
use Rattle.family.specs.declared.catalogue.Row.{Row}
use Rattle.rows.specs.declared.line.Neither.{Neither}
use Rattle.rows.specs.Pieces.{without_empty_last, without_return, words}
use Rattle.rows.specs.Rows.{says}
use Rattle.rows.specs.Reading.{said, Readable, row_list, rows_of, Reaches}

-- n parts are read, which say these rows
pub record ReadsTo (parts : List (List ℕ)) (n : ℕ) (rows : List Row) : Type 0 where
  pub readable : AllByRecursion Readable (take n parts)
  pub so_far : rows ≡ rows_of (take n parts)

pub turn : (parts : List (List ℕ)) (n m : ℕ) (rows after : List Row) (line : List ℕ) → n < length parts → m ≡ n + 1 → line ≡ get_or parts n [] → ReadsTo parts n rows → Readable line → after ≡ rows ++ row_list (said line) → ReadsTo parts m after
turn parts n m rows after line h next is r readable e =
    subst (λ m. ReadsTo parts m after) (sym next)
    (record {
      readable = All-more Readable parts n [] h r.readable (subst Readable is readable);
      so_far =
          e ∙ ap (λ xs. xs ++ row_list (said line)) r.so_far
          ∙ ap (λ x. rows_of (take n parts) ++ row_list (said x)) is
          ∙ flat_map_more (λ x. row_list (said x)) [] (take n parts) (get_or parts n [])
          ∙ sym (ap rows_of (take_more parts n [] h));
    })

-- an empty part says nothing
said_nothing : said [] ≡ Ok None
unfolding without_return words says
said_nothing = refl

-- the parts are the lines, or the last part is empty and the others are the lines
split : (parts : List (List ℕ)) → (without_empty_last parts ≡ parts) ⊎ (parts ≡ without_empty_last parts ++ ([] ∷ []))
split [] = inl refl
split (x ∷ []) =
    elim (cases_Bool (eqb (length x) 0)) [
      | inl e ↦ inr (ap (λ y. y ∷ []) (nil_from_length x (eqb-true (length x) 0 e)) ∙ sym (ap (λ ls. ls ++ ([] ∷ [])) (cond-true _ _ _ e)))
      | inr e ↦ inl (cond-false _ _ _ e)
    ]
split (x ∷ y ∷ more) =
    elim (split (y ∷ more)) [
      | inl e ↦ inl (ap (λ ls. x ∷ ls) e)
      | inr e ↦ inr (ap (λ ls. x ∷ ls) e)
    ]

-- a part that says more than nothing is a line, and the lines before it are the parts before it
pub reached : (parts : List (List ℕ)) (n : ℕ) (rows : List Row) (x : Result (Option Row) Neither) → n < length parts → ReadsTo parts n rows → said (get_or parts n []) ≡ x → (x ≡ Ok None → ⊥) → Reaches (without_empty_last parts) n x
reached parts n rows x h r e some =
    let ls = without_empty_last parts in
    elim (split parts) [
      | inl all ↦ subst (λ ls. Reaches ls n x) (sym all) (h, r.readable, e)
      | inr but ↦
          elim (cases_lt n (length ls)) [
            | inl within ↦
                let front : take n parts ≡ take n ls = ap (take n) but ∙ take-append-le n ls ([] ∷ []) (omega arith) in
                let here : get_or parts n [] ≡ get_or ls n [] = ap (λ ps. get_or ps n []) but ∙ get_or_append_left ls ([] ∷ []) [] n within in
                (within, subst (AllByRecursion Readable) front r.readable, ap said (sym here) ∙ e)
            | inr past ↦
                let last : n ≡ length ls = omega (arith, ap length but, length-append ls ([] ∷ [])) in
                let empty : get_or parts n [] ≡ [] = ap (λ ps. get_or ps n []) but ∙ ap (λ k. get_or (ls ++ ([] ∷ [])) k []) last ∙ get_or-append_seam ls [] [] [] in
                absurd (some (sym e ∙ ap said empty ∙ said_nothing))
          ]
    ]

front : (xs ys : List (List ℕ)) → AllByRecursion Readable (xs ++ ys) → AllByRecursion Readable xs
front [] ys h = tt
front (x ∷ xs) ys h = (h.0, front xs ys h.1)

-- where all parts are read, all lines are
pub done : (parts : List (List ℕ)) (n : ℕ) (rows : List Row) → ReadsTo parts n rows → n ≡ length parts → AllByRecursion Readable (without_empty_last parts) × (rows ≡ rows_of (without_empty_last parts))
done parts n rows r h =
    let ls = without_empty_last parts in
    let whole = take_all n parts (omega arith) in
    let readable = subst (AllByRecursion Readable) whole r.readable in
    let so_far : rows ≡ rows_of parts = r.so_far ∙ ap rows_of whole in
    elim (split parts) [
      | inl all ↦ subst (λ ls. AllByRecursion Readable ls × (rows ≡ rows_of ls)) (sym all) (readable, so_far)
      | inr but ↦
          let nothing : rows_of ([] ∷ []) ≡ [] = ap (λ x. row_list x ++ []) said_nothing in (
            front ls ([] ∷ []) (subst (AllByRecursion Readable) but readable),
            so_far ∙ ap rows_of but ∙ flat_map-append (λ line. row_list (said line)) ls ([] ∷ []) ∙ ap (λ xs. rows_of ls ++ xs) nothing ∙ append-nil (rows_of ls),
          )
    ]

-- what stands at a number in a numbered list
pub record Met (parts : List (List ℕ)) (n i : ℕ) (line : List ℕ) : Type 0 where
  pub within : n < length parts
  pub number : i ≡ n
  pub part : line ≡ get_or parts n []

pub met : (parts : List (List ℕ)) (n i : ℕ) (line : List ℕ) → (n < length (enumerate_from 0 parts)) × ((i, line) ≡ get_or (enumerate_from 0 parts) n (i, line)) → Met parts n i line
met parts n i line h =
    let within : n < length parts = omega (arith, h.0, length-enumerate_from 0 parts) in
    let is : ◌≡◌ {A = ℕ × List ℕ} (i, line) (0 + n, get_or parts n line) = h.1 ∙ get_or-enumerate_from 0 parts n (i, line) within in
    let number : i ≡ 0 + n = ap (λ (p : ℕ × List ℕ). p.0) is in
    record { within = within; number = omega (arith, number); part = ap (λ (p : ℕ × List ℕ). p.1) is ∙ get_or_default parts n line [] within }

pub says_nothing : (line : List ℕ) → said line ≡ Ok None → Readable line
says_nothing line e n = grind (arith, sym e ∙ n)

pub says_row : (line : List ℕ) (row : Row) → said line ≡ Ok (Some row) → Readable line
says_row line row e n = grind (arith, sym e ∙ n)
