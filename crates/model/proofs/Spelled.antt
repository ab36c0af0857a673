-- A text is the texts of its nodes' own tokens, with a space before each part, and what its length is. Assumes nothing.
use Rattle.std.proofs.Common.{◌≡◌, ℕ, suc, ◌+◌, ◌≤◌, Bool, true, false, not, ◌||◌, List, [], ◌∷◌, ◌++◌, length, get_or, ℤ, pos, negsuc, decimal, sum_by, sym, refl, ap, ◌∙◌, append_assoc, append-nil, arith, length-append}
use Rattle.std.specs.Fmt.{signed_decimal}
use Rattle.std.proofs.lemmas.Fmt.{length-decimal-le}
use Rattle.std.proofs.lemmas.List.Elements.{All-from_recursion}
use Rattle.std.proofs.lemmas.Bool.{false≢true, not-true, cond_both}
use Rattle.std.proofs.Math.Bool.{or-false}
use Rattle.std.proofs.lemmas.List.Sums.{sum_by-cons, sum_by-append, sum_by-le}
use Rattle.model.specs.declared.node.Placement.{Placement}
use Rattle.model.specs.declared.node.Placement.TheVariants as p
use Rattle.model.specs.declared.node.Operator.{Operator}
use Rattle.model.specs.declared.node.Operator.TheVariants as o
use Rattle.model.specs.declared.node.Linear.{Linear}
use Rattle.model.specs.declared.node.Node.{Node}
use Rattle.model.specs.declared.node.Node.TheVariants as v
use Rattle.model.specs.Syntax.{Sort, Head, arity, Expr, Exprs, node, none, more, size, sizes}
use Rattle.model.specs.Syntax as S
use Rattle.model.specs.Nodes.{node_of, flatten, flattens}
use Rattle.model.specs.Tokens.{Token, bracket, placement_word, operator_word, opening, closing, tokens, row}
use Rattle.model.specs.Bytes.{spelling, is_zero, change, numeral, Small}
use Rattle.model.proofs.Readable.{length_flatten}
use Rattle.model.specs.Spelling.{spell_token, tight_after, tight_before, gap, spells, text_of, part_texts, opening_text, closing_text, own_length, TextLength, SevenLinear, SevenNode, ShortText}

-- whether what follows these tokens stands close to them
abbrev close_after : Bool → List Token → Bool
close_after b [] = b
close_after b (t ∷ ts) = close_after (tight_after t) ts

spells_append : (b : Bool) (ts us : List Token) → spells b (ts ++ us) ≡ spells b ts ++ spells (close_after b ts) us
spells_append b [] us = refl
spells_append b (t ∷ ts) us =
    let g = gap (b || tight_before t) in
    let rest = spells (tight_after t) ts in
    ap (λ l. g ++ (spell_token t ++ l)) (spells_append (tight_after t) ts us)
    ∙ ap (λ l. g ++ l) (sym (append_assoc (spell_token t) rest (spells (close_after (tight_after t) ts) us)))
    ∙ sym (append_assoc g (spell_token t ++ rest) (spells (close_after (tight_after t) ts) us))

-- the first token does not stand close to what is before it
abbrev begins_apart : List Token → Bool
begins_apart [] = false
begins_apart (t ∷ ts) = not (tight_before t)

apart : (b : Bool) (ts : List Token) → begins_apart ts ≡ true → spells b ts ≡ gap b ++ spells true ts
apart b [] e = absurd (false≢true e)
apart b (t ∷ ts) e = ap (λ x. gap x ++ (spell_token t ++ spells (tight_after t) ts)) (ap (λ x. b || x) (not-true (tight_before t) e) ∙ or-false b)

-- a node's own tokens: what stands before its parts is apart from what is before it and from its parts, and what follows a node is apart from it
record Own {s : Sort} (h : Head s) : Type 0 where
  named : spells true (opening h) ≡ opening_text (node_of h)
  begins : begins_apart (opening h) ≡ true
  opens : (b : Bool) → close_after b (opening h) ≡ false
  closes : (us : List Token) → spells false (closing h ++ us) ≡ closing_text (node_of h) ++ spells false us

own : {s : Sort} (h : Head s) → Own h
own S.empty = record { named = refl; begins = refl; opens = λ b. refl; closes = λ us. refl }
own _ = record { named = refl; begins = refl; opens = λ b. refl; closes = λ us. refl }

opening_apart : (b : Bool) {s : Sort} (h : Head s) → spells b (opening h) ≡ gap b ++ opening_text (node_of h)
opening_apart b h = apart b (opening h) (own h).begins ∙ ap (λ l. gap b ++ l) (own h).named

-- a node's text, as its own tokens spell it
abbrev node_text : {s : Sort} (h : Head s) → Exprs (arity h) → List ℕ
node_text h es = opening_text (node_of h) ++ (part_texts es ++ closing_text (node_of h))

-- a node, if its parts are spelled so
spells_node : (b : Bool) {s : Sort} (h : Head s) (es : Exprs (arity h)) (us : List Token)
    → spells false (row es ++ (closing h ++ us)) ≡ part_texts es ++ spells false (closing h ++ us)
    → spells b (tokens (node h es) ++ us) ≡ gap b ++ (node_text h es ++ spells false us)
unfolding tokens
spells_node b h es us parts =
    let o = opening_text (node_of h) in
    let p = part_texts es in
    let c = closing_text (node_of h) in
    let u = spells false us in
    ap (spells b) (append_assoc (opening h) (row es ++ closing h) us ∙ ap (λ l. opening h ++ l) (append_assoc (row es) (closing h) us))
    ∙ spells_append b (opening h) (row es ++ (closing h ++ us))
    ∙ (λ i. opening_apart b h i ++ spells ((own h).opens b i) (row es ++ (closing h ++ us)))
    ∙ ap (λ l. (gap b ++ o) ++ l) (parts ∙ ap (λ l. p ++ l) ((own h).closes us))
    ∙ append_assoc (gap b) o (p ++ (c ++ u))
    ∙ ap (λ l. gap b ++ l) (ap (λ l. o ++ l) (sym (append_assoc p c u)) ∙ sym (append_assoc o (p ++ c) u))

text_if : {s : Sort} (h : Head s) (es : Exprs (arity h)) → spells false (row es ++ (closing h ++ [])) ≡ part_texts es ++ spells false (closing h ++ []) → text_of (node h es) ≡ node_text h es
text_if h es parts = ap (spells true) (sym (append-nil (tokens (node h es)))) ∙ spells_node true h es [] parts ∙ append-nil (node_text h es)

mutual
  unfolding row

  spells_expr : (b : Bool) {s : Sort} (e : Expr s) (us : List Token) → spells b (tokens e ++ us) ≡ gap b ++ (text_of e ++ spells false us)
  spells_expr b (node h es) us =
      spells_node b h es us (spells_row es (closing h ++ us))
      ∙ ap (λ l. gap b ++ (l ++ spells false us)) (sym (text_if h es (spells_row es (closing h ++ []))))

  spells_row : {ss : List Sort} (es : Exprs ss) (us : List Token) → spells false (row es ++ us) ≡ part_texts es ++ spells false us
  spells_row none us = refl
  spells_row (more e es) us =
      ap (spells false) (append_assoc (tokens e) (row es) us)
      ∙ spells_expr false e (row es ++ us)
      ∙ ap (λ l. 32 ∷ l) (ap (λ l. text_of e ++ l) (spells_row es us) ∙ sym (append_assoc (text_of e) (part_texts es) (spells false us)))

-- the text of a node
pub text_node : {s : Sort} (h : Head s) (es : Exprs (arity h)) → text_of (node h es) ≡ opening_text (node_of h) ++ (part_texts es ++ closing_text (node_of h))
text_node h es = text_if h es (spells_row es (closing h ++ []))

length_node : {s : Sort} (h : Head s) (es : Exprs (arity h)) → length (text_of (node h es)) ≡ own_length (node_of h) + length (part_texts es)
length_node h es =
    let o = opening_text (node_of h) in
    let p = part_texts es in
    let c = closing_text (node_of h) in
    let outer = length-append o (p ++ c) in
    let inner = length-append p c in
    ap length (text_node h es) ∙ omega arith

-- a node's own bytes, and a space
abbrev spaced : Node → ℕ
spaced n = own_length n + 1

mutual
  unfolding flatten flattens

  pub length_text : {s : Sort} (e : Expr s) → length (text_of e) + 1 ≡ sum_by spaced (flatten e)
  length_text (node h es) =
      let mine = length_node h es in
      let rest = length_parts es in
      let cons = sum_by-cons spaced (node_of h) (flattens es) in
      omega arith

  length_parts : {ss : List Sort} (es : Exprs ss) → length (part_texts es) ≡ sum_by spaced (flattens es)
  length_parts none = refl
  length_parts (more e es) =
      let sum = length-append (text_of e) (part_texts es) in
      let first = length_text e in
      let later = length_parts es in
      let join = sum_by-append spaced (flatten e) (flattens es) in
      omega arith

pub text_length : TextLength
text_length s e = length_text e

decimal_le : (n : ℕ) → n ≤ 9999999 → length (decimal n) ≤ 7
decimal_le n h = length-decimal-le 7 n (omega arith) (omega arith) (omega arith)

signed_le : (z : ℤ) → Small z → length (signed_decimal z) ≤ 8
signed_le (pos n) h = let d = decimal_le n h in omega arith
signed_le (negsuc n) h = let d = decimal_le (suc n) h in omega arith

change_le : (z : ℤ) → Small z → length (change z) ≤ 8
change_le (pos n) h = let d = decimal_le n h in omega arith
change_le (negsuc n) h = let d = decimal_le (suc n) h in omega arith

numeral_le : (a c : ℤ) → Small a → Small c → length (numeral a c) ≤ 17
numeral_le a c h k =
    let x = signed_le a h in
    let y = signed_le c k in
    let z = change_le c k in
    let P : ℕ → List ℕ → Type 0 = λ n l. length l ≤ n in
    cond_both (is_zero c) (signed_decimal a) _ (P 17) (λ _. omega arith)
    (λ _. simp length-append (let w = cond_both (is_zero a) (signed_decimal c) (signed_decimal a ++ change c) (P 16) (λ _. omega arith) (λ _. simp length-append (omega arith)) in omega arith))

bracket_le : (a : Linear) → SevenLinear a → length (spells true (bracket a)) ≤ 55
bracket_le a h =
    let x = numeral_le a.constant.x a.slope.x h.0 h.3 in
    let y = numeral_le a.constant.y a.slope.y h.1 h.4 in
    let z = numeral_le a.constant.z a.slope.z h.2 h.5 in
    simp length-append (omega arith)

name_le : (t : Placement) → length (spelling (placement_word t)) ≤ 9
name_le p.Translate = omega arith
name_le _ = omega arith

word_le : (o : Operator) → length (spelling (operator_word o)) ≤ 5
word_le o.Union = omega arith
word_le _ = omega arith

-- no node takes more than 72 bytes
own_le : (n : Node) → SevenNode n → own_length n ≤ 72
own_le (v.Primitive k a) h = let b = bracket_le a h.1 in let d = signed_le k h.0 in let l = length-append (signed_decimal k) (32 ∷ spells true (bracket a)) in omega arith
own_le (v.Place t a) h = let b = bracket_le a h in let d = name_le t in let l = length-append (spelling (placement_word t)) (32 ∷ spells true (bracket a)) in omega arith
own_le (v.Join o) h = let d = word_le o in simp length-append (omega arith)
own_le (v.Vector a) h = let b = bracket_le a h in omega arith
own_le (v.Repeat n) h = let d = signed_le n h in simp length-append (omega arith)
own_le (v.Tabulate n) h = let d = signed_le n h in simp length-append (omega arith)
own_le (v.Map2 t) h = let d = name_le t in simp length-append (omega arith)
own_le (v.Number j) h = let d = decimal_le j h in simp length-append (omega arith)
own_le _ h = omega arith

pub short_text : ShortText
short_text s e few seven =
    let sum = sum_by-le spaced 73 (flatten e) (λ k d h. let l = own_le (get_or (flatten e) k d) (All-from_recursion SevenNode (flatten e) seven k d h) in omega arith) in
    let n = length_flatten e in
    let len = length_text e in
    omega arith
