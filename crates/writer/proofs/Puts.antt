-- One write after another. Assumes nothing.
use Rattle.std.proofs.Common.{◌≡◌, ℕ, ◌+◌, ◌-◌, ◌^◌, ◌<◌, ◌≤◌, min, List, [], ◌++◌, length, take, drop, sym, refl, ap, ◌∙◌, subst, append_assoc, append-nil, add-zero, arith, length-append, length-drop, length-take-le, take-append-drop}
use borrow.Rule.Slice.PartMut.{put_mid, same_len_mid}
use Rattle.std.proofs.lemmas.Slice.{take-put_mid, drop-put_mid}
use Rattle.std.proofs.lemmas.List.{drop-drop}
use Rattle.writer.specs.declared.sink.Sink.{Sink}
use Rattle.writer.specs.Putting.{Stand, Put, Puts}

put_none : (old : List ℕ) (i : ℕ) → i < 2 ^ 64 → Put i [] old i old
put_none old i h = record {
  end = omega arith;
  size = refl;
  whole = λ _ _. record { front = ap (λ n. take n old) (add-zero i) ∙ sym (append-nil (take i old)); back = refl };
}

stand_then : {i : ℕ} {xs ys old mid new : List ℕ} {e : ℕ} → e ≡ i + length xs → Stand i xs old mid → Stand e ys mid new → Stand i (xs ++ ys) old new
stand_then {i} {xs} {ys} {old} {mid} {new} {e} at p q =
    let far : i + length (xs ++ ys) ≡ e + length ys = simp length-append (omega arith) in
    record {
      front = ap (λ n. take n new) far ∙ q.front ∙ ap (λ n. take n mid ++ ys) at ∙ ap (λ l. l ++ ys) p.front ∙ append_assoc (take i old) xs ys;
      back = ap (λ n. drop n new) far ∙ q.back ∙ ap (λ n. drop (n + length ys) mid) at ∙ sym (drop-drop (length ys) (i + length xs) mid)
          ∙ ap (drop (length ys)) p.back ∙ drop-drop (length ys) (i + length xs) old ∙ ap (λ n. drop n old) (omega arith);
    }

put_then : {i : ℕ} {xs ys old mid new : List ℕ} {e e' : ℕ} → Put i xs old e mid → Put e ys mid e' new → Put i (xs ++ ys) old e' new
put_then {i} {xs} {ys} {old} {mid} {new} {e} {e'} p q =
    let len = length-append xs ys in
    record {
      end = simp length-append (omega (arith, p.end, q.end));
      size = q.size ∙ p.size;
      whole = λ l s.
          let at : e ≡ i + length xs = omega (arith, p.end) in
          stand_then at (p.whole (omega arith) s) (q.whole (omega (arith, p.size)) (omega (arith, p.size)));
    }

-- a piece of the buffer is overwritten
pub put_piece : {xs ys old new : List ℕ} (i e : ℕ) → i < 2 ^ 64 → e ≡ min (i + length xs) (2 ^ 64 - 1) → e ≤ length old → length old < 2 ^ 63 → ys ≡ xs → new ≡ put_mid i (e - i) old ys → Put i xs old e new
put_piece {xs} {ys} {old} {new} i e h at within small is to =
    let long : length ys ≡ e - i = omega (arith, ap length is) in
    record {
      end = at;
      size = ap length to ∙ same_len_mid i (e - i) old ys (omega (arith, long, length-take-le (e - i) (drop i old) (omega (arith, length-drop i old))));
      whole = λ _ _. record {
        front = ap (take (i + length xs)) to ∙ take-put_mid i (e - i) old ys (i + length xs) (omega (arith, ap length is)) (omega arith) ∙ ap (λ l. take i old ++ l) is;
        back = ap (drop (i + length xs)) to ∙ drop-put_mid i (e - i) old ys (i + length xs) (omega arith) (omega arith) long;
      };
    }

-- bytes past the buffer's end are only counted
pub put_beyond : {xs old : List ℕ} (i e : ℕ) → e ≡ min (i + length xs) (2 ^ 64 - 1) → length old < e → Put i xs old e old
put_beyond i e at beyond = record { end = at; size = refl; whole = λ l _. absurd (omega arith) }

-- nothing
pub puts_none : (s : Sink) → Puts [] s s
puts_none s = record { same = refl; put = put_none s.out.now s.end }

-- one text after another
pub puts_then : {xs ys : List ℕ} {s t u : Sink} → Puts xs s t → Puts ys t u → Puts (xs ++ ys) s u
puts_then p q = record { same = q.same ∙ p.same; put = λ h. let first = p.put h in put_then first (q.put (omega (arith, first.end))) }

-- the same bytes, named otherwise
pub puts_as : {xs ys : List ℕ} {s t : Sink} → xs ≡ ys → Puts xs s t → Puts ys s t
puts_as {xs} {ys} {s} {t} e p = let P : List ℕ → Type 0 = λ l. Puts l s t in subst P e p

-- a whole text in a fresh sink, whose buffer has room for it, is what the buffer then begins with
pub filled : {xs old new : List ℕ} (s t : Sink) → Puts xs s t → s.end ≡ 0 → s.out.now ≡ old → new ≡ t.out.now → length xs ≤ length old → length old < 2 ^ 63
    → (t.end ≡ length xs) × (new ≡ xs ++ drop t.end old)
filled {xs} {old} {new} s t p start from to l small =
    let put = p.put (omega arith) in
    let long = ap length from in
    let at : t.end ≡ s.end + length xs = omega (arith, put.end) in
    let far : s.end + length xs ≡ t.end = sym at in
    let stand = put.whole (omega arith) (omega arith) in
    let front : take t.end new ≡ xs = (λ k. take (at k) (to k)) ∙ stand.front ∙ ap (λ n. take n s.out.now ++ xs) start in
    let back : drop t.end new ≡ drop t.end old = (λ k. drop (at k) (to k)) ∙ stand.back ∙ (λ k. drop (far k) (from k)) in
    (omega (arith, put.end), sym (take-append-drop t.end new) ∙ (λ k. front k ++ back k))

-- a sink over no buffer counts the text
pub counted : {xs : List ℕ} (s t : Sink) → Puts xs s t → s.end ≡ 0 → t.end ≡ min (length xs) (2 ^ 64 - 1)
counted s t p start = let put = p.put (omega arith) in omega (arith, put.end)
