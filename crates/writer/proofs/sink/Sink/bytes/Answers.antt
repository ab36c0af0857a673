use Rattle.std.proofs.Common.{◌<◌, ◌^◌, length, sym, refl, ap, subst, rules}
use Rattle.std.specs.Borrow.{MutBor}
use Rattle.std.specs.Prelude.{List, ℕ}
use Rattle.writer.specs.declared.sink.Sink.{Sink}
use Rattle.writer.specs.Putting.{Puts}
use Rattle.writer.proofs.Puts.{put_piece, put_beyond}
use Rattle.writer.proofs.sink.Sink.bytes.Goals as goal
use Rattle.writer.proofs.sink.Sink.bytes.Goals.{then-end-self, else-end-self}

pub returns : goal.returns
returns c =
    let s = c.args.self.now in
    let e = c.saturating_add-end in
    let short : length s.out.now < 2 ^ 63 = search rules in
    let P : MutBor (List ℕ) → Type 0 = λ o. Puts c.args.bytes.now s (record { out = o; end = e.result }) in
    elim c.if-end-self.branch [
      | then-end-self w ↦
          subst P (sym (ap (λ (t : Sink). t.out) w.self-is))
          (record { same = refl; put = λ h. put_piece s.end e.result h e.ensures w.if-end-self.true short w.copy_from_slice.ensures.after refl })
      | else-end-self w ↦
          subst P (sym (ap (λ (t : Sink). t.out) w.self-is)) (record { same = refl; put = λ h. put_beyond s.end e.result e.ensures w.if-end-self.false })
    ]
