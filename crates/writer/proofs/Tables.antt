-- The nodes of a table are those of its program, and what is known of the text of such a program. Assumes nothing.
use Rattle.std.proofs.Common.{◌≡◌, ℕ, ◌≤◌, List, length, take, drop, Result, Ok, Err, vec_items, sym, ap, ◌∙◌, subst, arith}
use Rattle.std.proofs.lemmas.List.{take_at}
use Rattle.model.specs.declared.table.Table.{Table}
use Rattle.model.specs.Syntax.{one, solid, size}
use Rattle.model.specs.Spelling.{text_of}
use Rattle.model.specs.Tables.{held}
use Rattle.model.specs.Texts.{Accepts}
use Rattle.model.proofs.Holding.{program_nodes}
use Rattle.model.proofs.Readable.{length_flatten}
use Rattle.model.proofs.Spelled.{short_text}
use Rattle.model.proofs.Written.{written_reads}
use Rattle.writer.specs.declared.writer.Unwritten.{Unwritten}
use Rattle.writer.specs.Writing.{Wrote, Short, ReadsBack}

held_few : (t : Table) → size (held t) ≤ 640
held_few t = omega (arith, t.few, t.nodes.ok.0, ap length (program_nodes (vec_items t.nodes) t.program), length_flatten (held t))

pub held_short : (t : Table) → Short (held t)
held_short t seven = short_text (one solid) (held t) (held_few t) seven

-- what stands at the start of a buffer that a text was written to
pub front : (text : List ℕ) (n : ℕ) (old new : List ℕ) → Wrote text old (Ok n) new → take n new ≡ text
front text n old new wrote = ap (take n) wrote.1 ∙ take_at text (drop n old) n (sym wrote.0)

pub held_reads : (t : Table) (old new : List ℕ) (r : Result ℕ Unwritten) → Wrote (text_of (held t)) old r new → ReadsBack (held t) r new
held_reads t old new (Ok n) wrote = λ orderless shallow seven.
    subst (λ l. Accepts l (held t)) (sym (front (text_of (held t)) n old new wrote)) (written_reads (held t) orderless (held_few t) shallow seven)
held_reads t old new (Err e) wrote = tt
