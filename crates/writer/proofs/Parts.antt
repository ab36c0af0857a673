-- The program of a part begins at its first node and comes to its unrolling, which the written text says. Assumes nothing.
use Rattle.std.proofs.Common.{◌≡◌, ℕ, List, [], Result, Ok, Err, sym, refl, subst}
use Rattle.model.specs.Feed.{said, Clean}
use Rattle.model.specs.Spelling.{text_of}
use Rattle.model.specs.Syntax.{solid}
use Rattle.model.specs.Tables.{held}
use Rattle.model.specs.Texts.{feed_of}
use Rattle.model.specs.Tokens.{tokens}
use Rattle.model.specs.Unrolling.{programs, unroll}
use Rattle.program.specs.declared.part.Part.{Part}
use Rattle.program.specs.Elements.{nodes_of, Comes}
use Rattle.model.proofs.Respelled.{lexes_back}
use Rattle.writer.proofs.Smalls.{small_unrolling}
use Rattle.program.proofs.Layouts.{stands}
use Rattle.writer.specs.declared.writer.Unwritten.{Unwritten}
use Rattle.writer.specs.Writing.{Wrote}
use Rattle.writer.specs.Unrolls.{SaysUnrolling}
use Rattle.writer.proofs.Tables.{front}

pub part_comes : (p : Part) → Comes programs (nodes_of p.layout) (record { place = 0; index = 0 }) solid (unroll (held p.layout.table))
unfolding unroll
part_comes p =
    record {
      expr = held p.layout.table;
      begins = record { rest = []; stands = stands p.layout.table; plain = p.orderless };
      is = refl;
    }

pub part_says : (p : Part) (old new : List ℕ) (r : Result ℕ Unwritten) → Wrote (text_of (unroll (held p.layout.table))) old r new → SaysUnrolling (held p.layout.table) r new
part_says p old new (Ok n) wrote =
    let ts = tokens (unroll (held p.layout.table)) in
    subst (λ l. Clean (feed_of l) × (said (feed_of l) ≡ ts)) (sym (front (text_of (unroll (held p.layout.table))) n old new wrote))
    (lexes_back ts (small_unrolling (held p.layout.table) p.tame))
part_says p old new (Err e) wrote = tt
