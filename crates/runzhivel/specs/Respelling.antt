-- What reading a text and writing it back leaves. Assumes nothing.
use Rattle.std.specs.Prelude.{◌≡◌, ℕ, List, take, Ok, Err, Result}
use Rattle.model.specs.declared.refusal.Refusal.{Refusal}
use Rattle.model.specs.declared.table.Table.{Table}
use Rattle.model.specs.Tables.{held}
use Rattle.model.specs.Spelling.{text_of}
use Rattle.model.specs.Texts.{Accepts, Refuses}
use Rattle.writer.specs.Writing.{Wrote}

abbrev pub Respelled : List ℕ → Table → List ℕ → Result ℕ Refusal → Table → List ℕ → Type 0
-- the text says the program that is now held; its one spelling was written, and says the same program
Respelled text table out (Ok n) table' out' = Accepts text (held table') × Wrote (text_of (held table')) out (Ok n) out' × Accepts (take n out') (held table')
-- the text is refused for this reason, and nothing has changed
Respelled text table out (Err f) table' out' = Refuses text f × (table'.nodes ≡ table.nodes) × (out' ≡ out)
