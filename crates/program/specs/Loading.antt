-- What loading a text answers, and what the part then is. Assumes nothing.
use Rattle.std.specs.Prelude.{◌≡◌, ℕ, List, Some, Ok, Err, Result}
use Rattle.model.specs.declared.law.Law.{Law}
use Rattle.model.specs.declared.refusal.Span.{Span}
use Rattle.model.specs.declared.refusal.Layer.TheVariants.{Legality}
use Rattle.model.specs.declared.refusal.Report.{Report}
use Rattle.model.specs.Families.{Meaning}
use Rattle.model.specs.Syntax.{Solid}
use Rattle.model.specs.Tables.{held}
use Rattle.model.specs.Texts.{Accepts, Refuses}
use Rattle.model.specs.Legality.{Legal, fault, law_number}
use Rattle.model.specs.Reports as R
use Rattle.model.specs.Spelling.{SevenDigits}
use Rattle.model.specs.Starts.{first_token}
use Rattle.program.specs.declared.part.Part.{Part}
use Rattle.program.specs.declared.unloaded.Unloaded.{Unloaded}
use Rattle.program.specs.declared.unloaded.Unloaded.TheVariants.{Unread, Illegal}

-- the number, the layer and the part of the text that belong to each refusal
abbrev pub report_of : Unloaded → Report
report_of (Unread f) = R.report_of f
report_of (Illegal l s) = record { number = law_number l; layer = Legality; span = s }

-- the program of a part
abbrev pub program_of : Part → Solid
program_of p = held p.layout.table

-- the text says a program whose first fault is against the law l, at a node whose first token stands at s
pub record Breaks (m : Meaning) (text : List ℕ) (l : Law) (s : Span) : Type 0 where
  pub said : Solid
  pub node : ℕ
  pub accepts : Accepts text said
  pub faulty : fault m said ≡ Some (record { law = l; node = node })
  pub begins : first_token text said node ≡ Some s

abbrev pub Loaded : Meaning → List ℕ → Part → Result (Unit {0}) Unloaded → Part → Type 0
-- the text says the program that the part now is, and it is legal
Loaded m text old (Ok u) new = Accepts text (program_of new) × SevenDigits (program_of new) × Legal m (program_of new)
-- the text says no program, or one that breaks a law, and the part is as it was
Loaded m text old (Err (Unread f)) new = Refuses text f × ((e : Solid) → Accepts text e → ⊥) × (new.layout ≡ old.layout)
Loaded m text old (Err (Illegal l s)) new = Breaks m text l s × (new.layout ≡ old.layout)
