-- The number, the layer and the part of the text that belong to each refusal. Assumes nothing.
use Rattle.model.specs.declared.refusal.Refusal.{Refusal}
use Rattle.model.specs.declared.refusal.Refusal.TheVariants.{NoToken, NoSolid, TooLarge}
use Rattle.model.specs.declared.refusal.Layer.TheVariants.{Token, Grammar}
use Rattle.model.specs.declared.refusal.Report.{Report}

-- a run or byte that is no token; a token or end with which no solid goes on; a limit passed
abbrev pub report_of : Refusal → Report
report_of (NoToken s) = record { number = 1; layer = Token; span = s }
report_of (NoSolid s) = record { number = 2; layer = Grammar; span = s }
report_of (TooLarge s) = record { number = 3; layer = Grammar; span = s }
