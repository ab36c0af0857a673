-- The words of the forms. Assumes nothing.
use Rattle.std.specs.Prelude.{◌≡◌}
use Rattle.model.specs.declared.word.Word.{Word}
use Rattle.model.specs.declared.word.Word.TheVariants as w
use Rattle.model.specs.Syntax.{Kind, solid, vector}
use Rattle.model.specs.Tokens.{placement_word, operator_word}
use Rattle.text.specs.declared.form.Element as E
use Rattle.text.specs.declared.form.Element.TheVariants.{Solid, Vector}
use Rattle.text.specs.declared.form.SolidForm.{SolidForm}
use Rattle.text.specs.declared.form.SolidForm.TheVariants as s
use Rattle.text.specs.declared.form.ListForm.{ListForm}
use Rattle.text.specs.declared.form.ListForm.TheVariants as l

abbrev pub kind_of : E.Element → Kind
kind_of Solid = solid
kind_of Vector = vector

-- the word that says the form
abbrev pub solid_word : SolidForm → Word
solid_word s.Primitive = w.Prim
solid_word (s.Place t) = placement_word t
solid_word (s.Join o) = operator_word o
solid_word s.Fold = w.Fold

abbrev pub list_word : ListForm → Word
list_word l.Elements = w.List
list_word l.Repeat = w.Repeat
list_word l.Tabulate = w.Tabulate
list_word l.Concat = w.Concat
list_word l.Map2 = w.Map2

-- Map2 gives solids only
abbrev pub Gives : E.Element → ListForm → Type 0
Gives x f = f ≡ l.Map2 → x ≡ Solid
