use Rattle.std.proofs.Common.{sym, ap, inl, inr}
use Rattle.text.specs.Starting.{opening_count}
use Rattle.text.proofs.start.opening_tokens.Goals as goal

pub returns-in-Empty : goal.returns-in-Empty
returns-in-Empty c = elim c.in-Empty.is [ inl e ↦ ap opening_count (sym e) | inr e ↦ ap opening_count (sym e.1) ]

pub returns-in-Join : goal.returns-in-Join
returns-in-Join c =
    elim c.in-Join.is [
      | inl e ↦ ap opening_count (sym e.1)
      | inr r ↦
          elim r [
            | inl e ↦ ap opening_count (sym e.1)
            | inr r ↦
                elim r [
                  | inl e ↦ ap opening_count (sym e)
                  | inr r ↦
                      elim r [ inl e ↦ ap opening_count (sym e.1) | inr e ↦ ap opening_count (sym e.1) ]
                ]
          ]
    ]

pub returns-in-Fold : goal.returns-in-Fold
returns-in-Fold c = elim c.in-Fold.is [ inl e ↦ ap opening_count (sym e) | inr r ↦ elim r [ inl e ↦ ap opening_count (sym e.1) | inr e ↦ ap opening_count (sym e.1) ] ]

pub returns-in-Tabulate : goal.returns-in-Tabulate
returns-in-Tabulate c = ap opening_count (sym c.in-Tabulate.is)

pub returns-in-Vector : goal.returns-in-Vector
returns-in-Vector c = ap opening_count (sym c.in-Vector.is)

pub returns-in-Place : goal.returns-in-Place
returns-in-Place c = ap opening_count (sym c.in-Place.is)

pub returns-in-Primitive : goal.returns-in-Primitive
returns-in-Primitive c = ap opening_count (sym c.in-Primitive.is)
