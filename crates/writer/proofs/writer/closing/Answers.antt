use Rattle.std.proofs.Common.{◌≡◌, ℕ, [], ◌∷◌, sym, refl, ap, inl, inr}
use Rattle.model.specs.declared.node.Node.{Node}
use Rattle.model.specs.declared.node.Node.TheVariants as v
use Rattle.model.specs.declared.node.Linear.{Linear}
use Rattle.model.specs.Spelling.{closing_text}
use Rattle.writer.proofs.writer.closing.Goals as goal

closed : (n : Node) → (n ≡ v.Empty → ⊥) → ((a : Linear) → n ≡ v.Vector a → ⊥) → ((j : ℕ) → n ≡ v.Number j → ⊥) → (41 ∷ []) ≡ closing_text n
closed v.Empty e f g = absurd (e refl)
closed (v.Primitive k a) e f g = refl
closed (v.Place t a) e f g = refl
closed (v.Join o) e f g = refl
closed v.Fold e f g = refl
closed (v.Vector a) e f g = absurd (f a refl)
closed (v.List n) e f g = refl
closed (v.Repeat n) e f g = refl
closed (v.Tabulate n) e f g = refl
closed v.Concat e f g = refl
closed (v.Sort n) e f g = refl
closed (v.Unsort n) e f g = refl
closed (v.Map2 t) e f g = refl
closed (v.Number j) e f g = absurd (g j refl)

pub returns-in-Empty : goal.returns-in-Empty
returns-in-Empty c = elim c.in-Empty.is [ inl e ↦ ap closing_text (sym e) | inr r ↦ elim r [ inl e ↦ ap closing_text (sym e.1) | inr e ↦ ap closing_text (sym e.1) ] ]

pub returns-in_default : goal.returns-in_default
returns-in_default c = closed c.args.node c.in_default.not-Empty c.in_default.not-Vector c.in_default.not-Number
