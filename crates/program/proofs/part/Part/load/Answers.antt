use Rattle.std.proofs.Common.{sym, refl, ◌∙◌, subst}
use Rattle.model.specs.Spelling.{SevenDigits}
use Rattle.model.specs.Tables.{held}
use Rattle.model.specs.Texts.{Accepts}
use Rattle.model.specs.Legality.{Legal}
use Rattle.program.specs.declared.layout.Layout.{Layout}
use Rattle.program.proofs.Loads.{judged, fault_begins}
use Rattle.program.proofs.Roots.{Sound, legal_sound}
use Rattle.program.proofs.part.Part.load.Goals as goal

pub unreachable-requires : goal.unreachable-requires
unreachable-requires g c =
    let a = c.in_ok-read.ensures.reading.0 in
    fault_begins _ _ _ c.in-Some.fault a (judged _ _ _ _ a c.fault.ensures ∙ c.in-Some.is) (sym c.first_token.ensures ∙ c.in_default-first_token.is)

pub returns-in-Some : goal.returns-in-Some
returns-in-Some g c =
    let a = c.in_ok-read.ensures.reading.0 in (
      record {
        said = held c.read.new.self.table;
        node = c.in-Some.fault.node;
        accepts = a;
        faulty = judged _ _ _ _ a c.fault.ensures ∙ c.in-Some.is;
        begins = sym c.first_token.ensures ∙ c.in-Some-first_token.is;
      },
      refl,
    )

pub invariant_of-self-2 : goal.invariant_of-self-2
unfolding Legal
invariant_of-self-2 g c =
    let a = c.in_ok-read.ensures.reading.0 in
    let P : Layout → Type 0 = λ l. Sound (held l.table) in
    let s = subst P (sym c.swap.ensures.x_after) (legal_sound _ _ a.orderless (judged _ _ _ _ a c.fault.ensures ∙ c.in_default.is)) in
    record { orderless = s.orderless; counted = s.counted; small = s.small; tame = s.tamed }

pub returns : goal.returns
unfolding Legal
returns g c =
    let r = c.in_ok-read.ensures.reading in
    let m = g.F.Family.meaning c.args.family.now in
    let P : Layout → Type 0 = λ l. Accepts c.args.text.now (held l.table) × SevenDigits (held l.table) × Legal m (held l.table) in
    subst P (sym c.swap.ensures.x_after) (r.0, r.1, judged _ _ _ _ r.0 c.fault.ensures ∙ c.in_default.is)
