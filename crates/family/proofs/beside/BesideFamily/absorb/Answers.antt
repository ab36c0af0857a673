use Rattle.std.proofs.Common.{◌≡◌, ◌%◌, sym, ap, ◌∙◌, arith}
use Rattle.std.specs.Option.{option_map}
use Rattle.std.proofs.lemmas.Bool.{cond-true, cond-false, eq-eqb, ne_eqb}
use Rattle.model.specs.declared.point.Primitive.{Primitive}
use Rattle.family.specs.Beside.{is_first, of_kind}
use Rattle.family.proofs.Raised.{raised}
use Rattle.family.proofs.beside.BesideFamily.absorb.Goals as goal
use Rattle.family.proofs.beside.BesideFamily.absorb.Goals.{then-primitive-eq0, else-primitive-eq0}

pub returns : goal.returns
returns g c =
    let r = c.args.primitive.now in
    let f = c.args.factors in
    let m = g.F.Family.meaning c.args.self.now.first in
    let n = g.G.Family.meaning c.args.self.now.second in
    elim c.if-primitive-eq0.branch [
      | then-primitive-eq0 w ↦
          let side : r.kind % 2 ≡ 0 = w.if-primitive-eq0.true in
          c.of_kind.ensures
          ∙ ap (option_map (of_kind r.kind)) (w.absorbed-is ∙ w.absorb-absorbed.ensures ∙ ap (λ (q : Primitive). m.absorbed q f) c.own-own.ensures)
          ∙ raised m (g.met.F.Family.lawful c.args.self.now.first) 0 r f side
          ∙ sym (cond-true (is_first r) _ _ (eq-eqb (r.kind % 2) 0 side))
      | else-primitive-eq0 w ↦
          let ne : r.kind % 2 ≡ 0 → ⊥ = w.if-primitive-eq0.false in
          let side : r.kind % 2 ≡ 1 = omega arith in
          c.of_kind.ensures
          ∙ ap (option_map (of_kind r.kind)) (w.absorbed-is ∙ w.absorb-absorbed-else-primitive-eq0.ensures ∙ ap (λ (q : Primitive). n.absorbed q f) c.own-own.ensures)
          ∙ raised n (g.met.G.Family.lawful c.args.self.now.second) 1 r f side
          ∙ sym (cond-false (is_first r) _ _ (ne_eqb (r.kind % 2) 0 ne))
    ]
