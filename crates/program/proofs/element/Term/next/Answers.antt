use Rattle.std.proofs.Common.{◌+◌, ◌-◌, ◌^◌, min, ap, ◌∙◌}
use Rattle.program.specs.declared.measure.Measure.{Measure}
use Rattle.program.proofs.Places.{behind}
use Rattle.program.proofs.element.Term.next.Goals as goal

pub returns-clause-place : goal.returns-clause-place
returns-clause-place c = c.saturating_add.ensures ∙ ap (λ (m : Measure). min (c.args.self.place + m.nodes) (2 ^ 64 - 1)) c.measure_at-nodes.ensures.is

pub returns-clause-after : goal.returns-clause-after
returns-clause-after c = behind c.args.layout.now c.args.self.place c.saturating_add.result c.measure_at-nodes.result c.measure_at-nodes.ensures.tells c.saturating_add.ensures
