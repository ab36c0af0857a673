use Rattle.std.proofs.Common.{◌∙◌, ap, Some, sym, subst}
use Rattle.program.specs.Elements.{nodes_of}
use Rattle.probe.specs.declared.task.Task.{Task}
use Rattle.probe.specs.Walking.{Leads}
use Rattle.probe.proofs.Elements.{led_whole, placed_on, led_none}
use Rattle.probe.proofs.task.Task.item.Goals as goal

pub loop-term-init : goal.loop-term-init
loop-term-init c = λ m w h. (w, h, λ y l. l)

pub returns-in-Some-Whole : goal.returns-in-Some-Whole
returns-in-Some-Whole c = λ m w h.
    let f = c.find_item in
    let i = c.in-Some-Whole in
    let x = c.loop-term in
    let led = x.invariant m w h in
    led.2 _
    (subst (λ (y : Task). Leads (nodes_of c.args.layout.now) m x.list led.0 y) (sym c.with_term.ensures)
    (led_whole _ m x.list x.k led.0 led.1 f.result f.ensures.finds f.ensures.behind i.term (i.is ∙ ap Some i.field-0-is)))

pub loop-term-preserved : goal.loop-term-preserved
loop-term-preserved c = λ m w h.
    let f = c.find_item in
    let i = c.in-Some-Placed in
    let x = c.loop-term in
    let led = x.invariant m w h in
    let on = placed_on _ m x.list x.k led.0 led.1 f.result f.ensures.finds f.ensures.behind i.placement i.both _ c.moved.result (i.is ∙ ap Some i.field-0-is) c.vector_item-by.ensures.vector c.moved.ensures in
    (on.0, on.1, λ y l. led.2 y (on.2 y l))

pub returns-in-None : goal.returns-in-None
returns-in-None c = λ m w h.
    let f = c.find_item in
    let x = c.loop-term in
    let led = x.invariant m w h in
    led.2 _ (led_none _ m x.list x.k led.0 led.1 f.result f.ensures.finds f.ensures.behind _ c.in-None.is)
