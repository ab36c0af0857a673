use Rattle.std.proofs.Common.{arith}
use Rattle.program.specs.Elements.{nodes_of}
use Rattle.program.proofs.Hopping.{hop_none, hop_more}
use Rattle.program.proofs.element.Term.hop.Goals as goal

pub loop-preserved : goal.loop-preserved
loop-preserved c = (
  omega (arith, c.loop.invariant.0, c.next-term.ensures.ahead),
  λ r h. c.loop.invariant.1 r
      (hop_more (nodes_of c.args.layout.now) c.loop.term c.next-term.result r _ _ (omega arith) c.next-term.ensures.index c.next-term.ensures.after h),
)

pub returns : goal.returns
returns c =
    record { ahead = c.loop.invariant.0; hops = c.loop.invariant.1 c.loop.term (hop_none (nodes_of c.args.layout.now) c.loop.term _ (omega arith)) }
