use Rattle.std.proofs.Common.{arith}
use Rattle.formtext.proofs.Appended.{events_more, events_all}
use Rattle.formtext.proofs.rendering.render.Goals as goal

pub loop-e-preserved : goal.loop-e-preserved
loop-e-preserved c =
    events_more _ _ _ c.args.events.now c.loop-e.e-index _ (omega arith) c.loop-e.invariant
    c.in_ok-writeln.ensures.bytes

pub returns-clause-text : goal.returns-clause-text
returns-clause-text c =
    events_all c.args.sizes _ _ c.args.events.now c.loop-e.e-index (omega arith) c.in_ok-out.ensures c.loop-e.invariant
