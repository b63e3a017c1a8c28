use Rattle.std.proofs.Common.{arith}
use Rattle.report.proofs.Queue.{queue_more}
use Rattle.report.proofs.lines.queue_line.Goals as goal

pub loop-n-preserved : goal.loop-n-preserved
loop-n-preserved c =
    queue_more _ _ c.args.nodes.now c.loop-n.n-index (omega arith) c.loop-n.invariant c.in_ok-write.ensures.bytes
