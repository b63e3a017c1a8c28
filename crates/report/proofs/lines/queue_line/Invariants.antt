use Rattle.std.proofs.Common.{◌≡◌, ◌++◌, take, string_bytes, codes}
use Rattle.textline.specs.Numbers.{spelled}
use Rattle.report.proofs.lines.queue_line.Given as goal

abbrev pub invariant-loop-n : goal.invariant-loop-n
invariant-loop-n l = string_bytes l.out ≡ codes "queue" ++ spelled (take l.n-index l.nodes)
