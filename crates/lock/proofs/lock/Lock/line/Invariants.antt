use Rattle.lock.specs.Lines.{nodes_in_line}
use Rattle.lock.proofs.Lines.{Filling}
use Rattle.lock.proofs.lock.Lock.line.Given as goal

-- the first nodes of the line are in place
abbrev pub invariant-loop-count : goal.invariant-loop-count
invariant-loop-count g l =
    let m = g.M.Memory.meaning l.self.memory in
    Filling m (nodes_in_line m l.self.table.records) l.count l.link l.place
