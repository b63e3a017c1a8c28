use Rattle.std.proofs.Common.{refl}
use Rattle.board.proofs.History.{begins}
use Rattle.board.proofs.Sizes.{within_of, fresh}
use Rattle.board.proofs.board.Board.set_up.Goals as goal

pub returns-clause-promise : goal.returns-clause-promise
returns-clause-promise g c =
    begins _ (within_of c.in_ok-door.door.lock.sizes) _
    (fresh c.args.memory c.args.asked.cards c.args.asked.nodes c.args.asked.counters _ _ _ refl c.in_ok-door.ensures)
