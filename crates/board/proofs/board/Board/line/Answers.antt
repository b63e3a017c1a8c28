use Rattle.board.proofs.History.{lines_up}
use Rattle.board.proofs.Sizes.{within_of}
use Rattle.board.proofs.board.Board.line.Goals as goal

pub returns : goal.returns
returns g c =
    record {
      nodes = c.line.ensures.nodes;
      count = c.line.ensures.count;
      promise =
          lines_up _ (within_of c.args.self.now.door.lock.sizes) _ _ _ c.line.ensures.nodes
          c.line.ensures.count;
    }
