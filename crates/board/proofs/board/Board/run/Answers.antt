use Rattle.std.proofs.Common.{ap}
use Rattle.lock.specs.Locks.{size_of}
use Rattle.board.proofs.History.{carries_all, recounts_all}
use Rattle.board.proofs.Sizes.{within_of}
use Rattle.board.proofs.board.Board.run.Goals as goal

pub returns : goal.returns
returns g c =
    record {
      moves = c.run.ensures.moves;
      same = ap size_of c.run.ensures.same;
      promise = carries_all _ (within_of c.args.self.now.door.lock.sizes) _ _ _ c.run.ensures.moves;
      tells = recounts_all _ (within_of c.args.self.now.door.lock.sizes) _ _;
    }
