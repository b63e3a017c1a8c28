use Rattle.std.proofs.Common.{ap}
use Rattle.lock.specs.Locks.{size_of}
use Rattle.board.proofs.History.{carries, recounts}
use Rattle.board.proofs.Resends.{again}
use Rattle.board.proofs.Sizes.{within_of}
use Rattle.board.proofs.board.Board.call.Goals as goal

pub returns : goal.returns
returns g c =
    record {
      moves = c.call.ensures.moves;
      same = ap size_of c.call.ensures.same;
      promise = carries _ (within_of c.args.self.now.door.lock.sizes) _ _ _ _ c.call.ensures.moves;
      again =
          again _ (within_of c.args.self.now.door.lock.sizes).cards _ _ c.args.self.now.door.whole _ _
          c.call.ensures.moves;
      tells = recounts _ (within_of c.args.self.now.door.lock.sizes) _ _ _ _ c.call.ensures.moves;
    }
