use Rattle.std.proofs.Common.{string_bytes}
use Rattle.board.specs.History.{board_state, board_size}
use Rattle.runner.proofs.Playing.{Playing}
use Rattle.runner.proofs.running.play.Given as goal

-- `index` events are run and told
abbrev pub invariant-loop-index : goal.invariant-loop-index
invariant-loop-index g l =
    Playing l.text (string_bytes l.initial.out) (string_bytes l.out) (board_size l.board)
    (board_state g.M.Memory.meaning l.board) l.count l.index l.rest
