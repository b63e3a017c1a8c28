-- The ranges that the proof needs of a board's sizes; the type of sizes gives them.
use Rattle.std.proofs.Common.{◌≤◌}
use Rattle.lock.specs.Lock.{Size}

-- at most 8 cards, 32 nodes and 8 counters
pub record Within (z : Size) : Type 0 where
  pub cards : z.cards ≤ 8
  pub nodes : z.nodes ≤ 32
  pub counters : z.counters ≤ 8
