-- The whole promise of a book that keeps the invariant and the two laws.
use Rattle.lock.specs.Lock.{Size}
use Rattle.door.specs.declared.call.Call.{Call}
use Rattle.board.specs.Book.{Book, after}
use Rattle.board.specs.Promise.{cells_of, Stands}
use Rattle.board.proofs.Ranges.{Within}
use Rattle.board.proofs.Inv.{Inv}
use Rattle.board.proofs.Stands.{line_stands, inside_stands}
use Rattle.board.proofs.Wakes.{wakes_stand}
use Rattle.board.proofs.Laws.{Lawful}

-- the promise stands, given that every call keeps the invariant: a wake is promised whatever is called before it
pub stands : (z : Size) → Within z → ((b : Book) (k : Call) → Inv z b → Inv z (after z b k))
    → (b : Book) → Inv z b → Lawful b → Stands z (cells_of b) b
stands z W keep b I L = record {
  line = line_stands z b I;
  inside = inside_stands z b I;
  wakes = wakes_stand z W keep b I;
  counts = I.counted.counts;
  entries = L.entries;
  adds = L.adds;
}
