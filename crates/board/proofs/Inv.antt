-- What every run keeps: the invariant of the book, from which the promise follows.
--
-- Why the lock works. A card changes the line in transactions: it reads what it goes by, writes what follows, and
-- commits. The requester wins, so whoever touches a cell that another open transaction has written, or gives a value
-- to one that it has marked, dooms that transaction. Hence two open transactions never overlap, and what a card has
-- read is still true when its commit is accepted (`isolated`). So a commit acts on the line as if it had been made in
-- one go, and the line is only ever changed by joinings at its end and by leavings.
--
-- Beside the links, the line says who may be in (`line`). Active readers are a front part of it. Whoever has been let
-- in is first, or a reader right behind an active reader. The first in line has been let in, unless exactly one card
-- that has just left still owes it a wake; and a waiting reader right behind an active reader is owed one by that
-- reader, which has seen it in the very transaction that made it active. A card that owes a wake is outside of any
-- transaction, so nothing can turn it back: its next step, or the one after, gives the wake.
--
-- A writer that is in is first and everybody else is behind it and has not been let in, so it is alone; and what it
-- loads of a counter is what stands there when it stores (`counted`).
use Rattle.std.proofs.Common.{◌≡◌, ℕ, suc, ◌<◌, ◌≤◌, min, Bool, true, false, List, [], ◌∷◌, length}
use Rattle.memory.specs.Meaning.{standing, tx_of}
use Rattle.stages.specs.declared.stage.Mode.{Mode}
use Rattle.stages.specs.declared.stage.Mode.TheVariants.{Read, Write}
use Rattle.stages.specs.declared.stage.Addition.TheVariants.{A2}
use Rattle.stages.specs.declared.stage.Stage.{Stage}
use Rattle.stages.specs.declared.stage.Stage.TheVariants.{Idle, Adds}
use Rattle.stages.specs.Layout.{counter_cell}
use Rattle.lock.specs.Lock.{Size, LockState, stage_of}
use Rattle.board.specs.Book.{Book, Place, Sum}
use Rattle.board.specs.Promise.{total}
use Rattle.board.proofs.Views.{view, link, reader}
use Rattle.board.proofs.Chain.{Line}
use Rattle.board.proofs.Held.{Isolated}
use Rattle.board.proofs.Sound.{Sound}

-- the cards of some places
abbrev pub cards_of : List Place → List ℕ
cards_of [] = []
cards_of (p ∷ l) = p.card ∷ cards_of l

-- whether a mode is to read
abbrev pub reads_mode : Mode → Bool
reads_mode Read = true
reads_mode Write = false

-- each place has the node and the mode of its card
abbrev pub Seated : (ℕ → Stage) → List Place → Type 0
Seated S [] = Unit {0}
Seated S (p ∷ l) =
    (link (view (S p.card)) ≡ suc p.node) × (reader (view (S p.card)) ≡ reads_mode p.mode) × Seated S l

-- the lock's part: lengths, transactions, the line of the cards ls, who is not there, and the numbers kept
pub record Kept (z : Size) (s : LockState) (ls : List ℕ) : Type 0 where
  pub cells : length s.meaning.cells ≡ 137
  pub txs : length s.meaning.txs ≡ 8
  pub cards : length s.cards ≡ 8
  pub isolated : Isolated (standing s.meaning) (tx_of s.meaning) (stage_of s)
  pub line : Line (standing s.meaning) (λ d. view (stage_of s d)) ls
  pub absent : (c : ℕ) → z.cards ≤ c → stage_of s c ≡ Idle
  pub sound : (c : ℕ) → Sound z.nodes z.counters (stage_of s c)

-- the counters hold their finished adds, and a card in the middle of an add has loaded the standing count
pub record Counted (z : Size) (f : ℕ → ℕ) (S : ℕ → Stage) (l : List Sum) : Type 0 where
  pub counts : (k : ℕ) → k < z.counters → f (counter_cell z.nodes k) ≡ min 65535 (total k l)
  pub loaded : (c n k a v : ℕ) → S c ≡ Adds n (A2 k a v) → v ≡ f (counter_cell z.nodes k)

pub record Inv (z : Size) (b : Book) : Type 0 where
  pub kept : Kept z b.board.lock (cards_of b.line)
  pub seated : Seated (stage_of b.board.lock) b.line
  pub counted : Counted z (standing b.board.lock.meaning) (stage_of b.board.lock) b.finished
