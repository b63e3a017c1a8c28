-- What the answer to every call says is so, of a book that keeps the invariant.
use Rattle.std.proofs.Common.{◌≡◌, ℕ, ◌<◌, true, false, cond, ◌⊎◌, Some, Ok, Err, Result, sym, refl, ap, ◌∙◌, subst}
use Rattle.std.proofs.Common.{inl, inr, ⊎_elim, arith}
use Rattle.memory.specs.declared.fault.MemoryFault.{MemoryFault}
use Rattle.memory.specs.declared.fault.Refusal.TheVariants.{Doomed}
use Rattle.memory.specs.declared.call.MemoryCall.{MemoryCall}
use Rattle.memory.specs.Meaning.{Tx, none, standing, tx_of}
use Rattle.memory.specs.Calls.{performed}
use Rattle.stages.specs.declared.answer.Answer.{Answer}
use Rattle.stages.specs.declared.answer.Answer.TheVariants as answer
use Rattle.stages.specs.declared.stage.Mode.{Mode}
use Rattle.stages.specs.declared.stage.Mode.TheVariants.{Read, Write}
use Rattle.stages.specs.declared.stage.WriterEntry.TheVariants.{W6}
use Rattle.stages.specs.declared.stage.ReaderEntry.TheVariants.{R8}
use Rattle.stages.specs.declared.stage.Stage.{Stage}
use Rattle.stages.specs.declared.stage.Stage.TheVariants.{WriterEnters, ReaderEnters}
use Rattle.stages.specs.Layout.{counter_cell}
use Rattle.stages.specs.Rows.{call_of, begin_of}
use Rattle.lock.specs.declared.fault.LockFault.{LockFault}
use Rattle.lock.specs.Lock.{Size, LockState, staged, advanced, returns_by, goes}
use Rattle.door.specs.declared.fault.DoorFault.{DoorFault}
use Rattle.door.specs.declared.call.Call.TheVariants as call
use Rattle.door.specs.Door.{called, told}
use Rattle.board.specs.Book.{Book, Deed, plain, deed, accepted, lined, summed, after}
use Rattle.board.specs.Promise.{stage, Waits}
use Rattle.board.specs.Answers.{phase_of, Goes, StepSays, Tells, RefusedOr}
use Rattle.board.proofs.Ranges.{Within}
use Rattle.board.proofs.Cells.{spin}
use Rattle.board.proofs.Held.{in_tx}
use Rattle.board.proofs.Sound.{Sound}
use Rattle.board.proofs.Model.{seen_on, seen}
use Rattle.board.proofs.Inv.{Inv}
use Rattle.board.proofs.Bridge.{Same}
use Rattle.board.proofs.Rows.{Row, row}
use Rattle.board.proofs.Isolation.{Fair, step_fair, outside}
use Rattle.board.proofs.Turns.{moved_same, step_replies}
use Rattle.board.proofs.Wakes.{row_seen}
use Rattle.board.proofs.Said.{RowSays, waiting, row_answers, row_under_way, begin_phase, doomed_refused, waits_on}
use Rattle.board.proofs.Said.{spin_answered, sum_stored, lost_by}
use Rattle.board.proofs.Sounds.{one_value}

-- a step of card c, whose stage's row makes the call k
module _ (z : Size) (W : Within z) (b : Book) (I : Inv z b) (c : ℕ) (k : MemoryCall) (lt : c < z.cards)
    (e : call_of z.nodes c (stage b c) ≡ Some k) where
  abbrev s : LockState
  s = b.board.lock

  abbrev F : ℕ → ℕ
  F = standing s.meaning

  abbrev T : ℕ → Tx
  T = tx_of s.meaning

  -- the row, and its call seen through the standing values and the transactions
  the_row : Row c (stage b c) k
  the_row = row z.nodes z.counters c (stage b c) (I.kept.sound c) k e

  view : Same (performed s.meaning k) (seen c k F T)
  view = row_seen z W b I c k lt e

  -- a card outside of a transaction has none
  without_tx : in_tx (stage b c) ≡ false → T c ≡ none
  without_tx o = outside F (stage b c) (T c) o (I.kept.isolated.agrees c)

  -- a card that waits is answered what its spin stands at
  waits_spin : (n : ℕ) → (stage b c ≡ WriterEnters n W6) ⊎ (stage b c ≡ ReaderEnters n R8)
      → (performed s.meaning k).answer ≡ Ok (F (spin n))
  waits_spin n h = view.answer ∙ ap (λ (x : Tx). (seen_on k F T x).answer) (without_tx (out h))
      ∙ spin_answered z.nodes c n (stage b c) k F T h e
    where
      out : (stage b c ≡ WriterEnters n W6) ⊎ (stage b c ≡ ReaderEnters n R8) → in_tx (stage b c) ≡ false
      out (inl q) = ap in_tx q
      out (inr q) = ap in_tx q

  -- the same of a card that waits by the book
  book_spin : (n : ℕ) (o : Mode) → Waits b c n o
      → (waiting (stage b c) ≡ true) × ((performed s.meaning k).answer ≡ Ok (F (spin n)))
  book_spin n Write w = (ap waiting w, waits_spin n (inl w))
  book_spin n Read w = (ap waiting w, waits_spin n (inr w))

  -- what a book D after the step with the outcome r has to be
  pub record After (r : Result ℕ MemoryFault) (D : Book) : Type 0 where
    pub lock : D.board.lock ≡ staged s (performed s.meaning k).after c (advanced (stage b c) r).0
    pub finished : D.finished ≡ summed c (cond (accepted r) (deed (stage b c)) plain) b.finished
    pub line : D.line ≡ lined c (cond (accepted r) (deed (stage b c)) plain) b.line

  -- its card's stage
  stage_after : (r : Result ℕ MemoryFault) (D : Book) → After r D → stage D c ≡ (advanced (stage b c) r).0
  stage_after r D A = moved_same s D.board.lock c (advanced (stage b c) r).0
      (let w = W.cards in let l = I.kept.cards in omega arith) (ap (λ (t : LockState). t.cards) A.lock)

  -- its standing values and transactions
  cells_after : (r : Result ℕ MemoryFault) (D : Book) → After r D
      → standing D.board.lock.meaning ≡ (seen c k F T).cell
  cells_after r D A = ap (λ (t : LockState). standing t.meaning) A.lock ∙ view.cell

  txs_after : (r : Result ℕ MemoryFault) (D : Book) → After r D → tx_of D.board.lock.meaning ≡ (seen c k F T).tx
  txs_after r D A = ap (λ (t : LockState). tx_of t.meaning) A.lock ∙ view.tx

  -- what the step has to answer
  abbrev Answers : Result ℕ MemoryFault → Type 0
  Answers r = (D : Book) → After r D → (a : Answer) × ((advanced (stage b c) r).1 ≡ Ok a)
      × StepSays z c s.meaning D.board.lock.meaning b D a

  -- the row was accepted
  accepted_says : (v : ℕ) → (performed s.meaning k).answer ≡ Ok v → Answers (Ok v)
  accepted_says v q D A = let R = row_answers z.nodes c (stage b c) k v e in (R.0, R.1, said R.0 R.2)
    where
      said : (a : Answer) → RowSays c (stage b c) (goes (stage b c) v).0 v a
          → StepSays z c s.meaning D.board.lock.meaning b D a
      said a R = record {
        goes = subst (λ (h : Stage). Goes a (phase_of (stage b c)) (phase_of h)) (sym (stage_after (Ok v) D A))
            R.goes;
        added = λ x p. let Q = R.added x p in (
          Q.1,
          Q.2,
          (subst (Sound z.nodes z.counters) Q.4 (I.kept.sound c)).1,
          A.finished ∙ ap (λ (g : Stage). summed c (deed g) b.finished) Q.4,
          ap (λ (f : ℕ → ℕ). f (counter_cell z.nodes Q.1)) (cells_after (Ok v) D A)
              ∙ ap (λ (x : Tx). (seen_on k F T x).cell (counter_cell z.nodes Q.1)) (without_tx (ap in_tx Q.4))
              ∙ sum_stored z.nodes c Q.0 Q.1 Q.2 Q.3 (stage b c) k F T Q.4 e ∙ sym Q.5,
        );
        no_add = λ n. A.finished ∙ R.no_add n b.finished;
        waits = λ p. kept_waiting (R.waits p).0 (R.waits p).1;
        let_go = λ n i o w. let B = book_spin i o w in same_number _ B.1 ∙ R.let_go n B.0;
        lost = λ p. absurd (R.not_lost p);
        not_lost = λ _ p. doomed_refused c (stage b c) k F T v the_row
            (ap (λ (x : Tx). (seen_on k F T x).answer) (sym p) ∙ sym view.answer ∙ q);
      }
        where
          same_number : (x : ℕ) → (performed s.meaning k).answer ≡ Ok x → x ≡ v
          same_number x p = one_value (performed s.meaning k).answer x v p q

          kept_waiting : waiting (stage b c) ≡ true → (v ≡ 0 → ⊥)
              → (i : ℕ) × (o : Mode) × Waits b c i o × (F (spin i) ≡ 0 → ⊥)
          kept_waiting w n = let X = waits_on (stage b c) w in
              ⊎_elim (λ g. (X.0, Write, g, λ p. n (sym (same_number _ (waits_spin X.0 (inl g))) ∙ p)))
              (λ g. (X.0, Read, g, λ p. n (sym (same_number _ (waits_spin X.0 (inr g))) ∙ p))) X.1

  -- the row was lost
  lost_says : (f : MemoryFault) → (performed s.meaning k).answer ≡ Err f → f.refusal ≡ Doomed → Answers (Err f)
  lost_says f q h D A =
      let p : returns_by (stage b c) f f.refusal ≡ (begin_of (stage b c), Ok answer.Lost)
      = ap (returns_by (stage b c) f) h in
      let L = lost_by c (stage b c) k F T (T c) f the_row h (sym view.answer ∙ q) in (
        answer.Lost,
        ap (λ (x : Stage × Result Answer LockFault). x.1) p,
        record {
          goes = (
            ap phase_of (stage_after (Err f) D A ∙ ap (λ (x : Stage × Result Answer LockFault). x.0) p)
                ∙ begin_phase (stage b c),
            row_under_way z.nodes c (stage b c) k e,
          );
          added = λ x r. cc;
          no_add = λ _. A.finished;
          waits = λ r. cc;
          let_go = λ _ i o w. let B = (book_spin i o w).1 in cc;
          lost = λ _. record {
            was_doomed = L.0;
            closed = ap (λ (t : ℕ → Tx). t c) (txs_after (Err f) D A) ∙ L.2;
            cells = λ x. ap (λ (g : ℕ → ℕ). g x) (cells_after (Err f) D A ∙ L.1);
            line = A.line;
          };
          not_lost = λ n _. n refl;
        },
      )

  -- by the memory's outcome, which is fair
  pub row_told : Answers (performed s.meaning k).answer
  row_told = by_outcome (performed s.meaning k).answer refl
      (subst Fair (sym view.answer)
      (step_fair z.nodes z.counters F T (stage b) I.kept.isolated c (I.kept.sound c) k e))
    where
      by_outcome : (r : Result ℕ MemoryFault) → (performed s.meaning k).answer ≡ r → Fair r → Answers r
      by_outcome (Ok v) q h = accepted_says v q
      by_outcome (Err f) q h = lost_says f q h

-- a step
pub step_told : (z : Size) (W : Within z) (b : Book) (I : Inv z b) (c : ℕ)
    → Tells z (call.Step c) b.board (after z b (call.Step c)).board b (after z b (call.Step c))
    (called z b.board (call.Step c)).0
step_told z W b I c =
    step_replies z b.board c
    (λ (r : Result Answer DoorFault) (t : LockState) (d : Deed). (D : Book) → D.board.lock ≡ t
    → D.finished ≡ summed c d b.finished → D.line ≡ lined c d b.line
    → RefusedOr b.board D.board (StepSays z c b.board.lock.meaning D.board.lock.meaning b D) r)
    (λ f D x y w. x)
    (λ k lt e D x y w. let R = row_told z W b I c k lt e D (record { lock = x; finished = y; line = w }) in
    subst (λ (r : Result Answer LockFault). RefusedOr b.board D.board
    (StepSays z c b.board.lock.meaning D.board.lock.meaning b D) (told r)) (sym R.1) R.2)
    (after z b (call.Step c)) refl refl refl
