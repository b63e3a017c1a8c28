-- Every book that is fed calls keeps the invariant and the two laws.
use Rattle.std.proofs.Common.{◌≡◌, ℕ, zero, suc, ◌<◌, Bool, true, false, cond, eqb, ltb, List, [], ◌∷◌, get_or, set}
use Rattle.std.proofs.Common.{replicate, Some, None, Ok, Err, Option, Result, sym, refl, ap, subst, arith}
use Rattle.std.proofs.lemmas.Bool.{ltb-true}
use Rattle.memory.specs.Meaning.{Tx, none, standing, tx_of, cleared}
use Rattle.memory.proofs.Isolation.{all_same}
use Rattle.stages.specs.declared.answer.Answer.{Answer}
use Rattle.stages.specs.declared.stage.Stage.TheVariants.{Idle}
use Rattle.stages.specs.declared.stage.Card.{Card}
use Rattle.stages.specs.Layout.{counter_cell}
use Rattle.lock.specs.declared.fault.LockFault.{LockFault}
use Rattle.lock.specs.declared.fault.LockFault.TheVariants.{NoCard}
use Rattle.lock.specs.Lock.{Size, Turn, stage_of, new_lock, idle_card, stepped, aborted, reused}
use Rattle.door.specs.declared.fault.DoorFault.{DoorFault}
use Rattle.door.specs.declared.fault.DoorFault.TheVariants.{Malformed, Differs, Lock}
use Rattle.door.specs.declared.request.Request.{Request}
use Rattle.door.specs.declared.request.Memo.{Memo}
use Rattle.door.specs.declared.request.Remembered.{Remembered}
use Rattle.door.specs.declared.call.Call.{Call}
use Rattle.door.specs.declared.call.Call.TheVariants as call
use Rattle.door.specs.Faults as door
use Rattle.door.specs.Door.{DoorState, Reply, no_memo, new_memo, new_door, memo_of, worded, understood, same, told}
use Rattle.door.specs.Door.{resent}
use Rattle.door.specs.Door.{served, noted, judged, asked, passed, called}
use Rattle.board.specs.Book.{Book, Place, Sum, lined, summed, step_deed, after, new_book, fed_from, fed}
use Rattle.board.specs.Promise.{Never8, Stands, cells_of}
use Rattle.board.proofs.Ranges.{Within}
use Rattle.board.proofs.Cells.{clash}
use Rattle.board.proofs.Held.{in_tx, has_written, Agrees}
use Rattle.board.proofs.Sound.{Sound}
use Rattle.board.proofs.Inv.{Inv}
use Rattle.board.proofs.Counts.{finishing}
use Rattle.board.proofs.Frames.{new_line}
use Rattle.board.proofs.Laws.{Lawful, new_lawful, lawful_after}
use Rattle.board.proofs.Keeps.{Safe, Fine, Good, served_good, step_keeps, abort_keeps, reuse_keeps}
use Rattle.board.proofs.Promised.{stands}

-- the answer to a card's last request, where it has one, is no refusal of the memory
abbrev pub FineLast : Option Remembered → Type 0
FineLast None = Unit {0}
FineLast (Some l) = Fine l.answer

-- what is remembered of each card is no refusal of the memory
abbrev pub Calm : List Memo → Type 0
Calm ms = (c : ℕ) → FineLast (get_or ms c no_memo).last

-- one more that is none
calm_set : (ms : List Memo) (c : ℕ) (r : Memo) → Calm ms → FineLast r.last → Calm (set ms c r)
calm_set [] c r h k d = h d
calm_set (x ∷ ms) zero r h k zero = k
calm_set (x ∷ ms) zero r h k (suc d) = h (suc d)
calm_set (x ∷ ms) (suc c) r h k zero = h zero
calm_set (x ∷ ms) (suc c) r h k (suc d) = calm_set ms c r (λ e. h (suc e)) k d

-- the answer as the door gives it
told_never : (r : Result Answer LockFault) → Fine r → Never8 (told r)
told_never (Ok a) h = tt
told_never (Err f) h = h

-- the answer to a resend
resent_never : (o : Option Remembered) (w : Request) → FineLast o → Never8 (resent o w)
resent_never None w h = λ e. omega arith
resent_never (Some l) w h = go (same l.request w)
  where
    go : (b : Bool) → Never8 (cond b (told l.answer) (Err Differs))
    go true = told_never l.answer h
    go false = λ e. omega arith

-- a request that was understood, or refused for its form
abbrev Well : Result Request DoorFault → Type 0
Well (Ok w) = Unit {0}
Well (Err e) = door.number e ≡ 8 → ⊥

-- both ways of a test
well_cond : (b : Bool) (x y : Result Request DoorFault) → Well x → Well y → Well (cond b x y)
well_cond true x y h k = h
well_cond false x y h k = k

-- the form of a request is judged by refusal 3 alone
understood_well : (t k a b : ℕ) → Well (understood t k a b)
understood_well t k a b =
    let no : door.number Malformed ≡ 8 → ⊥ = λ e. omega arith in
    well_cond (ltb t 2) (worded k a b) (Err Malformed)
    (well_cond (eqb k 1) _ _ (well_cond (eqb b 0) _ _ tt no)
    (well_cond (eqb k 2) _ _ (well_cond (eqb b 0) _ _ tt no)
    (well_cond (eqb k 3) _ _ (well_cond (eqb a 0) _ _ (well_cond (eqb b 0) _ _ tt no) no)
    (well_cond (eqb k 4) _ _ tt (well_cond (eqb k 5) _ _ (well_cond (eqb b 0) _ _ tt no) no)))))
    no

-- the book's board after a call
pub board_after : (z : Size) (b : Book) (k : Call) → (after z b k).board ≡ (called z b.board k).1
board_after z b (call.Request c t k x y) = refl
board_after z b (call.Step c) = refl
board_after z b (call.Abort c) = refl
board_after z b (call.Reuse c n v) = refl

-- On sizes within the ranges.
module _ (z : Size) (W : Within z) where
  -- what a reply has to keep: the lock's state safe; and, where the memos were calm, memos and answer
  record Fair-reply (s : DoorState) (p : Reply) (l : List Place) (q : List Sum) : Type 0 where
    pub safe : Safe z p.1.lock l q
    pub calm : Calm s.memos → Calm p.1.memos
    pub never : Calm s.memos → Never8 p.0

  -- an event that is no request
  passed_fair : (s : DoorState) (p : Turn) (l : List Place) (q : List Sum) → Good z p l q
      → Fair-reply s (passed s p) l q
  passed_fair s p l q g = record { safe = g.0; calm = λ k. k; never = λ _. told_never p.0 g.1 }

  -- a request of a card that there is
  judged_fair : (s : DoorState) (l : List Place) (q : List Sum) → Safe z s.lock l q → (c : ℕ) → c < z.cards
      → (t : ℕ) (r : Result Request DoorFault) → Well r → Fair-reply s (judged z s c t r) l q
  judged_fair s l q h c lt t (Err e) n = record { safe = h; calm = λ k. k; never = λ _. n }
  judged_fair s l q h c lt t (Ok w) n = go (eqb (memo_of s c).toggle t)
    where
      go : (b : Bool) → Fair-reply s
          (cond b (resent (memo_of s c).last w, s) (noted s c t w (served z s.lock c w))) l q
      go true = record {
        safe = h;
        calm = λ k. k;
        never = λ k. resent_never (memo_of s c).last w (k c);
      }
      go false = let g = served_good z W s.lock l q h c lt w in record {
        safe = g.0;
        calm = λ k. calm_set s.memos c
            (record { toggle = t; last = Some (record { request = w; answer = (served z s.lock c w).0 }) })
            k g.1;
        never = λ _. told_never (served z s.lock c w).0 g.1;
      }

  -- a request
  asked_fair : (s : DoorState) (l : List Place) (q : List Sum) → Safe z s.lock l q
      → (c t k a b : ℕ) → Fair-reply s (asked z s c t k a b) l q
  asked_fair s l q h c t k a b = go (ltb c z.cards) refl
    where
      go : (x : Bool) → ltb c z.cards ≡ x
          → Fair-reply s (cond x (judged z s c t (understood t k a b)) (Err (Lock NoCard), s)) l q
      go true e = judged_fair s l q h c (ltb-true c z.cards e) t (understood t k a b) (understood_well t k a b)
      go false e = record { safe = h; calm = λ k. k; never = λ _ x. omega arith }

  -- every call of a book that keeps the invariant
  call_fair : (b : Book) → Inv z b → (k : Call)
      → Fair-reply b.board (called z b.board k) (after z b k).line (after z b k).finished
  unfolding called
  call_fair b I k = go k
    where
      h : Safe z b.board.lock b.line b.finished
      h = record { kept = I.kept; seated = I.seated; counted = I.counted }

      go : (k : Call) → Fair-reply b.board (called z b.board k) (after z b k).line (after z b k).finished
      go (call.Request c t k x y) = asked_fair b.board b.line b.finished h c t k x y
      go (call.Step c) = let d = step_deed z b.board.lock c in
          passed_fair b.board (stepped z b.board.lock c) (lined c d b.line) (summed c d b.finished)
          (step_keeps z W b.board.lock b.line b.finished h c)
      go (call.Abort c) = passed_fair b.board (aborted z b.board.lock c) b.line b.finished
          (abort_keeps z W b.board.lock b.line b.finished h c)
      go (call.Reuse c n v) = passed_fair b.board (reused z b.board.lock c n v) b.line b.finished
          (reuse_keeps z W b.board.lock b.line b.finished h c n v)

  -- every call keeps the invariant
  pub keep : (b : Book) (k : Call) → Inv z b → Inv z (after z b k)
  keep b k I =
      let h = subst (λ (s : DoorState). Safe z s.lock (after z b k).line (after z b k).finished)
      (sym (board_after z b k)) (call_fair b I k).safe in
      record { kept = h.kept; seated = h.seated; counted = h.counted }

  -- the invariant, the two laws and calm memos
  pub record Whole (b : Book) : Type 0 where
    pub inv : Inv z b
    pub lawful : Lawful b
    pub calm : Calm b.board.memos

  -- every call keeps them
  whole_after : (b : Book) (k : Call) → Whole b → Whole (after z b k)
  whole_after b k I = record {
    inv = keep b k I.inv;
    lawful = lawful_after z b W.cards I.inv.kept.cards I.lawful k;
    calm = subst (λ (s : DoorState). Calm s.memos) (sym (board_after z b k))
        ((call_fair b I.inv k).calm I.calm);
  }

  -- a board newly set up has them
  whole_new : Whole new_book
  unfolding new_door
  whole_new = record {
    inv = record {
      kept = record {
        cells = refl;
        txs = refl;
        cards = refl;
        isolated = record {
          agrees = λ c. subst (λ (x : Tx). Agrees (standing cleared) (stage_of new_lock c) x)
              (sym (all_same 8 c none)) (ap in_tx (idle_all c));
          apart = λ c d a _ w. clash (has_written a (tx_of cleared c)) w
              (ap (has_written a) (all_same 8 c none));
        };
        line = new_line (standing cleared) (stage_of new_lock) refl idle_all;
        absent = λ c _. idle_all c;
        sound = λ c. subst (Sound z.nodes z.counters) (sym (idle_all c)) tt;
      };
      seated = tt;
      counted = record {
        counts = λ k _. all_same 137 (counter_cell z.nodes k) 0;
        loaded = λ c n k a v e. clash (finishing (stage_of new_lock c)) (ap finishing e) (ap finishing (idle_all c));
      };
    };
    lawful = new_lawful;
    calm = calm_new 8;
  }
    where
      idle_all : (c : ℕ) → stage_of new_lock c ≡ Idle
      idle_all c = ap (λ (r : Card). r.stage) (all_same 8 c idle_card)

      calm_new : (n c : ℕ) → FineLast (get_or (replicate n new_memo) c no_memo).last
      calm_new zero c = tt
      calm_new (suc n) zero = tt
      calm_new (suc n) (suc c) = calm_new n c

  -- so every book that is fed calls has them
  whole_from : (b : Book) (cs : List Call) → Whole b → Whole (fed_from z b cs)
  whole_from b [] I = I
  whole_from b (k ∷ cs) I = whole_from (after z b k) cs (whole_after b k I)

  pub whole : (cs : List Call) → Whole (fed z cs)
  unfolding fed
  whole cs = whole_from new_book cs whole_new

  -- the promise stands in every book
  pub promised : (cs : List Call) → Stands z (cells_of (fed z cs)) (fed z cs)
  promised cs = stands z W keep (fed z cs) (whole cs).inv (whole cs).lawful

  -- and no call is refused by the memory
  pub never : (cs : List Call) (k : Call) → Never8 (called z (fed z cs).board k).0
  never cs k = (call_fair (fed z cs) (whole cs).inv k).never (whole cs).calm
