-- What each call of the board answers and leaves: the door's rules over the lock's.
use Rattle.std.specs.Prelude.{ℕ, Bool, true, false, cond, List, [], ◌∷◌, replicate, Some, None, Ok, Err, Option}
use Rattle.std.specs.Prelude.{Result, ◌==◌, nat_lt, slice_index_or, slice_set}
use Rattle.stages.specs.declared.answer.Answer.{Answer}
use Rattle.stages.specs.declared.stage.Mode.{Mode}
use Rattle.stages.specs.declared.stage.Mode.TheVariants.{Read, Write}
use Rattle.lock.specs.declared.fault.LockFault.{LockFault}
use Rattle.lock.specs.declared.fault.LockFault.TheVariants.{NoCard}
use Rattle.lock.specs.Lock.{Size, LockState, Turn, new_lock, stepped, aborted, reused, entered, left, added, shown}
use Rattle.door.specs.declared.fault.DoorFault.{DoorFault}
use Rattle.door.specs.declared.fault.DoorFault.TheVariants.{Malformed, Differs, Lock}
use Rattle.door.specs.declared.request.Request.{Request}
use Rattle.door.specs.declared.request.Request.TheVariants.{Enter, Leave, Add, Show}
use Rattle.door.specs.declared.request.Memo.{Memo}
use Rattle.door.specs.declared.request.Remembered.{Remembered}
use Rattle.door.specs.declared.call.Call.{Call}
use Rattle.door.specs.declared.call.Call.TheVariants as call

-- the lock's state, and what is remembered of each card
pub record DoorState : Type 0 where
  pub lock : LockState
  pub memos : List Memo

-- what a call of the board answers, and the state after it
abbrev pub Reply : Type 0
Reply = Result Answer DoorFault × DoorState

-- what is remembered of a card on a new board: toggle 1, and a request that equals none
abbrev pub new_memo : Memo
new_memo = record { toggle = 1; last = None }

-- a board newly set up
unfoldable pub new_door : DoorState
new_door = record { lock = new_lock; memos = replicate 8 new_memo }

-- what a place past the last card would hold
abbrev pub no_memo : Memo
no_memo = record { toggle = 0; last = None }

-- what is remembered of a card
abbrev pub memo_of : DoorState → ℕ → Memo
memo_of s c = slice_index_or s.memos c no_memo

-- the request that a kind and two numbers make; an unused number has to be 0
abbrev pub worded : ℕ → ℕ → ℕ → Result Request DoorFault
worded k a b =
    cond (k == 1) (cond (b == 0) (Ok (Enter Read a)) (Err Malformed))
    (cond (k == 2) (cond (b == 0) (Ok (Enter Write a)) (Err Malformed))
    (cond (k == 3) (cond (a == 0) (cond (b == 0) (Ok Leave) (Err Malformed)) (Err Malformed))
    (cond (k == 4) (Ok (Add a b))
    (cond (k == 5) (cond (b == 0) (Ok (Show a)) (Err Malformed)) (Err Malformed)))))

-- the request that a toggle, a kind and two numbers make
abbrev pub understood : ℕ → ℕ → ℕ → ℕ → Result Request DoorFault
understood t k a b = cond (nat_lt t 2) (worded k a b) (Err Malformed)

-- whether two modes are the same
abbrev pub same_mode : Mode → Mode → Bool
same_mode Read Read = true
same_mode Read Write = false
same_mode Write Read = false
same_mode Write Write = true

-- whether two requests are the same
abbrev pub same : Request → Request → Bool
same (Enter m n) (Enter m' n') = cond (same_mode m m') (n == n') false
same (Enter m n) Leave = false
same (Enter m n) (Add k a) = false
same (Enter m n) (Show k) = false
same Leave (Enter m n) = false
same Leave Leave = true
same Leave (Add k a) = false
same Leave (Show k) = false
same (Add k a) (Enter m n) = false
same (Add k a) Leave = false
same (Add k a) (Add k' a') = cond (k == k') (a == a') false
same (Add k a) (Show k') = false
same (Show k) (Enter m n) = false
same (Show k) Leave = false
same (Show k) (Add k' a) = false
same (Show k) (Show k') = k == k'

-- the answer as the door gives it
abbrev pub told : Result Answer LockFault → Result Answer DoorFault
told (Ok r) = Ok r
told (Err f) = Err (Lock f)

-- the answer to a request with the toggle of the card's last: the remembered one if it is a resend
abbrev pub resent : Option Remembered → Request → Result Answer DoorFault
resent None w = Err Differs
resent (Some l) w = cond (same l.request w) (told l.answer) (Err Differs)

-- what the lock does on a request
abbrev pub served : Size → LockState → ℕ → Request → Turn
served z s c (Enter m n) = entered z s c m n
served z s c Leave = left z s c
served z s c (Add k a) = added z s c k a
served z s c (Show k) = shown z s c k

-- the answer given and remembered
abbrev pub noted : DoorState → ℕ → ℕ → Request → Turn → Reply
noted s c t w p = (
  told p.0,
  record {
    lock = p.1;
    memos = slice_set s.memos c (record { toggle = t; last = Some (record { request = w; answer = p.0 }) });
  },
)

-- a request of its form, or not, by a card that there is
abbrev pub judged : Size → DoorState → ℕ → ℕ → Result Request DoorFault → Reply
judged z s c t (Ok w) =
    cond ((memo_of s c).toggle == t)
    (resent (memo_of s c).last w, s)
    (noted s c t w (served z s.lock c w))
judged z s c t (Err e) = (Err e, s)

-- a request: a card that there is, a request of its form, no resend that differs; then the lock judges
abbrev pub asked : Size → DoorState → ℕ → ℕ → ℕ → ℕ → ℕ → Reply
asked z s c t k a b = cond (nat_lt c z.cards) (judged z s c t (understood t k a b)) (Err (Lock NoCard), s)

-- an event that is no request: nothing is remembered
abbrev pub passed : DoorState → Turn → Reply
passed s p = (told p.0, record { lock = p.1; memos = s.memos })

-- each call
unfoldable pub called : Size → DoorState → Call → Reply
called z s (call.Request c t k a b) = asked z s c t k a b
called z s (call.Step c) = passed s (stepped z s.lock c)
called z s (call.Abort c) = passed s (aborted z s.lock c)
called z s (call.Reuse c n v) = passed s (reused z s.lock c n v)

-- the state after calls in turn
abbrev pub ran : Size → DoorState → List Call → DoorState
ran z s [] = s
ran z s (c ∷ cs) = ran z (called z s c).1 cs

-- the answers to calls in turn
abbrev pub answers : Size → DoorState → List Call → List (Result Answer DoorFault)
answers z s [] = []
answers z s (c ∷ cs) = (called z s c).0 ∷ answers z (called z s c).1 cs
