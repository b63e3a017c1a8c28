-- A request that is sent again acts no second time.
use Rattle.std.proofs.Common.{◌≡◌, ℕ, ◌<◌, ◌≤◌, Bool, true, false, cond, eqb, ltb, List, [], ◌∷◌, length, Some, Ok}
use Rattle.std.proofs.Common.{Err, Result, sym, refl, ap, ◌∙◌, subst, arith}
use Rattle.std.proofs.lemmas.List.{get_or-set_same, get_or-set_other}
use Rattle.std.proofs.lemmas.Bool.{ltb-true, eq-eqb}
use Rattle.stages.specs.declared.answer.Answer.{Answer}
use Rattle.stages.specs.declared.stage.Mode.TheVariants.{Read, Write}
use Rattle.lock.specs.declared.fault.LockFault.TheVariants.{NoCard}
use Rattle.lock.specs.Lock.{Size}
use Rattle.door.specs.declared.fault.DoorFault.{DoorFault}
use Rattle.door.specs.declared.fault.DoorFault.TheVariants.{Differs, Lock}
use Rattle.door.specs.declared.request.Request.{Request}
use Rattle.door.specs.declared.request.Request.TheVariants.{Enter, Leave, Add, Show}
use Rattle.door.specs.declared.request.Memo.{Memo}
use Rattle.door.specs.declared.call.Call.{Call}
use Rattle.door.specs.declared.call.Call.TheVariants as call
use Rattle.door.specs.Door.{DoorState, Reply, no_memo, memo_of, understood, same, told, resent, served, noted, judged}
use Rattle.door.specs.Door.{asked, called, ran}
use Rattle.board.specs.Resends.{NoRequest, Again}

-- every request is the same as itself
same_self : (w : Request) → same w w ≡ true
same_self (Enter Read n) = eq-eqb n n refl
same_self (Enter Write n) = eq-eqb n n refl
same_self Leave = refl
same_self (Add k a) = ap (λ x. cond x (eqb a a) false) (eq-eqb k k refl) ∙ eq-eqb a a refl
same_self (Show k) = eq-eqb k k refl

-- a request of another card leaves what is remembered of card c
judged_other : (z : Size) (s : DoorState) (c d t : ℕ) → (d ≡ c → ⊥) → (r : Result Request DoorFault)
    → memo_of (judged z s d t r).1 c ≡ memo_of s c
judged_other z s c d t n (Err e) = refl
judged_other z s c d t n (Ok w) = go (eqb (memo_of s d).toggle t)
  where
    go : (x : Bool) → memo_of
        (cond x (resent (memo_of s d).last w, s) (noted s d t w (served z s.lock d w))).1 c ≡ memo_of s c
    go true = refl
    go false = get_or-set_other s.memos d c
        (record { toggle = t; last = Some (record { request = w; answer = (served z s.lock d w).0 }) }) no_memo
        (λ e. n (sym e))

asked_other : (z : Size) (s : DoorState) (c d t k a b : ℕ) → (d ≡ c → ⊥)
    → memo_of (asked z s d t k a b).1 c ≡ memo_of s c
asked_other z s c d t k a b n = go (ltb d z.cards)
  where
    go : (x : Bool) → memo_of (cond x (judged z s d t (understood t k a b)) (Err (Lock NoCard), s)).1 c ≡ memo_of s c
    go true = judged_other z s c d t n (understood t k a b)
    go false = refl

-- and so does a list of calls that holds no request of it
ran_other : (z : Size) (s : DoorState) (c : ℕ) (cs : List Call) → NoRequest c cs
    → memo_of (ran z s cs) c ≡ memo_of s c
unfolding called
ran_other z s c [] n = refl
ran_other z s c (call.Request d t k a b ∷ cs) n =
    ran_other z (called z s (call.Request d t k a b)).1 c cs n.1 ∙ asked_other z s c d t k a b n.0
ran_other z s c (call.Step d ∷ cs) n = ran_other z (called z s (call.Step d)).1 c cs n
ran_other z s c (call.Abort d ∷ cs) n = ran_other z (called z s (call.Abort d)).1 c cs n
ran_other z s c (call.Reuse d m v ∷ cs) n = ran_other z (called z s (call.Reuse d m v)).1 c cs n

-- the reply to a request in a state that remembers the memo m of its card, with the toggle of the request
by_memo : (z : Size) (u : DoorState) (c t : ℕ) (w : Request) (m : Memo) → memo_of u c ≡ m → eqb m.toggle t ≡ true
    → judged z u c t (Ok w) ≡ (resent m.last w, u)
by_memo z u c t w m e q = ap (λ (x : Memo).
    cond (eqb x.toggle t) (resent x.last w, u) (noted u c t w (served z u.lock c w))) e
    ∙ ap (λ (x : Bool). cond x (resent m.last w, u) (noted u c t w (served z u.lock c w))) q

-- a request in a state that remembers of its card what the same request left
judged_again : (z : Size) (s u : DoorState) (c t : ℕ) → c < length s.memos → (r : Result Request DoorFault)
    → memo_of u c ≡ memo_of (judged z s c t r).1 c → judged z u c t r ≡ ((judged z s c t r).0, u)
judged_again z s u c t lt (Err e) m = refl
judged_again z s u c t lt (Ok w) m = go (eqb (memo_of s c).toggle t) refl m
  where
    new : Memo
    new = record { toggle = t; last = Some (record { request = w; answer = (served z s.lock c w).0 }) }

    go : (x : Bool) → eqb (memo_of s c).toggle t ≡ x
        → memo_of u c ≡ memo_of
        (cond x (resent (memo_of s c).last w, s)
        (noted s c t w (served z s.lock c w))).1 c
        → judged z u c t (Ok w)
        ≡ (
          (cond x (resent (memo_of s c).last w, s)
              (noted s c t w (served z s.lock c w))).0,
          u,
        )
    go true q m = by_memo z u c t w (memo_of s c) m q
    go false q m =
        by_memo z u c t w new (m ∙ get_or-set_same s.memos c new no_memo lt) (eq-eqb t t refl)
        ∙ ap (λ (x : Bool). (cond x (told (served z s.lock c w).0) (Err Differs), u)) (same_self w)

asked_again : (z : Size) (s u : DoorState) (c t k a b : ℕ) → z.cards ≤ 8 → length s.memos ≡ 8
    → memo_of u c ≡ memo_of (asked z s c t k a b).1 c → asked z u c t k a b ≡ ((asked z s c t k a b).0, u)
asked_again z s u c t k a b few eight = go (ltb c z.cards) refl
  where
    below : c < z.cards → c < 8
    below lt = omega arith

    go : (x : Bool) → ltb c z.cards ≡ x
        → memo_of u c ≡ memo_of (cond x (judged z s c t (understood t k a b)) (Err (Lock NoCard), s)).1 c
        → cond x (judged z u c t (understood t k a b)) (Err (Lock NoCard), u)
        ≡ ((cond x (judged z s c t (understood t k a b)) (Err (Lock NoCard), s)).0, u)
    go true e m = judged_again z s u c t
        (subst (λ n. c < n) (sym eight) (below (ltb-true c z.cards e))) (understood t k a b) m
    go false e m = refl

-- every call: sent again, a request gets the same answer and changes nothing
pub again : (z : Size) → z.cards ≤ 8 → (s t : DoorState) → length s.memos ≡ 8 → (k : Call)
    → (r : Result Answer DoorFault) → (r, t) ≡ called z s k → Again z k t r
unfolding called
again z few s t eight k r e = subst (λ (p : Reply). Again z k p.1 p.0) (sym e) (go k)
  where
    go : (k : Call) → Again z k (called z s k).1 (called z s k).0
    go (call.Request c g k a b) = λ cs n. asked_again z s (ran z (asked z s c g k a b).1 cs) c g k a b few eight
        (ran_other z (asked z s c g k a b).1 c cs n)
    go (call.Step c) = tt
    go (call.Abort c) = tt
    go (call.Reuse c n v) = tt
