-- No second entry and no second count: what a card asked for is what it did, but for the one thing still under way.
use Rattle.std.proofs.Common.{◌≡◌, ℕ, zero, suc, ◌<◌, ◌≤◌, Bool, true, false, cond, eqb, ◌⊎◌, List, [], ◌∷◌, ◌++◌}
use Rattle.std.proofs.Common.{length, get_or, replicate, Some, None, Ok, Err, Option, Result, sym, refl, ap, ◌∙◌}
use Rattle.std.proofs.Common.{subst, inl, inr, append-nil, arith}
use Rattle.std.proofs.lemmas.Bool.{cases_eq, eq-eqb, ne_eqb}
use Rattle.memory.specs.declared.fault.MemoryFault.{MemoryFault}
use Rattle.memory.specs.declared.fault.Refusal.{Refusal}
use Rattle.memory.specs.declared.fault.Refusal.TheVariants.{OutOfRange, Already, NoTransaction, Doomed, Full}
use Rattle.memory.specs.Calls.{performed}
use Rattle.memory.proofs.Isolation.{all_same}
use Rattle.stages.specs.declared.answer.Answer.{Answer}
use Rattle.stages.specs.declared.answer.Answer.TheVariants.{Step, In, Out}
use Rattle.stages.specs.declared.stage.Mode.{Mode}
use Rattle.stages.specs.declared.stage.Mode.TheVariants.{Read, Write}
use Rattle.stages.specs.declared.stage.WriterEntry.{WriterEntry}
use Rattle.stages.specs.declared.stage.WriterEntry.TheVariants.{W1, W2, W3, W4, W5, W6}
use Rattle.stages.specs.declared.stage.ReaderEntry.{ReaderEntry}
use Rattle.stages.specs.declared.stage.ReaderEntry.TheVariants.{R1, R2, R3, R4, R5, R6, R7, R8, R9, R10, R11, R12}
use Rattle.stages.specs.declared.stage.ReaderEntry.TheVariants.{R13, R14}
use Rattle.stages.specs.declared.stage.Addition.TheVariants.{A1, A2}
use Rattle.stages.specs.declared.stage.WriterExit.TheVariants.{X1, X2, X3, X4, X5}
use Rattle.stages.specs.declared.stage.ReaderExit.TheVariants.{Y1, Y2, Y3, Y4, Y5, Y6, Y7, Y8}
use Rattle.stages.specs.declared.stage.Card.{Card}
use Rattle.stages.specs.declared.stage.Stage.{Stage}
use Rattle.stages.specs.declared.stage.Stage.TheVariants.{Idle, WriterEnters, ReaderEnters, Inside, Adds}
use Rattle.stages.specs.declared.stage.Stage.TheVariants.{WriterLeaves, ReaderLeaves}
use Rattle.stages.specs.Rows.{begin_of, writer_entry_begin, reader_entry_begin}
use Rattle.lock.specs.Lock.{Size, LockState, idle_card, stage_of, first_stage, goes, returns_by, advanced}
use Rattle.lock.specs.Lines.{writer_joined, reader_joined}
use Rattle.door.specs.declared.request.Request.{Request}
use Rattle.door.specs.declared.request.Request.TheVariants.{Enter, Leave, Add, Show}
use Rattle.door.specs.declared.call.Call.{Call}
use Rattle.door.specs.declared.call.Call.TheVariants as call
use Rattle.door.specs.Door.{new_door, called, served}
use Rattle.board.specs.Book.{Book, Place, Sum, new_book, Deed, plain, joins, parts, finishes, deed, joined, summed}
use Rattle.board.specs.Book.{accepted, step_deed, taken_request, noted_entry, noted_add, after}
use Rattle.board.specs.Promise.{places_of, sums_of, entry_under_way, add_under_way, stage}
use Rattle.board.proofs.Cells.{clash}
use Rattle.board.proofs.Lists.{by_test, keeps_head, parts_add}
use Rattle.board.proofs.Turns.{Taken, Shows, Served, served_moves, request_cases, Stepped, step_cases, Aborted}
use Rattle.board.proofs.Turns.{abort_cases, reuse_cards}
use Rattle.board.proofs.Turns.{moved, moved_same, moved_other, same_stage}

-- Tables: what a row does to what is under way.

-- a row's deed takes its entry from under way to the joinings
entry_goes : (c : ℕ) (g : Stage) (v : ℕ)
    → entry_under_way c g ≡ joined c (deed g) [] ++ entry_under_way c (goes g v).0
entry_goes c Idle v = refl
entry_goes c (WriterEnters n W1) v = refl
entry_goes c (WriterEnters n W2) v = refl
entry_goes c (WriterEnters n (W3 zero)) v = refl
entry_goes c (WriterEnters n (W3 (suc p))) v = refl
entry_goes c (WriterEnters n (W4 p)) v = refl
entry_goes c (WriterEnters n (W5 zero)) v = refl
entry_goes c (WriterEnters n (W5 (suc p))) v = refl
entry_goes c (WriterEnters n W6) zero = refl
entry_goes c (WriterEnters n W6) (suc v) = refl
entry_goes c (ReaderEnters n R1) v = refl
entry_goes c (ReaderEnters n R2) v = refl
entry_goes c (ReaderEnters n (R3 zero)) v = refl
entry_goes c (ReaderEnters n (R3 (suc p))) v = refl
entry_goes c (ReaderEnters n (R4 p)) v = refl
entry_goes c (ReaderEnters n (R5 p)) v = refl
entry_goes c (ReaderEnters n (R6 p)) v = refl
entry_goes c (ReaderEnters n (R7 zero s)) v = refl
entry_goes c (ReaderEnters n (R7 (suc p) s)) v =
    by_test (λ (x : ReaderEntry). (record { card = c; node = n; mode = Read } ∷ [])
    ≡ (record { card = c; node = n; mode = Read } ∷ []) ++ entry_under_way c (ReaderEnters n x))
    (eqb s 3) R9 R8 refl refl
entry_goes c (ReaderEnters n R8) zero = refl
entry_goes c (ReaderEnters n R8) (suc v) = refl
entry_goes c (ReaderEnters n R9) v = refl
entry_goes c (ReaderEnters n R10) v = refl
entry_goes c (ReaderEnters n R11) v = refl
entry_goes c (ReaderEnters n (R12 zero)) v = refl
entry_goes c (ReaderEnters n (R12 (suc t))) v = refl
entry_goes c (ReaderEnters n (R13 t)) v =
    by_test (λ (x : Stage × Answer). [] ≡ entry_under_way c x.0) (eqb v 1)
    (ReaderEnters n (R14 t), Step) (Inside n Read, In) refl refl
entry_goes c (ReaderEnters n (R14 t)) v = refl
entry_goes c (Inside n m) v = refl
entry_goes c (Adds n (A1 k a)) v = refl
entry_goes c (Adds n (A2 k a x)) v = refl
entry_goes c (WriterLeaves n X1) v = refl
entry_goes c (WriterLeaves n X2) v = refl
entry_goes c (WriterLeaves n (X3 t)) v = refl
entry_goes c (WriterLeaves n (X4 zero)) v = refl
entry_goes c (WriterLeaves n (X4 (suc t))) v = refl
entry_goes c (WriterLeaves n (X5 t)) v = refl
entry_goes c (ReaderLeaves n Y1) v = refl
entry_goes c (ReaderLeaves n Y2) v = refl
entry_goes c (ReaderLeaves n (Y3 zero)) v = refl
entry_goes c (ReaderLeaves n (Y3 (suc p))) v = refl
entry_goes c (ReaderLeaves n (Y4 p t)) v = refl
entry_goes c (ReaderLeaves n (Y5 p zero)) v = refl
entry_goes c (ReaderLeaves n (Y5 zero (suc t))) v = refl
entry_goes c (ReaderLeaves n (Y5 (suc p) (suc t))) v = refl
entry_goes c (ReaderLeaves n (Y6 p t)) v = refl
entry_goes c (ReaderLeaves n (Y7 p zero s)) v = refl
entry_goes c (ReaderLeaves n (Y7 zero (suc t) s)) v =
    by_test (λ (x : Stage × Answer). [] ≡ entry_under_way c x.0) (eqb s 2)
    (ReaderLeaves n (Y8 (suc t)), Step) (Idle, Out) refl refl
entry_goes c (ReaderLeaves n (Y7 (suc p) (suc t) s)) v = refl
entry_goes c (ReaderLeaves n (Y8 t)) v = refl

-- a row's deed takes its add from under way to the finished adds
add_goes : (c : ℕ) (g : Stage) (v : ℕ) → add_under_way c g ≡ summed c (deed g) [] ++ add_under_way c (goes g v).0
add_goes c Idle v = refl
add_goes c (WriterEnters n W1) v = refl
add_goes c (WriterEnters n W2) v = refl
add_goes c (WriterEnters n (W3 zero)) v = refl
add_goes c (WriterEnters n (W3 (suc p))) v = refl
add_goes c (WriterEnters n (W4 p)) v = refl
add_goes c (WriterEnters n (W5 zero)) v = refl
add_goes c (WriterEnters n (W5 (suc p))) v = refl
add_goes c (WriterEnters n W6) zero = refl
add_goes c (WriterEnters n W6) (suc v) = refl
add_goes c (ReaderEnters n R1) v = refl
add_goes c (ReaderEnters n R2) v = refl
add_goes c (ReaderEnters n (R3 zero)) v = refl
add_goes c (ReaderEnters n (R3 (suc p))) v = refl
add_goes c (ReaderEnters n (R4 p)) v = refl
add_goes c (ReaderEnters n (R5 p)) v = refl
add_goes c (ReaderEnters n (R6 p)) v = refl
add_goes c (ReaderEnters n (R7 zero s)) v = refl
add_goes c (ReaderEnters n (R7 (suc p) s)) v = refl
add_goes c (ReaderEnters n R8) zero = refl
add_goes c (ReaderEnters n R8) (suc v) = refl
add_goes c (ReaderEnters n R9) v = refl
add_goes c (ReaderEnters n R10) v = refl
add_goes c (ReaderEnters n R11) v = refl
add_goes c (ReaderEnters n (R12 zero)) v = refl
add_goes c (ReaderEnters n (R12 (suc t))) v = refl
add_goes c (ReaderEnters n (R13 t)) v =
    by_test (λ (x : Stage × Answer). [] ≡ add_under_way c x.0) (eqb v 1)
    (ReaderEnters n (R14 t), Step) (Inside n Read, In) refl refl
add_goes c (ReaderEnters n (R14 t)) v = refl
add_goes c (Inside n m) v = refl
add_goes c (Adds n (A1 k a)) v = refl
add_goes c (Adds n (A2 k a x)) v = refl
add_goes c (WriterLeaves n X1) v = refl
add_goes c (WriterLeaves n X2) v = refl
add_goes c (WriterLeaves n (X3 t)) v = refl
add_goes c (WriterLeaves n (X4 zero)) v = refl
add_goes c (WriterLeaves n (X4 (suc t))) v = refl
add_goes c (WriterLeaves n (X5 t)) v = refl
add_goes c (ReaderLeaves n Y1) v = refl
add_goes c (ReaderLeaves n Y2) v = refl
add_goes c (ReaderLeaves n (Y3 zero)) v = refl
add_goes c (ReaderLeaves n (Y3 (suc p))) v = refl
add_goes c (ReaderLeaves n (Y4 p t)) v = refl
add_goes c (ReaderLeaves n (Y5 p zero)) v = refl
add_goes c (ReaderLeaves n (Y5 zero (suc t))) v = refl
add_goes c (ReaderLeaves n (Y5 (suc p) (suc t))) v = refl
add_goes c (ReaderLeaves n (Y6 p t)) v = refl
add_goes c (ReaderLeaves n (Y7 p zero s)) v = refl
add_goes c (ReaderLeaves n (Y7 zero (suc t) s)) v =
    by_test (λ (x : Stage × Answer). [] ≡ add_under_way c x.0) (eqb s 2)
    (ReaderLeaves n (Y8 (suc t)), Step) (Idle, Out) refl refl
add_goes c (ReaderLeaves n (Y7 (suc p) (suc t) s)) v = refl
add_goes c (ReaderLeaves n (Y8 t)) v = refl

-- a transaction of a writer that starts again: it has joined just if it had
writer_begins : (at : WriterEntry) → writer_joined (writer_entry_begin at) ≡ writer_joined at
writer_begins W1 = refl
writer_begins W2 = refl
writer_begins (W3 p) = refl
writer_begins (W4 p) = refl
writer_begins (W5 p) = refl
writer_begins W6 = refl

-- of a reader too
reader_begins : (at : ReaderEntry) → reader_joined (reader_entry_begin at) ≡ reader_joined at
reader_begins R1 = refl
reader_begins R2 = refl
reader_begins (R3 p) = refl
reader_begins (R4 p) = refl
reader_begins (R5 p) = refl
reader_begins (R6 p) = refl
reader_begins (R7 p s) = refl
reader_begins R8 = refl
reader_begins R9 = refl
reader_begins R10 = refl
reader_begins R11 = refl
reader_begins (R12 t) = refl
reader_begins (R13 t) = refl
reader_begins (R14 t) = refl

-- an entry stays under way where a transaction starts again
entry_begins : (c : ℕ) (g : Stage) → entry_under_way c (begin_of g) ≡ entry_under_way c g
entry_begins c Idle = refl
entry_begins c (WriterEnters n at) =
    ap (λ (b : Bool). cond b [] (record { card = c; node = n; mode = Write } ∷ [])) (writer_begins at)
entry_begins c (ReaderEnters n at) =
    ap (λ (b : Bool). cond b [] (record { card = c; node = n; mode = Read } ∷ [])) (reader_begins at)
entry_begins c (Inside n m) = refl
entry_begins c (Adds n at) = refl
entry_begins c (WriterLeaves n at) = refl
entry_begins c (ReaderLeaves n at) = refl

-- and so does an add
add_begins : (c : ℕ) (g : Stage) → add_under_way c (begin_of g) ≡ add_under_way c g
add_begins c Idle = refl
add_begins c (WriterEnters n at) = refl
add_begins c (ReaderEnters n at) = refl
add_begins c (Inside n m) = refl
add_begins c (Adds n at) = refl
add_begins c (WriterLeaves n at) = refl
add_begins c (ReaderLeaves n at) = refl

-- Lists of places and of adds, one card's part of them.

-- one card's places of two lists
places_append : (c : ℕ) (l k : List Place) → places_of c (l ++ k) ≡ places_of c l ++ places_of c k
places_append c [] k = refl
places_append c (p ∷ l) k =
    keeps_head (eqb p.card c) p (places_of c (l ++ k)) (places_of c l) (places_of c k) (places_append c l k)

-- one card's adds of two lists
sums_append : (c : ℕ) (l k : List Sum) → sums_of c (l ++ k) ≡ sums_of c l ++ sums_of c k
sums_append c [] k = refl
sums_append c (p ∷ l) k =
    keeps_head (eqb p.card c) p (sums_of c (l ++ k)) (sums_of c l) (sums_of c k) (sums_append c l k)

-- a place of the card itself
own_place : (c n : ℕ) (m : Mode) → places_of c (record { card = c; node = n; mode = m } ∷ [])
    ≡ record { card = c; node = n; mode = m } ∷ []
own_place c n m = rw (eq-eqb c c refl)

-- an add of the card itself
own_sum : (c k a : ℕ) → sums_of c (record { card = c; counter = k; amount = a } ∷ [])
    ≡ record { card = c; counter = k; amount = a } ∷ []
own_sum c k a = rw (eq-eqb c c refl)

-- a place of another card
other_place : (c e n : ℕ) (m : Mode) → (e ≡ c → ⊥) → places_of c (record { card = e; node = n; mode = m } ∷ []) ≡ []
other_place c e n m h = rw (ne_eqb e c h)

-- an add of another card
other_sum : (c e k a : ℕ) → (e ≡ c → ⊥) → sums_of c (record { card = e; counter = k; amount = a } ∷ []) ≡ []
other_sum c e k a h = rw (ne_eqb e c h)

-- a deed adds to the joinings at the end
joined_is : (c : ℕ) (d : Deed) (l : List Place) → joined c d l ≡ l ++ joined c d []
joined_is c plain l = sym (append-nil l)
joined_is c (joins n m) l = refl
joined_is c parts l = sym (append-nil l)
joined_is c (finishes k a) l = sym (append-nil l)

-- to the finished adds
summed_is : (c : ℕ) (d : Deed) (l : List Sum) → summed c d l ≡ l ++ summed c d []
summed_is c plain l = sym (append-nil l)
summed_is c (joins n m) l = sym (append-nil l)
summed_is c parts l = sym (append-nil l)
summed_is c (finishes k a) l = refl

-- a request adds to the entries at the end
entry_is : (c : ℕ) (w : Option Request) (l : List Place) → noted_entry c w l ≡ l ++ noted_entry c w []
entry_is c None l = sym (append-nil l)
entry_is c (Some (Enter m n)) l = refl
entry_is c (Some Leave) l = sym (append-nil l)
entry_is c (Some (Add k a)) l = sym (append-nil l)
entry_is c (Some (Show k)) l = sym (append-nil l)

-- to the adds asked for
add_is : (c : ℕ) (w : Option Request) (l : List Sum) → noted_add c w l ≡ l ++ noted_add c w []
add_is c None l = sym (append-nil l)
add_is c (Some (Enter m n)) l = sym (append-nil l)
add_is c (Some Leave) l = sym (append-nil l)
add_is c (Some (Add k a)) l = refl
add_is c (Some (Show k)) l = sym (append-nil l)

-- what a deed adds is its own card's
joined_own : (c : ℕ) (d : Deed) → places_of c (joined c d []) ≡ joined c d []
joined_own c plain = refl
joined_own c (joins n m) = own_place c n m
joined_own c parts = refl
joined_own c (finishes k a) = refl

-- of the finished adds too
summed_own : (c : ℕ) (d : Deed) → sums_of c (summed c d []) ≡ summed c d []
summed_own c plain = refl
summed_own c (joins n m) = refl
summed_own c parts = refl
summed_own c (finishes k a) = own_sum c k a

-- and no other card's
joined_other : (c e : ℕ) (d : Deed) → (e ≡ c → ⊥) → places_of c (joined e d []) ≡ []
joined_other c e plain h = refl
joined_other c e (joins n m) h = other_place c e n m h
joined_other c e parts h = refl
joined_other c e (finishes k a) h = refl

-- of the finished adds too
summed_other : (c e : ℕ) (d : Deed) → (e ≡ c → ⊥) → sums_of c (summed e d []) ≡ []
summed_other c e plain h = refl
summed_other c e (joins n m) h = refl
summed_other c e parts h = refl
summed_other c e (finishes k a) h = other_sum c e k a h

-- what a request adds is no other card's
entry_other : (c e : ℕ) (w : Option Request) → (e ≡ c → ⊥) → places_of c (noted_entry e w []) ≡ []
entry_other c e None h = refl
entry_other c e (Some (Enter m n)) h = other_place c e n m h
entry_other c e (Some Leave) h = refl
entry_other c e (Some (Add k a)) h = refl
entry_other c e (Some (Show k)) h = refl

-- of the adds asked for too
add_other : (c e : ℕ) (w : Option Request) → (e ≡ c → ⊥) → sums_of c (noted_add e w []) ≡ []
add_other c e None h = refl
add_other c e (Some (Enter m n)) h = refl
add_other c e (Some Leave) h = refl
add_other c e (Some (Add k a)) h = other_sum c e k a h
add_other c e (Some (Show k)) h = refl

-- What one call does.

-- a card's entries: with what was under way, what is asked for is what is done and what is under way then
abbrev EntryLaw : ℕ → Stage → Stage → List Place → List Place → Type 0
EntryLaw c g h more done = entry_under_way c g ++ places_of c more ≡ places_of c done ++ entry_under_way c h

-- a card's adds
abbrev AddLaw : ℕ → Stage → Stage → List Sum → List Sum → Type 0
AddLaw c g h more done = add_under_way c g ++ sums_of c more ≡ sums_of c done ++ add_under_way c h

-- both
abbrev Law : ℕ → Stage → Stage → List Place → List Place → List Sum → List Sum → Type 0
Law c g h more done asked summed = EntryLaw c g h more done × AddLaw c g h asked summed

-- nothing of the card's
still : (c : ℕ) (g h : Stage) (more done : List Place) (asked summed : List Sum) → h ≡ g
    → places_of c more ≡ [] → places_of c done ≡ [] → sums_of c asked ≡ [] → sums_of c summed ≡ []
    → Law c g h more done asked summed
still c g h more done asked summed e p q r s = (
  ap (λ (x : List Place). entry_under_way c g ++ x) p ∙ append-nil (entry_under_way c g)
      ∙ ap (entry_under_way c) (sym e) ∙ ap (λ (x : List Place). x ++ entry_under_way c h) (sym q),
  ap (λ (x : List Sum). add_under_way c g ++ x) r ∙ append-nil (add_under_way c g)
      ∙ ap (add_under_way c) (sym e) ∙ ap (λ (x : List Sum). x ++ add_under_way c h) (sym s),
)

-- a card that enters has its entry under way
first_entry : (c n : ℕ) (m : Mode) → entry_under_way c (first_stage n m) ≡ record { card = c; node = n; mode = m } ∷ []
first_entry c n Read = refl
first_entry c n Write = refl

-- and no add
first_add : (c n : ℕ) (m : Mode) → add_under_way c (first_stage n m) ≡ []
first_add c n Read = refl
first_add c n Write = refl

-- a request that is taken
taken_law : (c : ℕ) (w : Request) (g h : Stage) → Taken w g h
    → Law c g h (noted_entry c (Some w) []) [] (noted_add c (Some w) []) []
taken_law c (Enter m n) g h t = (
  ap (λ (x : Stage). entry_under_way c x ++ places_of c (record { card = c; node = n; mode = m } ∷ [])) t.0
      ∙ own_place c n m ∙ sym (first_entry c n m) ∙ ap (entry_under_way c) (sym t.1),
  ap (λ (x : Stage). add_under_way c x ++ []) t.0 ∙ sym (first_add c n m) ∙ ap (add_under_way c) (sym t.1),
)
taken_law c Leave g h (n, inl t) = (
  ap (λ (x : Stage). entry_under_way c x ++ []) t.0 ∙ ap (entry_under_way c) (sym t.1),
  ap (λ (x : Stage). add_under_way c x ++ []) t.0 ∙ ap (add_under_way c) (sym t.1),
)
taken_law c Leave g h (n, inr t) = (
  ap (λ (x : Stage). entry_under_way c x ++ []) t.0 ∙ ap (entry_under_way c) (sym t.1),
  ap (λ (x : Stage). add_under_way c x ++ []) t.0 ∙ ap (add_under_way c) (sym t.1),
)
taken_law c (Add k a) g h t = (
  ap (λ (x : Stage). entry_under_way c x ++ []) t.1 ∙ ap (entry_under_way c) (sym t.2),
  ap (λ (x : Stage). add_under_way c x ++ sums_of c (record { card = c; counter = k; amount = a } ∷ [])) t.1
      ∙ own_sum c k a ∙ ap (add_under_way c) (sym t.2),
)
taken_law c (Show k) g h t = absurd t

-- a step of the card itself, by the memory's answer
step_law : (c : ℕ) (g : Stage) (r : Result ℕ MemoryFault)
    → Law c g (advanced g r).0 [] (joined c (cond (accepted r) (deed g) plain) []) []
    (summed c (cond (accepted r) (deed g) plain) [])
step_law c g (Ok v) = (
  append-nil (entry_under_way c g) ∙ entry_goes c g v
      ∙ ap (λ (x : List Place). x ++ entry_under_way c (goes g v).0) (sym (joined_own c (deed g))),
  append-nil (add_under_way c g) ∙ add_goes c g v
      ∙ ap (λ (x : List Sum). x ++ add_under_way c (goes g v).0) (sym (summed_own c (deed g))),
)
step_law c g (Err f) = by_refusal f.refusal
  where
    by_refusal : (y : Refusal) → Law c g (returns_by g f y).0 [] [] [] []
    by_refusal OutOfRange = (append-nil (entry_under_way c g), append-nil (add_under_way c g))
    by_refusal Already = (append-nil (entry_under_way c g), append-nil (add_under_way c g))
    by_refusal NoTransaction = (append-nil (entry_under_way c g), append-nil (add_under_way c g))
    by_refusal Doomed = (
      append-nil (entry_under_way c g) ∙ sym (entry_begins c g),
      append-nil (add_under_way c g) ∙ sym (add_begins c g),
    )
    by_refusal Full = (append-nil (entry_under_way c g), append-nil (add_under_way c g))

-- The law of a book.

-- what a card asked for is what it did, but for the one thing under way: its entries, and its adds
pub record Lawful (b : Book) : Type 0 where
  pub entries : (c : ℕ) → places_of c b.entries ≡ places_of c b.joinings ++ entry_under_way c (stage b c)
  pub adds : (c : ℕ) → sums_of c b.asked ≡ sums_of c b.finished ++ add_under_way c (stage b c)

-- a call keeps the law where each card's part of what it adds agrees with what the card has under way
law_kept : (b d : Book) (more done : List Place) (asked summed : List Sum) → Lawful b
    → d.entries ≡ b.entries ++ more → d.joinings ≡ b.joinings ++ done
    → d.asked ≡ b.asked ++ asked → d.finished ≡ b.finished ++ summed
    → ((c : ℕ) → Law c (stage b c) (stage d c) more done asked summed) → Lawful d
law_kept b d more done asked summed L p q r s h = record {
  entries = λ c. ap (places_of c) p
      ∙ parts_add (places_of c) (places_append c) b.entries b.joinings more done
      (entry_under_way c (stage b c)) (entry_under_way c (stage d c)) (L.entries c) (h c).0
      ∙ ap (λ (x : List Place). places_of c x ++ entry_under_way c (stage d c)) (sym q);
  adds = λ c. ap (sums_of c) r
      ∙ parts_add (sums_of c) (sums_append c) b.asked b.finished asked summed
      (add_under_way c (stage b c)) (add_under_way c (stage d c)) (L.adds c) (h c).1
      ∙ ap (λ (x : List Sum). sums_of c x ++ add_under_way c (stage d c)) (sym s);
}

-- every card of a new board is idle
idle_stage : (n c : ℕ) → (get_or (replicate n idle_card) c idle_card).stage ≡ Idle
idle_stage n c = ap (λ (r : Card). r.stage) (all_same n c idle_card)

-- a new book is lawful
pub new_lawful : Lawful new_book
unfolding new_door
new_lawful = record {
  entries = λ c. ap (entry_under_way c) (sym (idle_stage 8 c));
  adds = λ c. ap (add_under_way c) (sym (idle_stage 8 c));
}

module _ (z : Size) (b : Book) (few : z.cards ≤ 8) (long : length b.board.lock.cards ≡ 8) (L : Lawful b) where
  -- the lock before the call
  abbrev s : LockState
  s = b.board.lock

  -- a request that the lock judges, of its own card and of another: o is it where it is taken
  served_own : (e : ℕ) (w : Request) (t : LockState) (o : Option Request) → e < z.cards
      → ((t.cards ≡ s.cards) × ((o ≡ None) ⊎ ((o ≡ Some w) × Shows w)))
      ⊎ ((g : Stage) × (t.cards ≡ moved s e g) × (o ≡ Some w) × Taken w (stage_of s e) g)
      → (c : ℕ) → Law c (stage_of s c) (stage_of t c) (noted_entry e o []) [] (noted_add e o []) []
  served_own e w t o lt h c = go (cases_eq e c) h
    where
      quiet : (o : Option Request) → (o ≡ None) ⊎ ((o ≡ Some w) × Shows w)
          → (places_of c (noted_entry e o []) ≡ []) × (sums_of c (noted_add e o []) ≡ [])
      quiet o (inl q) = (
        ap (λ (o : Option Request). places_of c (noted_entry e o [])) q,
        ap (λ (o : Option Request). sums_of c (noted_add e o [])) q,
      )
      quiet o (inr q) = (
        ap (λ (o : Option Request). places_of c (noted_entry e o [])) q.0 ∙ (shown w q.1).0,
        ap (λ (o : Option Request). sums_of c (noted_add e o [])) q.0 ∙ (shown w q.1).1,
      )
        where
          shown : (w : Request) → Shows w
              → (places_of c (noted_entry e (Some w) []) ≡ []) × (sums_of c (noted_add e (Some w) []) ≡ [])
          shown (Enter m n) h = absurd h
          shown Leave h = absurd h
          shown (Add k a) h = absurd h
          shown (Show k) h = (refl, refl)

      go : (e ≡ c) ⊎ (e ≡ c → ⊥)
          → ((t.cards ≡ s.cards) × ((o ≡ None) ⊎ ((o ≡ Some w) × Shows w)))
          ⊎ ((g : Stage) × (t.cards ≡ moved s e g) × (o ≡ Some w) × Taken w (stage_of s e) g)
          → Law c (stage_of s c) (stage_of t c) (noted_entry e o []) [] (noted_add e o []) []
      go k (inl q) = still c (stage_of s c) (stage_of t c) (noted_entry e o []) [] (noted_add e o []) []
          (same_stage s t c q.0) (quiet o q.1).0 refl (quiet o q.1).1 refl
      go (inr n) (inr q) = still c (stage_of s c) (stage_of t c) (noted_entry e o []) [] (noted_add e o []) []
          (moved_other s t e c q.0 (λ p. n (sym p)) q.1) (entry_other c e o n) refl (add_other c e o n) refl
      go (inl p) (inr q) =
          subst (λ (x : ℕ). Law x (stage_of s x) (stage_of t x) (noted_entry e o []) [] (noted_add e o []) []) p
          (subst (λ (o : Option Request).
          Law e (stage_of s e) (stage_of t e) (noted_entry e o []) [] (noted_add e o []) []) (sym q.2)
          (taken_law e w (stage_of s e) (stage_of t e)
          (subst (Taken w (stage_of s e)) (sym (moved_same s t e q.0 (omega arith) q.1)) q.3)))

  -- a step: of its own card, and of another
  stepped_law : (e : ℕ) (t : LockState) (d : Deed) → Stepped z s e t d
      → (c : ℕ) → Law c (stage_of s c) (stage_of t c) [] (joined e d []) [] (summed e d [])
  stepped_law e t d (inl q) c = still c (stage_of s c) (stage_of t c) [] (joined e d []) [] (summed e d [])
      (ap (λ (x : LockState). stage_of x c) q.0) refl
      (ap (λ (d : Deed). places_of c (joined e d [])) q.1) refl
      (ap (λ (d : Deed). sums_of c (summed e d [])) q.1)
  stepped_law e t d (inr q) c = go (cases_eq e c)
    where
      r : Result ℕ MemoryFault
      r = (performed s.meaning q.0).answer

      cards_are : t.cards ≡ moved s e (advanced (stage_of s e) r).0
      cards_are = ap (λ (x : LockState). x.cards) q.3

      go : (e ≡ c) ⊎ (e ≡ c → ⊥) → Law c (stage_of s c) (stage_of t c) [] (joined e d []) [] (summed e d [])
      go (inr n) = still c (stage_of s c) (stage_of t c) [] (joined e d []) [] (summed e d [])
          (moved_other s t e c (advanced (stage_of s e) r).0 (λ p. n (sym p)) cards_are)
          refl (joined_other c e d n) refl (summed_other c e d n)
      go (inl p) = let lt = q.1 in
          subst (λ (x : ℕ). Law x (stage_of s x) (stage_of t x) [] (joined e d []) [] (summed e d [])) p
          (subst (λ (d : Deed). Law e (stage_of s e) (stage_of t e) [] (joined e d []) [] (summed e d [])) (sym q.4)
          (subst (λ (h : Stage). Law e (stage_of s e) h
          [] (joined e (cond (accepted r) (deed (stage_of s e)) plain) [])
          [] (summed e (cond (accepted r) (deed (stage_of s e)) plain) []))
          (sym (moved_same s t e (advanced (stage_of s e) r).0 (omega arith) cards_are))
          (step_law e (stage_of s e) r)))

  -- an abort: of its own card, and of another
  aborted_law : (e : ℕ) (t : LockState) → Aborted z s e t → (c : ℕ) → Law c (stage_of s c) (stage_of t c) [] [] [] []
  aborted_law e t (inl q) c =
      still c (stage_of s c) (stage_of t c) [] [] [] [] (same_stage s t c q) refl refl refl refl
  aborted_law e t (inr q) c = go (cases_eq e c)
    where
      go : (e ≡ c) ⊎ (e ≡ c → ⊥) → Law c (stage_of s c) (stage_of t c) [] [] [] []
      go (inr n) = still c (stage_of s c) (stage_of t c) [] [] [] []
          (moved_other s t e c (begin_of (stage_of s e)) (λ p. n (sym p)) q.4) refl refl refl refl
      go (inl p) = let lt = q.1 in
          subst (λ (x : ℕ). Law x (stage_of s x) (stage_of t x) [] [] [] []) p
          (subst (λ (h : Stage). Law e (stage_of s e) h [] [] [] [])
          (sym (moved_same s t e (begin_of (stage_of s e)) (omega arith) q.4)) (
            append-nil (entry_under_way e (stage_of s e)) ∙ sym (entry_begins e (stage_of s e)),
            append-nil (add_under_way e (stage_of s e)) ∙ sym (add_begins e (stage_of s e)),
          ))

  -- a request, whatever the door and the lock say to it
  request_law : (e t k x y c : ℕ)
      → Law c (stage_of s c) (stage_of (called z b.board (call.Request e t k x y)).1.lock c)
      (noted_entry e (taken_request z b.board e t k x y) []) []
      (noted_add e (taken_request z b.board e t k x y) []) []
  request_law e t k x y = request_cases z b.board e t k x y
      (λ (u : LockState) (o : Option Request). (c : ℕ)
      → Law c (stage_of s c) (stage_of u c) (noted_entry e o []) [] (noted_add e o []) [])
      (λ c. still c (stage_of s c) (stage_of s c) [] [] [] [] refl refl refl refl refl)
      (λ w lt a. served_own e w (served z s e w).1 (Some w) lt (some w a (served_moves z s e w)))
      (λ w lt a. served_own e w (served z s e w).1 None lt (none w a (served_moves z s e w)))
    where
      some : (w : Request) → accepted (served z s e w).0 ≡ true → Served s e w (served z s e w)
          → (((served z s e w).1.cards ≡ s.cards) × ((Some w ≡ None) ⊎ ((Some w ≡ Some w) × Shows w)))
          ⊎ ((g : Stage) × ((served z s e w).1.cards ≡ moved s e g) × (Some w ≡ Some w) × Taken w (stage_of s e) g)
      some w a (inl q) = inl (q.0, inr (refl, q.1 a))
      some w a (inr q) = inr (q.0, q.1, refl, q.3)

      none : (w : Request) → accepted (served z s e w).0 ≡ false → Served s e w (served z s e w)
          → (((served z s e w).1.cards ≡ s.cards)
          × ((◌≡◌ {A = Option Request} None None) ⊎ ((None ≡ Some w) × Shows w)))
          ⊎ ((g : Stage) × ((served z s e w).1.cards ≡ moved s e g) × (None ≡ Some w) × Taken w (stage_of s e) g)
      none w a (inl q) = inl (q.0, inl refl)
      none w a (inr q) = clash (accepted (served z s e w).0) q.2 a

  -- every call keeps the law
  pub lawful_after : (k : Call) → Lawful (after z b k)
  lawful_after (call.Request e t k x y) =
      let w = taken_request z b.board e t k x y in
      law_kept b (after z b (call.Request e t k x y)) (noted_entry e w []) [] (noted_add e w []) [] L
      (entry_is e w b.entries) (sym (append-nil b.joinings)) (add_is e w b.asked)
      (sym (append-nil b.finished))
      (request_law e t k x y)
  lawful_after (call.Step e) =
      let d = step_deed z s e in
      law_kept b (after z b (call.Step e)) [] (joined e d []) [] (summed e d []) L
      (sym (append-nil b.entries)) (joined_is e d b.joinings) (sym (append-nil b.asked))
      (summed_is e d b.finished)
      (stepped_law e (called z b.board (call.Step e)).1.lock d (step_cases z b.board e))
  lawful_after (call.Abort e) =
      law_kept b (after z b (call.Abort e)) [] [] [] [] L
      (sym (append-nil b.entries)) (sym (append-nil b.joinings)) (sym (append-nil b.asked))
      (sym (append-nil b.finished))
      (aborted_law e (called z b.board (call.Abort e)).1.lock (abort_cases z b.board e))
  lawful_after (call.Reuse e n v) =
      law_kept b (after z b (call.Reuse e n v)) [] [] [] [] L
      (sym (append-nil b.entries)) (sym (append-nil b.joinings)) (sym (append-nil b.asked))
      (sym (append-nil b.finished))
      (aborted_law e (called z b.board (call.Reuse e n v)).1.lock (inl (reuse_cards z b.board e n v)))
