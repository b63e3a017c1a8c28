-- What a stage's link is, and how the line sees the stages that a card goes to.
use Rattle.std.proofs.Common.{◌≡◌, ℕ, zero, suc, ◌≤◌, Bool, true, false, cond, eqb, refl, arith}
use mathlib.Core.Path.{fun_ext}
use Rattle.stages.specs.declared.stage.Mode.TheVariants as mode
use Rattle.stages.specs.declared.stage.WriterEntry.TheVariants.{W1, W2, W3, W4, W5, W6}
use Rattle.stages.specs.declared.stage.ReaderEntry.TheVariants.{R1, R2, R3, R4, R5, R6, R7}
use Rattle.stages.specs.declared.stage.ReaderEntry.TheVariants.{R8, R9, R10, R11, R12, R13, R14}
use Rattle.stages.specs.declared.stage.Addition.TheVariants.{A1, A2}
use Rattle.stages.specs.declared.stage.WriterExit.TheVariants.{X1, X2, X3, X4, X5}
use Rattle.stages.specs.declared.stage.ReaderExit.TheVariants.{Y1, Y2, Y3, Y4, Y5, Y6, Y7, Y8}
use Rattle.stages.specs.declared.stage.Stage.{Stage}
use Rattle.stages.specs.declared.stage.Stage.TheVariants.{Idle, WriterEnters, ReaderEnters, Inside}
use Rattle.stages.specs.declared.stage.Stage.TheVariants.{Adds, WriterLeaves, ReaderLeaves}
use Rattle.stages.specs.declared.answer.Answer.TheVariants.{Step, In}
use Rattle.stages.specs.Rows.{begin_of}
use Rattle.lock.specs.Lock.{goes, has_node}
use Rattle.board.specs.Book.{Deed, plain, joins, parts, finishes, deed}
use Rattle.std.proofs.lemmas.Bool.{eq-eqb}
use Rattle.board.proofs.Cells.{at, clash}
use Rattle.board.proofs.Views.{View, view, link, joined, reader}
use Rattle.board.proofs.Sound.{Sound}
use Rattle.board.proofs.Inv.{reads_mode}

-- the cards as the line sees them
abbrev pub views : (ℕ → Stage) → ℕ → View
views S d = view (S d)

-- both ways of a test
view_cond : (b : Bool) (x y : Stage) → view (cond b x y) ≡ cond b (view x) (view y)
view_cond true x y = refl
view_cond false x y = refl

-- one card at another stage is one card seen another way
pub view_at : (S : ℕ → Stage) (c : ℕ) (s : Stage) → ◌≡◌ {A = ℕ → View} (views (at S c s)) (at (views S) c (view s))
view_at S c s = fun_ext (λ d. view_cond (eqb d c) s (S d))

-- the line does not see a return to the begin of a transaction
pub view_begin : (s : Stage) → view (begin_of s) ≡ view s
view_begin Idle = refl
view_begin (WriterEnters n W1) = refl
view_begin (WriterEnters n W2) = refl
view_begin (WriterEnters n (W3 p)) = refl
view_begin (WriterEnters n (W4 p)) = refl
view_begin (WriterEnters n (W5 p)) = refl
view_begin (WriterEnters n W6) = refl
view_begin (ReaderEnters n R1) = refl
view_begin (ReaderEnters n R2) = refl
view_begin (ReaderEnters n (R3 p)) = refl
view_begin (ReaderEnters n (R4 p)) = refl
view_begin (ReaderEnters n (R5 p)) = refl
view_begin (ReaderEnters n (R6 p)) = refl
view_begin (ReaderEnters n (R7 p s)) = refl
view_begin (ReaderEnters n R8) = refl
view_begin (ReaderEnters n R9) = refl
view_begin (ReaderEnters n R10) = refl
view_begin (ReaderEnters n R11) = refl
view_begin (ReaderEnters n (R12 q)) = refl
view_begin (ReaderEnters n (R13 q)) = refl
view_begin (ReaderEnters n (R14 q)) = refl
view_begin (Inside n mode.Write) = refl
view_begin (Inside n mode.Read) = refl
view_begin (Adds n (A1 k x)) = refl
view_begin (Adds n (A2 k x v)) = refl
view_begin (WriterLeaves n X1) = refl
view_begin (WriterLeaves n X2) = refl
view_begin (WriterLeaves n (X3 q)) = refl
view_begin (WriterLeaves n (X4 q)) = refl
view_begin (WriterLeaves n (X5 q)) = refl
view_begin (ReaderLeaves n Y1) = refl
view_begin (ReaderLeaves n Y2) = refl
view_begin (ReaderLeaves n (Y3 p)) = refl
view_begin (ReaderLeaves n (Y4 p q)) = refl
view_begin (ReaderLeaves n (Y5 p q)) = refl
view_begin (ReaderLeaves n (Y6 p q)) = refl
view_begin (ReaderLeaves n (Y7 p q s)) = refl
view_begin (ReaderLeaves n (Y8 q)) = refl

-- a card's node is one of N
pub sound_link : (N K : ℕ) (s : Stage) → Sound N K s → link (view s) ≤ N
sound_link N K Idle h = omega arith
sound_link N K (WriterEnters n W1) h = omega arith
sound_link N K (WriterEnters n W2) h = omega arith
sound_link N K (WriterEnters n (W3 p)) h = let b = h.0 in omega arith
sound_link N K (WriterEnters n (W4 p)) h = let b = h.0 in omega arith
sound_link N K (WriterEnters n (W5 p)) h = let b = h.0 in omega arith
sound_link N K (WriterEnters n W6) h = omega arith
sound_link N K (ReaderEnters n R1) h = omega arith
sound_link N K (ReaderEnters n R2) h = omega arith
sound_link N K (ReaderEnters n (R3 p)) h = let b = h.0 in omega arith
sound_link N K (ReaderEnters n (R4 p)) h = let b = h.0 in omega arith
sound_link N K (ReaderEnters n (R5 p)) h = let b = h.0 in omega arith
sound_link N K (ReaderEnters n (R6 p)) h = let b = h.0 in omega arith
sound_link N K (ReaderEnters n (R7 p s)) h = let b = h.0 in omega arith
sound_link N K (ReaderEnters n R8) h = omega arith
sound_link N K (ReaderEnters n R9) h = omega arith
sound_link N K (ReaderEnters n R10) h = omega arith
sound_link N K (ReaderEnters n R11) h = omega arith
sound_link N K (ReaderEnters n (R12 q)) h = let b = h.0 in omega arith
sound_link N K (ReaderEnters n (R13 q)) h = let b = h.0 in omega arith
sound_link N K (ReaderEnters n (R14 q)) h = let b = h.0 in omega arith
sound_link N K (Inside n mode.Write) h = omega arith
sound_link N K (Inside n mode.Read) h = omega arith
sound_link N K (Adds n (A1 k x)) h = let b = h.0 in omega arith
sound_link N K (Adds n (A2 k x v)) h = let b = h.0 in omega arith
sound_link N K (WriterLeaves n X1) h = omega arith
sound_link N K (WriterLeaves n X2) h = omega arith
sound_link N K (WriterLeaves n (X3 q)) h = let b = h.0 in omega arith
sound_link N K (WriterLeaves n (X4 q)) h = let b = h.0 in omega arith
sound_link N K (WriterLeaves n (X5 q)) h = let b = h.0 in omega arith
sound_link N K (ReaderLeaves n Y1) h = omega arith
sound_link N K (ReaderLeaves n Y2) h = omega arith
sound_link N K (ReaderLeaves n (Y3 p)) h = let b = h.0 in omega arith
sound_link N K (ReaderLeaves n (Y4 p q)) h = let b = h.0 in omega arith
sound_link N K (ReaderLeaves n (Y5 p q)) h = let b = h.0 in omega arith
sound_link N K (ReaderLeaves n (Y6 p q)) h = let b = h.0 in omega arith
sound_link N K (ReaderLeaves n (Y7 p q s)) h = let b = h.0 in omega arith
sound_link N K (ReaderLeaves n (Y8 q)) h = let b = h.0 in omega arith

-- a card has the node whose link it has
pub has_link : (s : Stage) (n : ℕ) → link (view s) ≡ suc n → has_node s n ≡ true
has_link Idle n e = absurd (omega arith)
has_link (WriterEnters m W1) n e = eq-eqb m n (omega arith)
has_link (WriterEnters m W2) n e = eq-eqb m n (omega arith)
has_link (WriterEnters m (W3 p)) n e = eq-eqb m n (omega arith)
has_link (WriterEnters m (W4 p)) n e = eq-eqb m n (omega arith)
has_link (WriterEnters m (W5 p)) n e = eq-eqb m n (omega arith)
has_link (WriterEnters m W6) n e = eq-eqb m n (omega arith)
has_link (ReaderEnters m R1) n e = eq-eqb m n (omega arith)
has_link (ReaderEnters m R2) n e = eq-eqb m n (omega arith)
has_link (ReaderEnters m (R3 p)) n e = eq-eqb m n (omega arith)
has_link (ReaderEnters m (R4 p)) n e = eq-eqb m n (omega arith)
has_link (ReaderEnters m (R5 p)) n e = eq-eqb m n (omega arith)
has_link (ReaderEnters m (R6 p)) n e = eq-eqb m n (omega arith)
has_link (ReaderEnters m (R7 p s)) n e = eq-eqb m n (omega arith)
has_link (ReaderEnters m R8) n e = eq-eqb m n (omega arith)
has_link (ReaderEnters m R9) n e = eq-eqb m n (omega arith)
has_link (ReaderEnters m R10) n e = eq-eqb m n (omega arith)
has_link (ReaderEnters m R11) n e = eq-eqb m n (omega arith)
has_link (ReaderEnters m (R12 q)) n e = eq-eqb m n (omega arith)
has_link (ReaderEnters m (R13 q)) n e = eq-eqb m n (omega arith)
has_link (ReaderEnters m (R14 q)) n e = eq-eqb m n (omega arith)
has_link (Inside m mode.Write) n e = eq-eqb m n (omega arith)
has_link (Inside m mode.Read) n e = eq-eqb m n (omega arith)
has_link (Adds m (A1 k x)) n e = eq-eqb m n (omega arith)
has_link (Adds m (A2 k x v)) n e = eq-eqb m n (omega arith)
has_link (WriterLeaves m X1) n e = eq-eqb m n (omega arith)
has_link (WriterLeaves m X2) n e = eq-eqb m n (omega arith)
has_link (WriterLeaves m (X3 q)) n e = eq-eqb m n (omega arith)
has_link (WriterLeaves m (X4 q)) n e = eq-eqb m n (omega arith)
has_link (WriterLeaves m (X5 q)) n e = eq-eqb m n (omega arith)
has_link (ReaderLeaves m Y1) n e = eq-eqb m n (omega arith)
has_link (ReaderLeaves m Y2) n e = eq-eqb m n (omega arith)
has_link (ReaderLeaves m (Y3 p)) n e = eq-eqb m n (omega arith)
has_link (ReaderLeaves m (Y4 p q)) n e = eq-eqb m n (omega arith)
has_link (ReaderLeaves m (Y5 p q)) n e = eq-eqb m n (omega arith)
has_link (ReaderLeaves m (Y6 p q)) n e = eq-eqb m n (omega arith)
has_link (ReaderLeaves m (Y7 p q s)) n e = eq-eqb m n (omega arith)
has_link (ReaderLeaves m (Y8 q)) n e = eq-eqb m n (omega arith)

-- the same node and the same mode
abbrev pub SameSeat : Stage → Stage → Type 0
SameSeat s r = (link (view r) ≡ link (view s)) × (reader (view r) ≡ reader (view s))

-- the node and the mode of a card that goes from stage s to r by a deed: one in line keeps both, one that joins has
-- those of its place
abbrev pub SeatAfter : Deed → Stage → Stage → Type 0
SeatAfter plain s r = joined (view s) ≡ true → SameSeat s r
SeatAfter (joins n m) s r =
    (joined (view s) ≡ false) × (link (view r) ≡ suc n) × (reader (view r) ≡ reads_mode m)
SeatAfter parts s r = Unit {0}
SeatAfter (finishes k a) s r = SameSeat s r

-- a look at the successor keeps the seat
seat_look : {A : Type 0} (b : Bool) (s : Stage) (x y : Stage × A)
    → SameSeat s x.0 → SameSeat s y.0 → SameSeat s (cond b x y).0
seat_look true s x y p q = p
seat_look false s x y p q = q

-- a joining takes a seat
seat_join : (b : Bool) (n : ℕ) → let r = view (ReaderEnters n (cond b R9 R8)) in (link r ≡ suc n) × (reader r ≡ true)
seat_join true n = (refl, refl)
seat_join false n = (refl, refl)

-- a row that was accepted
pub seat_goes : (s : Stage) (v : ℕ) → SeatAfter (deed s) s (goes s v).0
seat_goes Idle v = λ j. clash false j refl
seat_goes (WriterEnters n W1) v = λ j. clash false j refl
seat_goes (WriterEnters n W2) v = λ j. clash false j refl
seat_goes (WriterEnters n (W3 p)) v = λ j. clash false j refl
seat_goes (WriterEnters n (W4 p)) v = λ j. clash false j refl
seat_goes (WriterEnters n (W5 zero)) v = (refl, refl, refl)
seat_goes (WriterEnters n (W5 (suc p))) v = (refl, refl, refl)
seat_goes (WriterEnters n W6) zero = λ _. (refl, refl)
seat_goes (WriterEnters n W6) (suc v) = λ _. (refl, refl)
seat_goes (ReaderEnters n R1) v = λ j. clash false j refl
seat_goes (ReaderEnters n R2) v = λ j. clash false j refl
seat_goes (ReaderEnters n (R3 p)) v = λ j. clash false j refl
seat_goes (ReaderEnters n (R4 p)) v = λ j. clash false j refl
seat_goes (ReaderEnters n (R5 p)) v = λ j. clash false j refl
seat_goes (ReaderEnters n (R6 p)) v = λ j. clash false j refl
seat_goes (ReaderEnters n (R7 zero s)) v = (refl, refl, refl)
seat_goes (ReaderEnters n (R7 (suc p) s)) v = let h = seat_join (eqb s 3) n in (refl, h.0, h.1)
seat_goes (ReaderEnters n R8) zero = λ _. (refl, refl)
seat_goes (ReaderEnters n R8) (suc v) = λ _. (refl, refl)
seat_goes (ReaderEnters n R9) v = λ _. (refl, refl)
seat_goes (ReaderEnters n R10) v = λ _. (refl, refl)
seat_goes (ReaderEnters n R11) v = λ _. (refl, refl)
seat_goes (ReaderEnters n (R12 zero)) v = λ _. (refl, refl)
seat_goes (ReaderEnters n (R12 (suc q))) v = λ _. (refl, refl)
seat_goes (ReaderEnters n (R13 q)) v = λ _.
    seat_look (eqb v 1) (ReaderEnters n (R13 q)) (ReaderEnters n (R14 q), Step) (Inside n mode.Read, In)
    (refl, refl) (refl, refl)
seat_goes (ReaderEnters n (R14 q)) v = λ _. (refl, refl)
seat_goes (Inside n mode.Write) v = λ _. (refl, refl)
seat_goes (Inside n mode.Read) v = λ _. (refl, refl)
seat_goes (Adds n (A1 k x)) v = λ _. (refl, refl)
seat_goes (Adds n (A2 k x y)) v = (refl, refl)
seat_goes (WriterLeaves n X1) v = λ _. (refl, refl)
seat_goes (WriterLeaves n X2) v = λ _. (refl, refl)
seat_goes (WriterLeaves n (X3 q)) v = λ _. (refl, refl)
seat_goes (WriterLeaves n (X4 q)) v = tt
seat_goes (WriterLeaves n (X5 q)) v = λ j. clash false j refl
seat_goes (ReaderLeaves n Y1) v = λ _. (refl, refl)
seat_goes (ReaderLeaves n Y2) v = λ _. (refl, refl)
seat_goes (ReaderLeaves n (Y3 zero)) v = λ _. (refl, refl)
seat_goes (ReaderLeaves n (Y3 (suc p))) v = λ _. (refl, refl)
seat_goes (ReaderLeaves n (Y4 p q)) v = λ _. (refl, refl)
seat_goes (ReaderLeaves n (Y5 p zero)) v = λ _. (refl, refl)
seat_goes (ReaderLeaves n (Y5 zero (suc q))) v = λ _. (refl, refl)
seat_goes (ReaderLeaves n (Y5 (suc p) (suc q))) v = λ _. (refl, refl)
seat_goes (ReaderLeaves n (Y6 p q)) v = λ _. (refl, refl)
seat_goes (ReaderLeaves n (Y7 p q s)) v = tt
seat_goes (ReaderLeaves n (Y8 q)) v = λ j. clash false j refl
