-- The table of steps: the memory call of each row, and where the card goes by the memory's answer.
use Rattle.std.specs.Prelude.{ℕ, zero, suc, ◌+◌, min, Bool, true, false, cond, Some, None, Option, ◌==◌}
use Rattle.memory.specs.declared.call.MemoryCall.{MemoryCall}
use Rattle.memory.specs.declared.call.MemoryCall.TheVariants.{Clear, Look, Load, Store}
use Rattle.memory.specs.declared.call.MemoryCall.TheVariants.{Begin, Read, Write, Commit, Drop}
use Rattle.stages.specs.declared.answer.Answer.{Answer}
use Rattle.stages.specs.declared.answer.Answer.TheVariants.{Step, Wait, In, Out, Added}
use Rattle.stages.specs.declared.layout.Field.TheVariants.{Next, Prev, State, Spin}
use Rattle.stages.specs.declared.stage.Mode.TheVariants as mode
use Rattle.stages.specs.declared.stage.WriterEntry.{WriterEntry}
use Rattle.stages.specs.declared.stage.WriterEntry.TheVariants.{W1, W2, W3, W4, W5, W6}
use Rattle.stages.specs.declared.stage.ReaderEntry.{ReaderEntry}
use Rattle.stages.specs.declared.stage.ReaderEntry.TheVariants.{R1, R2, R3, R4, R5, R6, R7}
use Rattle.stages.specs.declared.stage.ReaderEntry.TheVariants.{R8, R9, R10, R11, R12, R13, R14}
use Rattle.stages.specs.declared.stage.Addition.{Addition}
use Rattle.stages.specs.declared.stage.Addition.TheVariants.{A1, A2}
use Rattle.stages.specs.declared.stage.WriterExit.{WriterExit}
use Rattle.stages.specs.declared.stage.WriterExit.TheVariants.{X1, X2, X3, X4, X5}
use Rattle.stages.specs.declared.stage.ReaderExit.{ReaderExit}
use Rattle.stages.specs.declared.stage.ReaderExit.TheVariants.{Y1, Y2, Y3, Y4, Y5, Y6, Y7, Y8}
use Rattle.stages.specs.declared.stage.Stage.{Stage}
use Rattle.stages.specs.declared.stage.Stage.TheVariants.{Idle, WriterEnters, ReaderEnters, Inside, Adds}
use Rattle.stages.specs.declared.stage.Stage.TheVariants.{WriterLeaves, ReaderLeaves}
use Rattle.stages.specs.Layout.{tail, link, node_cell, cell_of, counter_cell, reader, writer, active}

-- the smaller of 65,535 and the sum
abbrev pub capped : ℕ → ℕ → ℕ
capped a b = min 65535 (a + b)

-- The memory call of each row, for card c on node n.

abbrev pub writer_entry_call : ℕ → ℕ → WriterEntry → MemoryCall
writer_entry_call c n W1 = Begin c
writer_entry_call c n W2 = Read c tail
writer_entry_call c n (W3 p) = Write c tail (link n)
writer_entry_call c n (W4 p) = Write c (cell_of p Next) (link n)
writer_entry_call c n (W5 p) = Commit c
writer_entry_call c n W6 = Load c (node_cell n Spin)

abbrev pub reader_entry_call : ℕ → ℕ → ReaderEntry → MemoryCall
reader_entry_call c n R1 = Begin c
reader_entry_call c n R2 = Read c tail
reader_entry_call c n (R3 p) = Write c tail (link n)
reader_entry_call c n (R4 p) = Write c (node_cell n Prev) p
reader_entry_call c n (R5 p) = Write c (cell_of p Next) (link n)
reader_entry_call c n (R6 p) = Read c (cell_of p State)
reader_entry_call c n (R7 p s) = Commit c
reader_entry_call c n R8 = Load c (node_cell n Spin)
reader_entry_call c n R9 = Begin c
reader_entry_call c n R10 = Write c (node_cell n State) active
reader_entry_call c n R11 = Read c (node_cell n Next)
reader_entry_call c n (R12 t) = Commit c
reader_entry_call c n (R13 t) = Load c (cell_of t State)
reader_entry_call c n (R14 t) = Store c (cell_of t Spin) 0

abbrev pub addition_call : ℕ → ℕ → Addition → MemoryCall
addition_call N c (A1 k a) = Load c (counter_cell N k)
addition_call N c (A2 k a v) = Store c (counter_cell N k) (capped v a)

-- X3 writes to the tail where there is no successor: the link of nobody names it
abbrev pub writer_exit_call : ℕ → ℕ → WriterExit → MemoryCall
writer_exit_call c n X1 = Begin c
writer_exit_call c n X2 = Read c (node_cell n Next)
writer_exit_call c n (X3 t) = Write c (cell_of t Prev) 0
writer_exit_call c n (X4 t) = Commit c
writer_exit_call c n (X5 t) = Store c (cell_of t Spin) 0

-- and so does Y5
abbrev pub reader_exit_call : ℕ → ℕ → ReaderExit → MemoryCall
reader_exit_call c n Y1 = Begin c
reader_exit_call c n Y2 = Read c (node_cell n Prev)
reader_exit_call c n (Y3 p) = Read c (node_cell n Next)
reader_exit_call c n (Y4 p t) = Write c (cell_of p Next) t
reader_exit_call c n (Y5 p t) = Write c (cell_of t Prev) p
reader_exit_call c n (Y6 p t) = Read c (cell_of t State)
reader_exit_call c n (Y7 p t s) = Commit c
reader_exit_call c n (Y8 t) = Store c (cell_of t Spin) 0

-- the memory call of a card's stage on a board of N nodes; none for a card that is idle or inside
abbrev pub call_of : ℕ → ℕ → Stage → Option MemoryCall
call_of N c Idle = None
call_of N c (WriterEnters n at) = Some (writer_entry_call c n at)
call_of N c (ReaderEnters n at) = Some (reader_entry_call c n at)
call_of N c (Inside n m) = None
call_of N c (Adds n at) = Some (addition_call N c at)
call_of N c (WriterLeaves n at) = Some (writer_exit_call c n at)
call_of N c (ReaderLeaves n at) = Some (reader_exit_call c n at)

-- Where a card on node n goes when the memory answered v, and what the step answers.

abbrev pub writer_entry_goes : ℕ → WriterEntry → ℕ → Stage × Answer
writer_entry_goes n W1 v = (WriterEnters n W2, Step)
writer_entry_goes n W2 v = (WriterEnters n (W3 v), Step)
writer_entry_goes n (W3 zero) v = (WriterEnters n (W5 zero), Step)
writer_entry_goes n (W3 (suc p)) v = (WriterEnters n (W4 (suc p)), Step)
writer_entry_goes n (W4 p) v = (WriterEnters n (W5 p), Step)
writer_entry_goes n (W5 zero) v = (Inside n mode.Write, In)
writer_entry_goes n (W5 (suc p)) v = (WriterEnters n W6, Step)
writer_entry_goes n W6 zero = (Inside n mode.Write, In)
writer_entry_goes n W6 (suc v) = (WriterEnters n W6, Wait)

abbrev pub reader_entry_goes : ℕ → ReaderEntry → ℕ → Stage × Answer
reader_entry_goes n R1 v = (ReaderEnters n R2, Step)
reader_entry_goes n R2 v = (ReaderEnters n (R3 v), Step)
reader_entry_goes n (R3 zero) v = (ReaderEnters n (R7 zero 0), Step)
reader_entry_goes n (R3 (suc p)) v = (ReaderEnters n (R4 (suc p)), Step)
reader_entry_goes n (R4 p) v = (ReaderEnters n (R5 p), Step)
reader_entry_goes n (R5 p) v = (ReaderEnters n (R6 p), Step)
reader_entry_goes n (R6 p) v = (ReaderEnters n (R7 p v), Step)
reader_entry_goes n (R7 zero s) v = (ReaderEnters n R9, Step)
reader_entry_goes n (R7 (suc p) s) v = (ReaderEnters n (cond (s == active) R9 R8), Step)
reader_entry_goes n R8 zero = (ReaderEnters n R9, Step)
reader_entry_goes n R8 (suc v) = (ReaderEnters n R8, Wait)
reader_entry_goes n R9 v = (ReaderEnters n R10, Step)
reader_entry_goes n R10 v = (ReaderEnters n R11, Step)
reader_entry_goes n R11 v = (ReaderEnters n (R12 v), Step)
reader_entry_goes n (R12 zero) v = (Inside n mode.Read, In)
reader_entry_goes n (R12 (suc t)) v = (ReaderEnters n (R13 (suc t)), Step)
reader_entry_goes n (R13 t) v = cond (v == reader) (ReaderEnters n (R14 t), Step) (Inside n mode.Read, In)
reader_entry_goes n (R14 t) v = (Inside n mode.Read, In)

abbrev pub addition_goes : ℕ → Addition → ℕ → Stage × Answer
addition_goes n (A1 k a) v = (Adds n (A2 k a v), Step)
addition_goes n (A2 k a x) v = (Inside n mode.Write, Added (capped x a))

abbrev pub writer_exit_goes : ℕ → WriterExit → ℕ → Stage × Answer
writer_exit_goes n X1 v = (WriterLeaves n X2, Step)
writer_exit_goes n X2 v = (WriterLeaves n (X3 v), Step)
writer_exit_goes n (X3 t) v = (WriterLeaves n (X4 t), Step)
writer_exit_goes n (X4 zero) v = (Idle, Out)
writer_exit_goes n (X4 (suc t)) v = (WriterLeaves n (X5 (suc t)), Step)
writer_exit_goes n (X5 t) v = (Idle, Out)

-- ss is read only where pred is 0 and nxt is not, so only then can the commit lead to the wake
abbrev pub reader_exit_goes : ℕ → ReaderExit → ℕ → Stage × Answer
reader_exit_goes n Y1 v = (ReaderLeaves n Y2, Step)
reader_exit_goes n Y2 v = (ReaderLeaves n (Y3 v), Step)
reader_exit_goes n (Y3 zero) v = (ReaderLeaves n (Y5 zero v), Step)
reader_exit_goes n (Y3 (suc p)) v = (ReaderLeaves n (Y4 (suc p) v), Step)
reader_exit_goes n (Y4 p t) v = (ReaderLeaves n (Y5 p t), Step)
reader_exit_goes n (Y5 p zero) v = (ReaderLeaves n (Y7 p zero 0), Step)
reader_exit_goes n (Y5 zero (suc t)) v = (ReaderLeaves n (Y6 zero (suc t)), Step)
reader_exit_goes n (Y5 (suc p) (suc t)) v = (ReaderLeaves n (Y7 (suc p) (suc t) 0), Step)
reader_exit_goes n (Y6 p t) v = (ReaderLeaves n (Y7 p t v), Step)
reader_exit_goes n (Y7 p zero s) v = (Idle, Out)
reader_exit_goes n (Y7 zero (suc t) s) v = cond (s == writer) (ReaderLeaves n (Y8 (suc t)), Step) (Idle, Out)
reader_exit_goes n (Y7 (suc p) (suc t) s) v = (Idle, Out)
reader_exit_goes n (Y8 t) v = (Idle, Out)

-- the begin of a stage's transaction; a stage without one stays
abbrev pub writer_entry_begin : WriterEntry → WriterEntry
writer_entry_begin W1 = W1
writer_entry_begin W2 = W1
writer_entry_begin (W3 p) = W1
writer_entry_begin (W4 p) = W1
writer_entry_begin (W5 p) = W1
writer_entry_begin W6 = W6

abbrev pub reader_entry_begin : ReaderEntry → ReaderEntry
reader_entry_begin R1 = R1
reader_entry_begin R2 = R1
reader_entry_begin (R3 p) = R1
reader_entry_begin (R4 p) = R1
reader_entry_begin (R5 p) = R1
reader_entry_begin (R6 p) = R1
reader_entry_begin (R7 p s) = R1
reader_entry_begin R8 = R8
reader_entry_begin R9 = R9
reader_entry_begin R10 = R9
reader_entry_begin R11 = R9
reader_entry_begin (R12 t) = R9
reader_entry_begin (R13 t) = R13 t
reader_entry_begin (R14 t) = R14 t

abbrev pub writer_exit_begin : WriterExit → WriterExit
writer_exit_begin X1 = X1
writer_exit_begin X2 = X1
writer_exit_begin (X3 t) = X1
writer_exit_begin (X4 t) = X1
writer_exit_begin (X5 t) = X5 t

abbrev pub reader_exit_begin : ReaderExit → ReaderExit
reader_exit_begin Y1 = Y1
reader_exit_begin Y2 = Y1
reader_exit_begin (Y3 p) = Y1
reader_exit_begin (Y4 p t) = Y1
reader_exit_begin (Y5 p t) = Y1
reader_exit_begin (Y6 p t) = Y1
reader_exit_begin (Y7 p t s) = Y1
reader_exit_begin (Y8 t) = Y8 t

abbrev pub begin_of : Stage → Stage
begin_of Idle = Idle
begin_of (WriterEnters n at) = WriterEnters n (writer_entry_begin at)
begin_of (ReaderEnters n at) = ReaderEnters n (reader_entry_begin at)
begin_of (Inside n m) = Inside n m
begin_of (Adds n at) = Adds n at
begin_of (WriterLeaves n at) = WriterLeaves n (writer_exit_begin at)
begin_of (ReaderLeaves n at) = ReaderLeaves n (reader_exit_begin at)

-- whether a call goes by a transaction
abbrev pub in_transaction : MemoryCall → Bool
in_transaction Clear = false
in_transaction (Look x) = false
in_transaction (Load c x) = false
in_transaction (Store c x v) = false
in_transaction (Begin c) = false
in_transaction (Read c x) = true
in_transaction (Write c x v) = true
in_transaction (Commit c) = true
in_transaction (Drop c) = true

-- the same of a stage's row; where there is no row, there is no transaction
abbrev pub by_transaction : Option MemoryCall → Bool
by_transaction None = false
by_transaction (Some k) = in_transaction k
