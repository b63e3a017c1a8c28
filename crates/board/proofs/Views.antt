-- A card as the line sees it: what its stage means for its place.
use Rattle.std.proofs.Common.{◌≡◌, ℕ, suc, Bool, true, false, eqb, arith}
use Rattle.stages.specs.declared.stage.Mode.TheVariants.{Read, Write}
use Rattle.stages.specs.declared.stage.WriterEntry.TheVariants.{W1, W2, W3, W4, W5, W6}
use Rattle.stages.specs.declared.stage.ReaderEntry.TheVariants.{R1, R2, R3, R4, R5, R6, R7, R8, R9, R10, R11, R12}
use Rattle.stages.specs.declared.stage.ReaderEntry.TheVariants.{R13, R14}
use Rattle.stages.specs.declared.stage.Addition.TheVariants.{A1, A2}
use Rattle.stages.specs.declared.stage.WriterExit.TheVariants.{X1, X2, X3, X4, X5}
use Rattle.stages.specs.declared.stage.ReaderExit.TheVariants.{Y1, Y2, Y3, Y4, Y5, Y6, Y7, Y8}
use Rattle.stages.specs.declared.stage.Stage.{Stage}
use Rattle.stages.specs.declared.stage.Stage.TheVariants.{Idle, WriterEnters, ReaderEnters, Inside, Adds}
use Rattle.stages.specs.declared.stage.Stage.TheVariants.{WriterLeaves, ReaderLeaves}
use Rattle.board.proofs.Cells.{next, prev, state, spin}

-- away: idle; comes: not in line yet; waits: in line, its spin not yet seen at 0; holds: a writer let in; turn: a
-- reader let in that is not active yet; sees and wakes: an active reader that looks at, or wakes, the node behind it;
-- active: an active reader; hands: out of line, and about to wake the node q
pub data View : Type 0 where
  away : View
  comes_w comes_r waits_w waits_r holds_w turn_r active_r : ℕ → View
  sees_r wakes_r hands : ℕ → ℕ → View

-- the view of each stage
abbrev pub view : Stage → View
view Idle = away
view (WriterEnters n W1) = comes_w n
view (WriterEnters n W2) = comes_w n
view (WriterEnters n (W3 p)) = comes_w n
view (WriterEnters n (W4 p)) = comes_w n
view (WriterEnters n (W5 p)) = comes_w n
view (WriterEnters n W6) = waits_w n
view (ReaderEnters n R1) = comes_r n
view (ReaderEnters n R2) = comes_r n
view (ReaderEnters n (R3 p)) = comes_r n
view (ReaderEnters n (R4 p)) = comes_r n
view (ReaderEnters n (R5 p)) = comes_r n
view (ReaderEnters n (R6 p)) = comes_r n
view (ReaderEnters n (R7 p s)) = comes_r n
view (ReaderEnters n R8) = waits_r n
view (ReaderEnters n R9) = turn_r n
view (ReaderEnters n R10) = turn_r n
view (ReaderEnters n R11) = turn_r n
view (ReaderEnters n (R12 q)) = turn_r n
view (ReaderEnters n (R13 q)) = sees_r n q
view (ReaderEnters n (R14 q)) = wakes_r n q
view (Inside n Write) = holds_w n
view (Inside n Read) = active_r n
view (WriterLeaves n X1) = holds_w n
view (WriterLeaves n X2) = holds_w n
view (WriterLeaves n (X3 q)) = holds_w n
view (WriterLeaves n (X4 q)) = holds_w n
view (WriterLeaves n (X5 q)) = hands n q
view (ReaderLeaves n Y1) = active_r n
view (ReaderLeaves n Y2) = active_r n
view (ReaderLeaves n (Y3 p)) = active_r n
view (ReaderLeaves n (Y4 p q)) = active_r n
view (ReaderLeaves n (Y5 p q)) = active_r n
view (ReaderLeaves n (Y6 p q)) = active_r n
view (ReaderLeaves n (Y7 p q s)) = active_r n
view (ReaderLeaves n (Y8 q)) = hands n q
view (Adds n (A1 k x)) = holds_w n
view (Adds n (A2 k x v)) = holds_w n

-- its node
abbrev pub node : View → ℕ
node away = 0
node (comes_w n) = n
node (comes_r n) = n
node (waits_w n) = n
node (waits_r n) = n
node (holds_w n) = n
node (turn_r n) = n
node (sees_r n q) = n
node (wakes_r n q) = n
node (active_r n) = n
node (hands n q) = n

-- the link of its node, 0 for none
abbrev pub link : View → ℕ
link away = 0
link (comes_w n) = suc n
link (comes_r n) = suc n
link (waits_w n) = suc n
link (waits_r n) = suc n
link (holds_w n) = suc n
link (turn_r n) = suc n
link (sees_r n q) = suc n
link (wakes_r n q) = suc n
link (active_r n) = suc n
link (hands n q) = suc n

-- is in line
abbrev pub joined : View → Bool
joined away = false
joined (comes_w n) = false
joined (comes_r n) = false
joined (waits_w n) = true
joined (waits_r n) = true
joined (holds_w n) = true
joined (turn_r n) = true
joined (sees_r n q) = true
joined (wakes_r n q) = true
joined (active_r n) = true
joined (hands n q) = false

-- whether it is a reader
abbrev pub reader : View → Bool
reader away = false
reader (comes_w n) = false
reader (comes_r n) = true
reader (waits_w n) = false
reader (waits_r n) = true
reader (holds_w n) = false
reader (turn_r n) = true
reader (sees_r n q) = true
reader (wakes_r n q) = true
reader (active_r n) = true
reader (hands n q) = false

-- its state stands at 3
abbrev pub active : View → Bool
active away = false
active (comes_w n) = false
active (comes_r n) = false
active (waits_w n) = false
active (waits_r n) = false
active (holds_w n) = false
active (turn_r n) = false
active (sees_r n q) = true
active (wakes_r n q) = true
active (active_r n) = true
active (hands n q) = false

-- whom it will look at or wake, from its place in line
abbrev pub target : View → ℕ
target away = 0
target (comes_w n) = 0
target (comes_r n) = 0
target (waits_w n) = 0
target (waits_r n) = 0
target (holds_w n) = 0
target (turn_r n) = 0
target (sees_r n q) = q
target (wakes_r n q) = q
target (active_r n) = 0
target (hands n q) = 0

-- whether it is about to wake the node behind
abbrev pub waking : View → Bool
waking away = false
waking (comes_w n) = false
waking (comes_r n) = false
waking (waits_w n) = false
waking (waits_r n) = false
waking (holds_w n) = false
waking (turn_r n) = false
waking (sees_r n q) = false
waking (wakes_r n q) = true
waking (active_r n) = false
waking (hands n q) = false

-- whom it will wake, having left the line
abbrev pub hand : View → ℕ
hand away = 0
hand (comes_w n) = 0
hand (comes_r n) = 0
hand (waits_w n) = 0
hand (waits_r n) = 0
hand (holds_w n) = 0
hand (turn_r n) = 0
hand (sees_r n q) = 0
hand (wakes_r n q) = 0
hand (active_r n) = 0
hand (hands n q) = q

-- may be in: its spin stands at 0, or it has seen that
abbrev pub granted : (ℕ → ℕ) → View → Bool
granted f away = false
granted f (comes_w n) = false
granted f (comes_r n) = false
granted f (waits_w n) = eqb (f (spin n)) 0
granted f (waits_r n) = eqb (f (spin n)) 0
granted f (holds_w n) = true
granted f (turn_r n) = true
granted f (sees_r n q) = true
granted f (wakes_r n q) = true
granted f (active_r n) = true
granted f (hands n q) = false

-- what stands in its node's cells
abbrev pub Cells : (ℕ → ℕ) → View → Type 0
Cells f away = Unit {0}
Cells f (comes_w n) = (f (state n) ≡ 2) × (f (spin n) ≡ 1) × (f (next n) ≡ 0)
Cells f (comes_r n) = (f (state n) ≡ 1) × (f (spin n) ≡ 1) × (f (next n) ≡ 0) × (f (prev n) ≡ 0)
Cells f (waits_w n) = f (state n) ≡ 2
Cells f (waits_r n) = f (state n) ≡ 1
Cells f (holds_w n) = f (state n) ≡ 2
Cells f (turn_r n) = f (state n) ≡ 1
Cells f (sees_r n q) = f (state n) ≡ 3
Cells f (wakes_r n q) = f (state n) ≡ 3
Cells f (active_r n) = f (state n) ≡ 3
Cells f (hands n q) = Unit {0}

-- the node that a link names
pub link_node : (v : View) (m : ℕ) → link v ≡ suc m → node v ≡ m
link_node away m e = absurd (omega arith)
link_node (comes_w n) m e = omega arith
link_node (comes_r n) m e = omega arith
link_node (waits_w n) m e = omega arith
link_node (waits_r n) m e = omega arith
link_node (holds_w n) m e = omega arith
link_node (turn_r n) m e = omega arith
link_node (active_r n) m e = omega arith
link_node (sees_r n q) m e = omega arith
link_node (wakes_r n q) m e = omega arith
link_node (hands n q) m e = omega arith
