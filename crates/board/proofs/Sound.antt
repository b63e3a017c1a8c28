-- Every number that a stage keeps names something that there is, doomed or not: no memory call is ever out of range.
use Rattle.std.proofs.Common.{◌≡◌, ℕ, zero, suc, ◌<◌, ◌≤◌}
use Rattle.stages.specs.declared.stage.Mode.TheVariants.{Read, Write}
use Rattle.stages.specs.declared.stage.WriterEntry.TheVariants.{W1, W2, W3, W4, W5, W6}
use Rattle.stages.specs.declared.stage.ReaderEntry.TheVariants.{R1, R2, R3, R4, R5, R6, R7, R8, R9, R10, R11, R12}
use Rattle.stages.specs.declared.stage.ReaderEntry.TheVariants.{R13, R14}
use Rattle.stages.specs.declared.stage.Addition.TheVariants.{A1, A2}
use Rattle.stages.specs.declared.stage.WriterExit.TheVariants.{X1, X2, X3, X4, X5}
use Rattle.stages.specs.declared.stage.ReaderExit.TheVariants.{Y1, Y2, Y3, Y4, Y5, Y6, Y7, Y8}
use Rattle.stages.specs.declared.stage.Stage.{Stage}
use Rattle.stages.specs.declared.stage.Stage.TheVariants.{Idle, WriterEnters, ReaderEnters, Inside, Adds}
use Rattle.stages.specs.declared.stage.Stage.TheVariants.{WriterLeaves, ReaderLeaves}

-- the link of one of N nodes
abbrev pub Named : ℕ → ℕ → Type 0
Named N zero = ⊥
Named N (suc n) = n < N

-- a stage on a board of N nodes and K counters
abbrev pub Sound : ℕ → ℕ → Stage → Type 0
Sound N K Idle = Unit {0}
Sound N K (WriterEnters n W1) = n < N
Sound N K (WriterEnters n W2) = n < N
Sound N K (WriterEnters n (W3 p)) = (n < N) × (p ≤ N)
Sound N K (WriterEnters n (W4 p)) = (n < N) × Named N p
Sound N K (WriterEnters n (W5 p)) = (n < N) × (p ≤ N)
Sound N K (WriterEnters n W6) = n < N
Sound N K (ReaderEnters n R1) = n < N
Sound N K (ReaderEnters n R2) = n < N
Sound N K (ReaderEnters n (R3 p)) = (n < N) × (p ≤ N)
Sound N K (ReaderEnters n (R4 p)) = (n < N) × Named N p
Sound N K (ReaderEnters n (R5 p)) = (n < N) × Named N p
Sound N K (ReaderEnters n (R6 p)) = (n < N) × Named N p
Sound N K (ReaderEnters n (R7 p s)) = (n < N) × (p ≤ N)
Sound N K (ReaderEnters n R8) = n < N
Sound N K (ReaderEnters n R9) = n < N
Sound N K (ReaderEnters n R10) = n < N
Sound N K (ReaderEnters n R11) = n < N
Sound N K (ReaderEnters n (R12 q)) = (n < N) × (q ≤ N)
Sound N K (ReaderEnters n (R13 q)) = (n < N) × Named N q
Sound N K (ReaderEnters n (R14 q)) = (n < N) × Named N q
Sound N K (Inside n Write) = n < N
Sound N K (Inside n Read) = n < N
Sound N K (WriterLeaves n X1) = n < N
Sound N K (WriterLeaves n X2) = n < N
Sound N K (WriterLeaves n (X3 q)) = (n < N) × (q ≤ N)
Sound N K (WriterLeaves n (X4 q)) = (n < N) × (q ≤ N)
Sound N K (WriterLeaves n (X5 q)) = (n < N) × Named N q
Sound N K (ReaderLeaves n Y1) = n < N
Sound N K (ReaderLeaves n Y2) = n < N
Sound N K (ReaderLeaves n (Y3 p)) = (n < N) × (p ≤ N)
Sound N K (ReaderLeaves n (Y4 p q)) = (n < N) × Named N p × (q ≤ N)
Sound N K (ReaderLeaves n (Y5 p q)) = (n < N) × (p ≤ N) × (q ≤ N)
Sound N K (ReaderLeaves n (Y6 p q)) = (n < N) × (p ≡ 0) × Named N q
Sound N K (ReaderLeaves n (Y7 p q s)) = (n < N) × (p ≤ N) × (q ≤ N)
Sound N K (ReaderLeaves n (Y8 q)) = (n < N) × Named N q
Sound N K (Adds n (A1 k x)) = (n < N) × (k < K)
Sound N K (Adds n (A2 k x v)) = (n < N) × (k < K)
