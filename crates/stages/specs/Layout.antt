-- Where the lock's numbers lie in the memory.
use Rattle.std.specs.Prelude.{ℕ, zero, suc, ◌+◌, ◌*◌}
use Rattle.stages.specs.declared.layout.Field.{Field}
use Rattle.stages.specs.declared.layout.Field.TheVariants.{Next, Prev, State, Spin}

-- the tail's cell
abbrev pub tail : ℕ
tail = 0

-- the link of a node; 0 is the link of nobody
abbrev pub link : ℕ → ℕ
link n = suc n

-- the cells of node n
abbrev pub node_cell : ℕ → Field → ℕ
node_cell n Next = 1 + 4 * n
node_cell n Prev = 2 + 4 * n
node_cell n State = 3 + 4 * n
node_cell n Spin = 4 + 4 * n

-- the cells of the node that a link names; for the link of nobody the tail's, whatever the field: who has no
-- successor writes to the tail what it would write to its successor's prev
abbrev pub cell_of : ℕ → Field → ℕ
cell_of zero f = tail
cell_of (suc n) f = node_cell n f

-- counter k's cell on a board of N nodes
abbrev pub counter_cell : ℕ → ℕ → ℕ
counter_cell N k = 1 + 4 * N + k

-- the state of a reader's node
abbrev pub reader : ℕ
reader = 1

-- the state of a writer's node
abbrev pub writer : ℕ
writer = 2

-- the state of the node of an active reader: one that was let in, or is about to be
abbrev pub active : ℕ
active = 3
