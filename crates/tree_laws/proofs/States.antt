-- The states of a root, as the cells hold them: one node is beneath, or one of three marks.
use Prim.Native.Nat.{ℕ, ◌+◌}

-- a smaller cell is a parent, and no state
abbrev pub first_node : ℕ
first_node = 2048

-- the node i alone is beneath
abbrev pub node_state : ℕ → ℕ
node_state i = 2048 + i

-- the root of a new node, in the list of its height
abbrev pub listed_state : ℕ
listed_state = 65533

-- several nodes are beneath
abbrev pub several_state : ℕ
several_state = 65534

-- no lower place is beneath
abbrev pub nothing_state : ℕ
nothing_state = 65535
