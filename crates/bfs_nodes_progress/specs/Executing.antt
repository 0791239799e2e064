-- What is committed is executed.
use Rattle.std.specs.Prelude.{◌≡◌, ℕ, zero, suc, ◌+◌, ◌<◌, ◌≤◌, true, List}
use Rattle.bfs_node.specs.Nodes.{Node}
use Rattle.bfs_nodes_agree.specs.Nodes.Steps.{Executes, outcome}
use Rattle.bfs_nodes_progress.specs.Members.{is_committed}

-- after so many calls that execute
abbrev pub executing : (count : ℕ) → Node → Node
executing zero node = node
executing (suc count) node = (outcome (executing count node) Executes).now

-- each number behind the one last executed, so many, is committed in the view entered
abbrev pub AreCommitted : Node → (count : ℕ) → Type 0
AreCommitted node count = (number : ℕ) → node.order.last < number → number ≤ node.order.last + count
    → (digest : List ℕ) × (is_committed node.order node.order.view number digest ≡ true)
