-- Members whose logs begin behind one number.
use Rattle.std.specs.Prelude.{◌≡◌, ℕ, ◌≤◌, Bool, true, is_some}
use Rattle.bfs_nodes_agree.specs.Nodes.Replicas.{NodeReplicas}
use Rattle.bfs_nodes_progress.specs.Members.{AreTogether}
use Rattle.bfs_nodes_progress.specs.Runs.{order_of}

-- they are together in the view, have that number stable and have executed it, and their view has no batch up to it
pub record AreEven (f : ℕ) (faulty members : ℕ → Bool) (w : NodeReplicas) (view number : ℕ) : Type 0 where
  pub together : AreTogether f faulty members w view
  pub low : (k : ℕ) → members k ≡ true → (order_of w k).low ≡ number
  pub min_s : (k : ℕ) → members k ≡ true → (order_of w k).min_s ≤ number
  pub last : (k : ℕ) → members k ≡ true → number ≤ (order_of w k).last
  pub live : (k : ℕ) → members k ≡ true → is_some (w k).node.files ≡ true
