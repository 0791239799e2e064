-- Nodes that hear one another, and what they have come to.
use Rattle.std.specs.Prelude.{◌≡◌, ℕ, ◌+◌, ◌<◌, ◌≤◌, ◌==◌, Bool, true, false, List}
use Rattle.bfs_model.specs.Server.Limits.{log_size}
use Rattle.bfs_votes.specs.Tags.{checkpoint_tag, commit_tag, pre_prepare_tag, prepare_tag}
use Rattle.bfs_votes.specs.Votes.{Told, primary, prepared, committed}
use Rattle.bfs_order.specs.Replica.States.{State, known}
use Rattle.bfs_progress.specs.Members.{IsQuorum}
use Rattle.bfs_nodes_agree.specs.Nodes.Replicas.{NodeReplicas}
use Rattle.bfs_nodes_progress.specs.Runs.{order_of}

-- who has a PRE-PREPARE of the view entered has its own PREPARE to it, unless it is the primary, and who is prepared has its own COMMIT
-- (OSDI 1999 section 4.2)
pub record HasAnswered (s : State) : Type 0 where
  pub prepares : (number : ℕ) (digest : List ℕ) → (s.me == primary s.f s.view) ≡ false
      → Told (known s) pre_prepare_tag (primary s.f s.view) s.view number digest → Told (known s) prepare_tag s.me s.view number digest
  pub commits : (number : ℕ) (digest : List ℕ) → prepared s.f s.me (known s) s.view number digest ≡ true → Told (known s) commit_tag s.me s.view number digest

-- 2f + 1 correct nodes or more, the primary among them, have entered the view, and none has asked for another (OSDI 1999 section 4.4)
pub record AreTogether (f : ℕ) (faulty members : ℕ → Bool) (w : NodeReplicas) (view : ℕ) : Type 0 where
  pub quorum : IsQuorum f faulty members view
  pub entered : (k : ℕ) → members k ≡ true → (order_of w k).view ≡ view
  pub asked : (k : ℕ) → members k ≡ true → (order_of w k).asked ≡ view

-- the number lies between the marks of each (OSDI 1999 section 4.2)
pub record HasRoom (members : ℕ → Bool) (w : NodeReplicas) (number : ℕ) : Type 0 where
  pub low : (k : ℕ) → members k ≡ true → (order_of w k).low < number
  pub min_s : (k : ℕ) → members k ≡ true → (order_of w k).min_s < number
  pub high : (k : ℕ) → members k ≡ true → number ≤ (order_of w k).low + log_size

-- the primary's log has its PRE-PREPARE
abbrev pub IsProposed : (f : ℕ) → NodeReplicas → (view number : ℕ) → List ℕ → Type 0
IsProposed f w view number digest = Told (known (order_of w (primary f view))) pre_prepare_tag (primary f view) view number digest

-- what one has said of a number of the view, as its log has it, each of them has heard
abbrev pub AllIsHeard : (members : ℕ → Bool) → NodeReplicas → (view number : ℕ) → Type 0
AllIsHeard members w view number = (i j tag : ℕ) (digest : List ℕ) → tag < checkpoint_tag → members i ≡ true → members j ≡ true
    → Told (known (order_of w i)) tag i view number digest → Told (known (order_of w j)) tag i view number digest

-- by what a node knows, the batch may be executed (OSDI 1999 section 4.2)
abbrev pub is_committed : State → (view number : ℕ) → List ℕ → Bool
is_committed s view number digest = committed s.f s.me (known s) view number digest

-- each may
abbrev pub IsCommitted : (members : ℕ → Bool) → NodeReplicas → (view number : ℕ) → List ℕ → Type 0
IsCommitted members w view number digest = (k : ℕ) → members k ≡ true → is_committed (order_of w k) view number digest ≡ true
