-- Nodes follow others to a later view (OSDI 1999 section 4.5.2).
use Rattle.std.specs.Prelude.{◌≡◌, ℕ, suc, zero, ◌+◌, ◌*◌, ◌<◌, ◌≤◌, ◌==◌, Bool, true, false, List, [], ◌∷◌, ◌++◌, get_or, Option, Some, None, if◌then◌else◌}
use Rattle.bfs_auth.specs.Keys.{Keys}
use Rattle.bfs_messages.specs.Messages as model
use Rattle.bfs_messages.specs.Signing.{as_message}
use Rattle.bfs_messages.specs.declared.signed.Signed.{Signed}
use Rattle.bfs_messages.specs.declared.message.Message.TheVariants.{ViewChange}
use Rattle.bfs_node.specs.Changing.{view_to_follow}
use Rattle.bfs_node.specs.Nodes.{Node}
use Rattle.bfs_nodes_agree.specs.Nodes.Replicas.{Keyring, NodeReplicas, NodeTurn, after_node_turns}
use Rattle.bfs_nodes_agree.specs.Nodes.Steps.{LeavesFor}
use Rattle.bfs_nodes_progress.specs.Rounds.{ComesTo}
use Rattle.bfs_nodes_progress.specs.Runs.{order_of}
use Rattle.bfs_view_change.specs.Changes.ViewChanges.{valid_view_change}
use Rattle.bfs_votes.specs.Votes.{count_below, replicas}

-- Who asks, and who hears it ------------------------------------------------------------------------------------------

-- 2f + 1 correct nodes or more
pub record AreMembers (f : ℕ) (faulty members : ℕ → Bool) : Type 0 where
  pub enough : 2 * f + 1 ≤ count_below members (replicas f)
  pub correct : (k : ℕ) → members k ≡ true → faulty k ≡ false
  pub among : (k : ℕ) → members k ≡ true → k < replicas f

-- the view last asked for
abbrev pub asked_by : NodeReplicas → (k : ℕ) → ℕ
asked_by w k = (order_of w k).asked

-- the latest view that a node has heard another one ask for, by its VIEW-CHANGEs; 0 where it has heard none
abbrev pub heard : Node → (sender : ℕ) → ℕ
heard node sender = get_or node.changes.asked sender 0

-- f + 1 members, these, have asked for the view or a later one
pub record HaveSupport (f : ℕ) (members these : ℕ → Bool) (w : NodeReplicas) (view : ℕ) : Type 0 where
  pub enough : f + 1 ≤ count_below these (replicas f)
  pub among : (k : ℕ) → these k ≡ true → members k ≡ true
  pub asked : (k : ℕ) → these k ≡ true → view ≤ asked_by w k

-- and each member that has asked for less has heard so of each of these
abbrev pub SupportIsHeard : (members these : ℕ → Bool) → NodeReplicas → (view : ℕ) → Type 0
SupportIsHeard members these w view = (j k : ℕ) → members j ≡ true → these k ≡ true → asked_by w j < view → view ≤ heard (w j).node k

-- a sender's VIEW-CHANGE for the view or a later one, valid by these keys, comes to a node in one of the turns
pub record ChangeComes (keys : Keys) (view sender who : ℕ) (turns : List NodeTurn) : Type 0 where
  pub change : Signed model.ViewChange
  pub by : change.message.sender ≡ sender
  pub for_view : view ≤ change.message.view
  pub valid : valid_view_change keys change ≡ true
  pub comes : ComesTo who (as_message ViewChange change) turns

-- of each of these to each other member
abbrev pub ChangesCome : Keyring → (members these : ℕ → Bool) → (view : ℕ) → List NodeTurn → Type 0
ChangesCome keys members these view turns = (j k : ℕ) → members j ≡ true → these k ≡ true → (j == k) ≡ false → ChangeComes (keys j) view k j turns

-- Turns of following ----------------------------------------------------------------------------------------------------

-- the turn by which a node follows, if it may
abbrev pub following : (who : ℕ) → Option ℕ → List NodeTurn
following who None = []
following who (Some view) = record { who = who; step = LeavesFor view } ∷ []

-- the turns of each below a bound, one behind another
abbrev pub each_takes : (turns : ℕ → List NodeTurn) → (bound : ℕ) → List NodeTurn
each_takes turns zero = []
each_takes turns (suc k) = turns k ++ each_takes turns k

-- each member follows, if it may
abbrev pub round_of_following : (f : ℕ) (members : ℕ → Bool) → NodeReplicas → List NodeTurn
round_of_following f members w = each_takes (λ k. if members k then following k (view_to_follow (w k).node) else []) (replicas f)

-- one round behind another, so many
abbrev pub rounds_of_following : (f : ℕ) (members : ℕ → Bool) → NodeReplicas → (rounds : ℕ) → List NodeTurn
rounds_of_following f members w zero = []
rounds_of_following f members w (suc rounds) =
    let round = round_of_following f members w in
    round ++ rounds_of_following f members (after_node_turns w round) rounds
