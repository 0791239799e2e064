-- A replica goes on by itself: it executes the batches that are committed, one after another, and makes the checkpoints that are due (OSDI 1999
-- sections 4.2 and 4.3).
use Rattle.std.specs.Prelude.{◌≡◌, ◌⊎◌, ◌<◌, ℕ, zero, suc, [], ◌++◌, Option, Some, None}
use Rattle.std.specs.Option.{option_map}
use Rattle.bfs_node.specs.Checkpoints.{checkpoint, checkpoint_refusal}
use Rattle.bfs_node.specs.Executing.{after_execution, execution}
use Rattle.bfs_node.specs.Nodes.{Messages, Node, Outcome}
use Rattle.bfs_node.specs.declared.error.NodeError.{NodeError}

-- what is done where it is not refused
abbrev pub unless_refused : Option NodeError → Option Outcome → Option Outcome
unless_refused None outcome = outcome
unless_refused (Some refused) outcome = None

-- what is sent by both
abbrev pub followed_by : Outcome → Option Outcome → Outcome
followed_by done None = done
followed_by done (Some more) = record { now = more.now; sent = done.sent ++ more.sent }

-- it makes the checkpoint that is due, if one is
abbrev pub with_due_checkpoint : Outcome → Outcome
with_due_checkpoint done = followed_by done (unless_refused (checkpoint_refusal done.now) (checkpoint done.now))

abbrev pub next_of : Option (Option Outcome) → Option Outcome
next_of None = None
next_of (Some next) = next

-- the next committed batch is executed, and a checkpoint made where one is due; none where no batch is next, or the file system has failed
abbrev pub advancing : Node → Option Outcome
advancing node = option_map with_due_checkpoint (next_of (execution node))

-- it has done that and gives what is sent, or it did nothing
abbrev pub Acts : Option Outcome → (old new : Node) → (sent : Option Messages) → Type 0
Acts None old new sent = (new ≡ old) × (sent ≡ None)
Acts (Some done) old new sent = (new ≡ done.now) × (sent ≡ Some done.sent)

-- after so many batches, with all that is sent meanwhile; the checkpoint that is due at first was not made when memory ran out
abbrev pub advanced : (batches : ℕ) → Node → Outcome
advanced zero node = with_due_checkpoint (record { now = node; sent = [] })
advanced (suc batches) node = followed_by (advanced batches node) (advancing (advanced batches node).now)

-- it has executed all that was committed, and that is sent; `Executes` holds of it before each batch
pub record Advances (Executes : Node → Type 0) (node : Node) (sent : Messages) (now : Node) : Type 0 where
  pub batches : ℕ
  pub comes : advanced batches node ≡ record { now = now; sent = sent }
  pub executes : (k : ℕ) → k < batches → Executes (advanced k node).now
  pub ended : advancing now ≡ None

-- memory ran out behind a batch: as it was then, or while it executed the next one, of which the file system has failed, or before that one's
-- checkpoint
abbrev pub StopsAt : Node → Node → Type 0
StopsAt node now = (now ≡ node) ⊎ ((now ≡ record node { files = None }) ⊎ (option_map (after_execution node) (execution node) ≡ Some now))

-- memory ran out before anything was done, or behind so many batches
pub record StopsShort (node now : Node) : Type 0 where
  pub batches : ℕ
  pub stops : (now ≡ node) ⊎ StopsAt (advanced batches node).now now
