-- States that can be saved and read again: what nodes come to by messages of words and bytes.
use Rattle.std.specs.Prelude.{◌≡◌, ℕ, List, Some, None}
use Rattle.std.specs.Option.{ForSome}
use Rattle.bfs_agreement.specs.Histories.{IsIn}
use Rattle.bfs_codec.specs.Reading.{message_of}
use Rattle.bfs_messages.specs.Messages as model
use Rattle.bfs_messages.specs.Messages.{Batch, PreparedBatch}
use Rattle.bfs_messages.specs.declared.signed.Signed.{Signed}
use Rattle.bfs_messages.specs.declared.message.Message.{Message}
use Rattle.bfs_messages.specs.declared.message.Message.TheVariants.{Request, Order, ViewChange, NewView, Reply}
use Rattle.bfs_messages.specs.declared.order_messages.OrderMessage.{OrderMessage}
use Rattle.bfs_messages.specs.declared.order_messages.OrderMessage.TheVariants.{PrePrepare}
use Rattle.bfs_model.specs.Server.Stored.{AreBytes, IsDouble, IsLive, IsTime}
use Rattle.bfs_node.specs.Saving.{AreTaken}
use Rattle.bfs_replies.specs.Tables.{IsKept}
use Rattle.bfs_nodes_agree.specs.Nodes.Replicas.{Beginning, Keyring, NodeReplica, NodeTurn, Standing}
use Rattle.bfs_nodes_agree.specs.Nodes.Steps.{NodeStep, Delivers, Takes, TakesRequests, TakesOffered, Proposes, Adopts}
use Rattle.bfs_nodes_progress.specs.Runs.{reached}

-- What comes ----------------------------------------------------------------------------------------------------------

-- its timestamp is an unsigned hyper integer (RFC 4506 section 4.5), and its call is of bytes
pub record RequestIsOfBytes (request : model.Request) : Type 0 where
  pub timestamp : IsDouble request.timestamp
  pub call : AreBytes request.call

abbrev pub Asks : Signed model.Request → Type 0
Asks signed = RequestIsOfBytes signed.message

-- so is each of its requests, at a time of 32-bit seconds and fewer than 1,000,000 microseconds
abbrev pub BatchIsOfBytes : Batch → Type 0
BatchIsOfBytes None = Unit {0}
BatchIsOfBytes (Some batch) = IsTime batch.time × ((signed : Signed model.Request) → IsIn signed batch.requests → Asks signed)

abbrev pub OrderIsOfBytes : OrderMessage → Type 0
OrderIsOfBytes (PrePrepare proposal) = BatchIsOfBytes proposal.batch
OrderIsOfBytes other = Unit {0}

-- so is each batch that a message brings
abbrev pub MessageIsOfBytes : Message → Type 0
MessageIsOfBytes (Request request) = RequestIsOfBytes request
MessageIsOfBytes (Order message) = OrderIsOfBytes message
MessageIsOfBytes (ViewChange change) = (prepared : PreparedBatch) → IsIn prepared change.certificates → BatchIsOfBytes prepared.proposal.message.batch
MessageIsOfBytes (NewView new) = (proposal : Signed model.PrePrepare) → IsIn proposal new.proposals → BatchIsOfBytes proposal.message.batch
MessageIsOfBytes (Reply reply) = Unit {0}

-- so is what comes by a step, and what is adopted can be stored
abbrev pub StepIsOfBytes : NodeStep → Type 0
StepIsOfBytes (Delivers bytes) = (signed : Signed Message) → message_of bytes ≡ Some signed → MessageIsOfBytes signed.message
StepIsOfBytes (Takes signed) = MessageIsOfBytes signed.message
StepIsOfBytes (TakesRequests messages) = (signed : Signed Message) → IsIn signed messages → MessageIsOfBytes signed.message
StepIsOfBytes (TakesOffered request) = Asks request
StepIsOfBytes (Proposes time) = IsTime time
StepIsOfBytes (Adopts certificate files table) = IsLive files × IsKept table
StepIsOfBytes other = Unit {0}

-- What nodes come to --------------------------------------------------------------------------------------------------

-- a state after a number
pub record StandingIsLive (standing : Standing) : Type 0 where
  pub live : IsLive standing.files
  pub kept : IsKept standing.table

-- the file system that it holds is live where it has not failed, the table can be stored, the snapshots that it keeps are of such states, and so
-- is each state that it has been in
pub record CanBeStored (r : NodeReplica) : Type 0 where
  pub live : ForSome r.node.files IsLive
  pub kept : IsKept r.node.table
  pub taken : AreTaken r.node.snapshots.kept
  pub states : (standing : Standing) → IsIn standing r.reached → StandingIsLive standing

-- where all begin with a state that can be stored, and what comes is of words and bytes, whoever sends it, what each comes to can be stored
abbrev pub ReachedStatesCanBeStored : Type 0
ReachedStatesCanBeStored = (f : ℕ) (keys : Keyring) (start : Beginning) (turns : List NodeTurn) (k : ℕ)
    → IsLive start.files → IsKept start.table → ((turn : NodeTurn) → IsIn turn turns → StepIsOfBytes turn.step)
    → CanBeStored (reached f keys start turns k)
