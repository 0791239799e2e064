-- The next committed batch is executed, and its clients are told (OSDI 1999 sections 4.1 and 4.2).
use Rattle.std.specs.Prelude.{ℕ, Bool, true, false, List, Option, Some, None, IsSome}
use Rattle.std.specs.List.{filter_map}
use Rattle.std.specs.Option.{ForSome, option_map}
use Rattle.bfs_model.specs.Server.Tree.{FileSystem}
use Rattle.bfs_auth.specs.Authenticators.{signature_for_client}
use Rattle.bfs_auth.specs.Keys.{Keys}
use Rattle.bfs_auth.specs.declared.authenticators.Authenticator.{Authenticator}
use Rattle.bfs_log.specs.Batches.{Committed}
use Rattle.bfs_messages.specs.Messages as model
use Rattle.bfs_messages.specs.Spelling.{body_text}
use Rattle.bfs_messages.specs.declared.signed.Signed.{Signed}
use Rattle.bfs_messages.specs.declared.message.Message.{Message}
use Rattle.bfs_messages.specs.declared.message.Message.TheVariants.{Reply}
use Rattle.bfs_order.specs.Replica.Executing as order
use Rattle.bfs_order.specs.Replica.States.{State}
use Rattle.bfs_outcome.specs.Outcome.{outcome}
use Rattle.bfs_outcome.specs.Ran.{RanNew}
use Rattle.bfs_parallel.specs.declared.engine.Engine.{Engine}
use Rattle.bfs_pending.specs.Requests.{without}
use Rattle.bfs_replies.specs.Answers.{Answer}
use Rattle.bfs_node.specs.Nodes.{Messages, Node, Outcome}

-- Replies ---------------------------------------------------------------------------------------------------------------

-- this replica's reply to a client, in the view that it has entered
abbrev pub reply_to : State → Answer → model.Reply
reply_to state answer = record { sender = state.me; view = state.view; client = answer.client; timestamp = answer.timestamp; result = answer.reply }

abbrev pub signed_reply : model.Reply → (auth : Authenticator) → Signed Message
signed_reply reply auth = record { message = Reply reply; auth = auth }

-- with a keyed hash for that client alone
abbrev pub told : Keys → model.Reply → Option (Signed Message)
told keys reply = option_map (signed_reply reply) (signature_for_client keys reply.client (body_text (Reply reply)))

abbrev pub replies_to : Keys → State → List Answer → Messages
replies_to keys state answers = filter_map (λ answer. told keys (reply_to state answer)) answers

-- A batch --------------------------------------------------------------------------------------------------------------

abbrev pub executed_on : Node → FileSystem → Committed → Outcome
executed_on node files next =
    let done = outcome files node.table next.batch in
    record {
      now = record node {
        order = (order.executed node.order next.number).now;
        files = Some done.files;
        table = done.table;
        pending = without node.pending next.batch;
      };
      sent = replies_to node.keys node.order done.answers;
    }

-- the next committed batch, if there is one, on a live file system
abbrev pub executed_next : Node → FileSystem → Option Outcome
executed_next node files = option_map (executed_on node files) (order.next_committed node.order)

-- none where the file system has failed
abbrev pub execution : Node → Option (Option Outcome)
execution node = option_map (executed_next node) node.files

abbrev pub after_execution : Node → Option Outcome → Node
after_execution node None = node
after_execution node (Some outcome) = outcome.now

-- By what it is executed ---------------------------------------------------------------------------------------------

-- the gate has run each new request of the next batch, but those that may touch any inode
abbrev pub HasRun : (ran : ℕ → List ℕ → Type 0) → Node → Type 0
HasRun ran node = ForSome node.files (λ live. ForSome (order.next_committed node.order) (λ next. RanNew ran live node.table next.batch))

-- where there is an engine
abbrev pub Runs : (ran : ℕ → List ℕ → Type 0) → Option Engine → Node → Type 0
Runs ran engine node = IsSome engine → HasRun ran node

-- Whether there is one -----------------------------------------------------------------------------------------------------

abbrev pub is_next : Option (Option Outcome) → Bool
is_next None = false
is_next (Some None) = false
is_next (Some (Some outcome)) = true

abbrev pub is_ready : Node → Bool
is_ready node = is_next (execution node)
