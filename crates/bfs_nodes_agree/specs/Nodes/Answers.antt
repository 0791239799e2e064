-- What replicas answer, and for whom they execute.
use Rattle.std.specs.Prelude.{◌≡◌, ℕ, suc, Bool, true, List, Some, ◌⊎◌}
use Rattle.bfs_auth.specs.Keys.{Keys}
use Rattle.bfs_messages.specs.Messages as model
use Rattle.bfs_messages.specs.Messages.{Batch, requests_of}
use Rattle.bfs_messages.specs.Signing.{request_is_signed}
use Rattle.bfs_messages.specs.declared.signed.Signed.{Signed}
use Rattle.bfs_messages.specs.declared.message.Message.{Message}
use Rattle.bfs_messages.specs.declared.message.Message.TheVariants.{Reply}
use Rattle.bfs_outcome.specs.Outcome.{outcome}
use Rattle.bfs_replies.specs.Answers.{Answer}
use Rattle.bfs_replies.specs.Tables.{Last, last_of}
use Rattle.bfs_agreement.specs.Histories.{IsIn}
use Rattle.bfs_nodes_agree.specs.Nodes.Laws.{Executed}
use Rattle.bfs_nodes_agree.specs.Nodes.Premises.{AreAuthentic, AreShared}
use Rattle.bfs_nodes_agree.specs.Nodes.Replicas.{Beginning, Keyring, NodeReplica, NodeTurn, Standing, after_node_turns, new_node_replicas}

-- a REPLY gives the answer to a request in a batch that the replica executed, on a state that it had reached
pub record AnswersNow (r : NodeReplica) (reply : model.Reply) : Type 0 where
  pub before : Standing
  pub reached : IsIn before r.reached
  pub batch : Batch
  pub executed : Executed r (suc before.number) batch
  pub answer : Answer
  pub given : IsIn answer (outcome before.files before.table batch).answers
  pub client : reply.client ≡ answer.client
  pub timestamp : reply.timestamp ≡ answer.timestamp
  pub result : reply.result ≡ answer.reply

-- it gives the last reply to its client once more, as a state has it that the replica had reached, by executing or by adopting
pub record AnswersAgain (r : NodeReplica) (reply : model.Reply) : Type 0 where
  pub standing : Standing
  pub reached : IsIn standing r.reached
  pub last : Last
  pub found : last_of standing.table reply.client ≡ Some last
  pub timestamp : reply.timestamp ≡ last.timestamp
  pub result : reply.result ≡ last.reply

abbrev pub Answers : NodeReplica → model.Reply → Type 0
Answers r reply = AnswersNow r reply ⊎ AnswersAgain r reply

-- it has been in a state of that number, which is above 0
pub record HasCome (r : NodeReplica) (number : ℕ) : Type 0 where
  pub before : ℕ
  pub above : number ≡ suc before
  pub standing : Standing
  pub reached : IsIn standing r.reached
  pub there : standing.number ≡ number

-- each REPLY that a replica has sent is such an answer; each batch that it has executed led it to a state; and each request in one has a keyed
-- hash of the client that it names, right by the replica's keys
pub record AnswersFor (keys : Keys) (r : NodeReplica) : Type 0 where
  pub replies : (s : Signed Message) (reply : model.Reply) → IsIn s r.sent → s.message ≡ Reply reply → Answers r reply
  pub comes : (number : ℕ) (batch : Batch) → Executed r number batch → HasCome r number
  pub signed : (number : ℕ) (batch : Batch) (s : Signed model.Request) → Executed r number batch → IsIn s (requests_of batch) → request_is_signed keys s ≡ true

-- whatever keys they have and whatever state they begin with, over every list of calls of nodes and deliveries of bytes
abbrev pub NodesAnswer : Type 0
NodesAnswer = (f : ℕ) (keys : Keyring) (start : Beginning) (faulty : ℕ → Bool) (steps : List NodeTurn) → AreShared f keys → AreAuthentic faulty (new_node_replicas f keys start) steps
    → (i : ℕ) → AnswersFor (keys i) (after_node_turns (new_node_replicas f keys start) steps i)
