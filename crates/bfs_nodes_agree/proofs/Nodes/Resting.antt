-- What a step leaves as it was by which no message comes and no view is left.
use Rattle.std.proofs.Common.{◌≡◌, true, false, cond, ◌&&◌, Option, Some, None, option_map, refl, ap, bytes_eq}
use Rattle.bfs_checkpoints.specs.Texts.{node_digest}
use Rattle.bfs_log.specs.Batches.{Committed}
use Rattle.bfs_log.specs.Certificates.{StableCheckpoint}
use Rattle.bfs_model.specs.Server.Tree.{FileSystem, Time}
use Rattle.bfs_order.specs.Replica.Executing.{next_committed}
use Rattle.bfs_replies.specs.Tables.{Table}
use Rattle.bfs_node.specs.Adopting.{adopted, may_adopt}
use Rattle.bfs_node.specs.Checkpoints.{checkpoint_refusal, checkpointed}
use Rattle.bfs_node.specs.Executing.{executed_on}
use Rattle.bfs_node.specs.Nodes.{Messages, Node, Outcome}
use Rattle.bfs_node.specs.Proposing.{proposal_refusal, proposed}
use Rattle.bfs_node.specs.Settling.{settling, settling_refusal}
use Rattle.bfs_messages.specs.Messages as model
use Rattle.bfs_messages.specs.declared.signed.Signed.{Signed}
use Rattle.bfs_node.specs.declared.error.NodeError.{NodeError}
use Rattle.bfs_nodes_agree.specs.Nodes.Steps.{TakesRequests, TakesOffered, Proposes, Executes, Checkpoints, ForgetsAnswered, ForgetsProposed, Adopts, Settles, after_execution, or_still, outcome, still, unless}
use Rattle.bfs_nodes_agree.proofs.Nodes.Steps.{offer_waits, waits}

-- it has the same keys, is the same replica in the same view, has asked for no other, and keeps the same VIEW-CHANGEs and the same NEW-VIEW
pub record Rests (node now : Node) : Type 0 where
  pub keys : now.keys ≡ node.keys
  pub f : now.order.f ≡ node.order.f
  pub me : now.order.me ≡ node.order.me
  pub view : now.order.view ≡ node.order.view
  pub asked : now.order.asked ≡ node.order.asked
  pub changes : now.changes ≡ node.changes
  pub new_view : now.new_view ≡ node.new_view

pub itself : (node : Node) → Rests node node
itself node = record { keys = refl; f = refl; me = refl; view = refl; asked = refl; changes = refl; new_view = refl }

pub if_taken : (node : Node) (r : Option NodeError) (out : Outcome) → Rests node out.now → Rests node (unless r node out).now
if_taken node None out rests = rests
if_taken node (Some refused) out rests = itself node

pub requests_rest : (node : Node) (messages : Messages) → Rests node (outcome node (TakesRequests messages)).now
requests_rest node messages =
    let is = (waits node messages).1 in
    record {
      keys = ap (λ (n : Node). n.keys) is;
      f = ap (λ (n : Node). n.order.f) is;
      me = ap (λ (n : Node). n.order.me) is;
      view = ap (λ (n : Node). n.order.view) is;
      asked = ap (λ (n : Node). n.order.asked) is;
      changes = ap (λ (n : Node). n.changes) is;
      new_view = ap (λ (n : Node). n.new_view) is;
    }

pub proposes_rest : (node : Node) (time : Time) → Rests node (outcome node (Proposes time)).now
proposes_rest node time = if_taken node (proposal_refusal node) (proposed node time) (record { keys = refl; f = refl; me = refl; view = refl; asked = refl; changes = refl; new_view = refl })

pub executes_rest : (node : Node) → Rests node (outcome node Executes).now
executes_rest node = go node.files (next_committed node.order)
  where
    found : Option FileSystem → Option Committed → Option (Option Outcome)
    found files next = option_map (λ (f : FileSystem). option_map (executed_on node f) next) files

    go : (files : Option FileSystem) (next : Option Committed) → Rests node (after_execution node (found files next)).now
    go None next = itself node
    go (Some files) None = itself node
    go (Some files) (Some next) = record { keys = refl; f = refl; me = refl; view = refl; asked = refl; changes = refl; new_view = refl }

pub tells_rest : (node : Node) → Rests node (outcome node Checkpoints).now
tells_rest node = go (checkpoint_refusal node) node.files
  where
    go : (r : Option NodeError) (files : Option FileSystem) → Rests node (unless r node (or_still node (option_map (checkpointed node) files))).now
    go (Some refused) files = itself node
    go None None = itself node
    go None (Some files) = record { keys = refl; f = refl; me = refl; view = refl; asked = refl; changes = refl; new_view = refl }

pub adopts_rest : (node : Node) (certificate : StableCheckpoint) (files : FileSystem) (table : Table) → Rests node (outcome node (Adopts certificate files table)).now
adopts_rest node certificate files table =
    elim (may_adopt node certificate && bytes_eq (node_digest files table) certificate.digest) as (λ b. Rests node (cond b (still (adopted node certificate files table)) (still node)).now) [
      | true ↦ record { keys = refl; f = refl; me = refl; view = refl; asked = refl; changes = refl; new_view = refl }
      | false ↦ itself node
    ]

pub offered_rest : (node : Node) (request : Signed model.Request) → Rests node (outcome node (TakesOffered request)).now
offered_rest node request =
    let is = (offer_waits node request).1 in
    record {
      keys = ap (λ (n : Node). n.keys) is;
      f = ap (λ (n : Node). n.order.f) is;
      me = ap (λ (n : Node). n.order.me) is;
      view = ap (λ (n : Node). n.order.view) is;
      asked = ap (λ (n : Node). n.order.asked) is;
      changes = ap (λ (n : Node). n.changes) is;
      new_view = ap (λ (n : Node). n.new_view) is;
    }

pub forgets_answered_rest : (node : Node) → Rests node (outcome node ForgetsAnswered).now
forgets_answered_rest node = record { keys = refl; f = refl; me = refl; view = refl; asked = refl; changes = refl; new_view = refl }

pub forgets_proposed_rest : (node : Node) → Rests node (outcome node ForgetsProposed).now
forgets_proposed_rest node = record { keys = refl; f = refl; me = refl; view = refl; asked = refl; changes = refl; new_view = refl }

pub settles_rest : (node : Node) (certificate : StableCheckpoint) → Rests node (outcome node (Settles certificate)).now
settles_rest node certificate = if_taken node (settling_refusal node certificate) (still (settling node certificate)) (record { keys = refl; f = refl; me = refl; view = refl; asked = refl; changes = refl; new_view = refl })
