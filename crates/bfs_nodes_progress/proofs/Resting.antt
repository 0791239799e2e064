-- Calls that leave VIEW-CHANGEs and snapshots as they are.
use Rattle.std.proofs.Common.{◌≡◌, [], ◌∷◌, Option, Some, None, option_map, refl, ◌∙◌}
use Rattle.bfs_log.specs.Batches.{Committed}
use Rattle.bfs_messages.specs.Messages as model
use Rattle.bfs_messages.specs.declared.signed.Signed.{Signed}
use Rattle.bfs_messages.specs.declared.message.Message.{Message}
use Rattle.bfs_messages.specs.declared.message.Message.TheVariants.{Request}
use Rattle.bfs_model.specs.Server.Tree.{FileSystem, Time}
use Rattle.bfs_order.specs.Replica.Executing.{next_committed}
use Rattle.bfs_node.specs.Delivering.{after_request, if_taken, request_in, request_refusal, with_request}
use Rattle.bfs_node.specs.Executing.{executed_on}
use Rattle.bfs_node.specs.Nodes.{Messages, Node, Outcome}
use Rattle.bfs_node.specs.Offering.{after_offered, offer_refusal, offered, with_offered}
use Rattle.bfs_node.specs.Proposing.{proposal_refusal, proposed}
use Rattle.bfs_node.specs.declared.error.NodeError.{NodeError}
use Rattle.bfs_node.specs.declared.offering.Offered.{Offered}
use Rattle.bfs_node.specs.declared.offering.Offered.TheVariants.{Waits}
use Rattle.bfs_nodes_agree.specs.Nodes.Steps.{TakesRequests, TakesOffered, Proposes, Executes, after_execution, outcome, unless}

abbrev pub Rests : (node now : Node) → Type 0
Rests node now = (now.changes ≡ node.changes) × (now.snapshots ≡ node.snapshots)

pub if_rests : (node : Node) (r : Option NodeError) (out : Outcome) → Rests node out.now → Rests node (unless r node out).now
if_rests node None out rests = rests
if_rests node (Some refused) out rests = (refl, refl)

request_rests : (node : Node) (signed : Signed Message) (m : Message) → Rests node (after_request node signed m)
request_rests node signed (Request request) = elim (request_refusal node (request_in signed request)) as
    (λ r. Rests node (if_taken r (with_request node (request_in signed request)).now node)) [ None ↦ (refl, refl) | Some refused ↦ (refl, refl) ]
request_rests node signed other = (refl, refl)

pub requests_rest : (node : Node) (messages : Messages) → Rests node (outcome node (TakesRequests messages)).now
requests_rest node [] = (refl, refl)
requests_rest node (m ∷ messages) =
    let first = request_rests node m m.message in
    let rest = requests_rest (after_request node m m.message) messages in
    (rest.0 ∙ first.0, rest.1 ∙ first.1)

offer_rests : (node : Node) (request : Signed model.Request) (o : Offered) → Rests node (after_offered node request o)
offer_rests node request Waits = (refl, refl)
offer_rests node request other = (refl, refl)

pub offered_rests : (node : Node) (request : Signed model.Request) → Rests node (outcome node (TakesOffered request)).now
offered_rests node request = if_rests node (offer_refusal node request) (with_offered node request) (offer_rests node request (offered node request))

pub proposes_rests : (node : Node) (time : Time) → Rests node (outcome node (Proposes time)).now
proposes_rests node time = if_rests node (proposal_refusal node) (proposed node time) (refl, refl)

pub executes_rests : (node : Node) → Rests node (outcome node Executes).now
executes_rests node = go node.files (next_committed node.order)
  where
    found : Option FileSystem → Option Committed → Option (Option Outcome)
    found files next = option_map (λ (f : FileSystem). option_map (executed_on node f) next) files

    go : (files : Option FileSystem) (next : Option Committed) → Rests node (after_execution node (found files next)).now
    go None next = (refl, refl)
    go (Some files) None = (refl, refl)
    go (Some files) (Some next) = (refl, refl)
