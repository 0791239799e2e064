-- The primary proposes the requests that wait, as one batch (OSDI 1999 section 4.2).
use Rattle.std.specs.Prelude.{[], ◌∷◌, Option, Some}
use Rattle.std.specs.Option.{option_map}
use Rattle.bfs_model.specs.Server.Tree.{Time}
use Rattle.bfs_messages.specs.Messages.{Batch}
use Rattle.bfs_messages.specs.Signing.{as_message}
use Rattle.bfs_messages.specs.declared.message.Message.TheVariants.{Order}
use Rattle.bfs_order.specs.Replica.Proposing as order
use Rattle.bfs_node.specs.Errors.{of_order}
use Rattle.bfs_node.specs.Nodes.{Node, Outcome}
use Rattle.bfs_node.specs.declared.error.NodeError.{NodeError}

-- in the order in which they came
abbrev pub pending_batch : Node → Time → Batch
pending_batch node time = Some (record { time = time; requests = node.pending })

abbrev pub proposal_refusal : Node → Option NodeError
proposal_refusal node = option_map of_order (order.proposal_refusal node.order)

-- they wait until they are executed. The PRE-PREPARE is sent: a COMMIT that follows it at once is that of a replica that is alone
abbrev pub proposed : Node → Time → Outcome
proposed node time =
    let batch = pending_batch node time in
    record { now = record node { order = (order.proposed node.keys node.order batch).now }; sent = as_message Order (order.proposal node.keys node.order batch) ∷ [] }
