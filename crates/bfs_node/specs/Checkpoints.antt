-- A replica tells the others what it is after a number (OSDI 1999 section 4.3).
use Rattle.std.specs.Prelude.{◌%◌, ◌==◌, not, [], ◌∷◌, Option, Some, None, if◌then◌else◌}
use Rattle.std.specs.Option.{option_map}
use Rattle.bfs_model.specs.Server.Tree.{FileSystem}
use Rattle.bfs_checkpoints.specs.Keeping.{with_snapshot}
use Rattle.bfs_checkpoints.specs.Snapshots.{Snapshot, snapshot_of}
use Rattle.bfs_log.specs.Headers.{header}
use Rattle.bfs_messages.specs.Signing.{as_message}
use Rattle.bfs_messages.specs.declared.message.Message.TheVariants.{Order}
use Rattle.bfs_order.specs.Replica.Checkpoints as order
use Rattle.bfs_order.specs.Replica.States.{with_message}
use Rattle.bfs_order.specs.declared.error.OrderError.{OrderError}
use Rattle.bfs_node.specs.Delivering.{settled_by}
use Rattle.bfs_node.specs.Errors.{of_order}
use Rattle.bfs_node.specs.Nodes.{Node, Outcome}
use Rattle.bfs_node.specs.declared.error.NodeError.{NodeError}
use Rattle.bfs_node.specs.declared.error.NodeError.TheVariants as error
use Rattle.bfs_model.specs.Server.Limits.{checkpoint_interval}

-- of a file system that has failed there is none
abbrev pub unless_failed : Option FileSystem → Option NodeError
unless_failed None = Some error.Failed
unless_failed (Some files) = None

abbrev pub told_refusal : Node → Option OrderError → Option NodeError
told_refusal node None = unless_failed node.files
told_refusal node (Some refused) = Some (of_order refused)

-- only of a multiple of the interval within the marks, once, and of a file system that has not failed
abbrev pub checkpoint_refusal : Node → Option NodeError
checkpoint_refusal node =
    if not ((node.order.last % checkpoint_interval) == 0) then Some error.OutsideMarks else told_refusal node (order.checkpoint_refusal node.order node.order.last)

-- its snapshot is kept, and settled at once where its own CHECKPOINT makes it stable
abbrev pub with_checkpoint : Node → Snapshot → Outcome
with_checkpoint node snapshot =
    let number = node.order.last in
    let own = order.checkpoint node.keys node.order number snapshot.digest in
    record {
      now = record node {
        order = (order.checkpointed node.keys node.order number snapshot.digest).now;
        snapshots = settled_by (with_message node.order own) (header own) (with_snapshot node.snapshots number snapshot);
      };
      sent = as_message Order own ∷ [];
    }

abbrev pub checkpointed : Node → FileSystem → Outcome
checkpointed node files = with_checkpoint node (snapshot_of files node.table)

-- as far as the file system has not failed
abbrev pub checkpoint : Node → Option Outcome
checkpoint node = option_map (checkpointed node) node.files
