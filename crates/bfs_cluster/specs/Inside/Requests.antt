-- Many requests come to a replica.
use Rattle.std.specs.Prelude.{ℕ, Bool, true, false, List, slice_get, slice_set, Option, Some, None, if◌then◌else◌}
use Rattle.bfs_messages.specs.declared.message.Message.{Message}
use Rattle.bfs_messages.specs.declared.message.Message.TheVariants.{Request}
use Rattle.bfs_messages.specs.declared.signed.Signed.{Signed}
use Rattle.bfs_node.specs.Delivering.{after_requests}
use Rattle.bfs_cluster.specs.World.{Replica, World}
use Rattle.bfs_node.specs.Nodes.{Messages}

abbrev pub is_request_message : Message → Bool
is_request_message (Request request) = true
is_request_message _ = false

abbrev pub is_request : Signed Message → Bool
is_request signed = is_request_message signed.message

-- to one that is heard
abbrev pub with_requests : Messages → Replica → Replica
with_requests messages replica = if replica.heard then record replica { node = after_requests replica.node messages } else replica

abbrev pub with_changed : (change : Replica → Replica) → List Replica → (number : ℕ) → Option Replica → List Replica
with_changed change replicas number None = replicas
with_changed change replicas number (Some replica) = slice_set replicas number (change replica)

abbrev pub changed : (change : Replica → Replica) → List Replica → (number : ℕ) → List Replica
changed change replicas number = with_changed change replicas number (slice_get replicas number)

-- the replica of that number changes, and sends nothing
abbrev pub changing : (change : Replica → Replica) → World → (number : ℕ) → World
changing change world number = record world { replicas = changed change world.replicas number }
