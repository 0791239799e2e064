-- Replicas in one process, the messages between them, and what becomes of what one of them does.
use Rattle.std.specs.Prelude.{ℕ, Bool, true, List, [], ◌∷◌, ◌++◌, map, slice_get, slice_set, Option, Some, None, IsSome, if◌then◌else◌}
use Rattle.std.specs.List.{fold, range_with_len}
use Rattle.std.specs.Option.{option_map, unwrap_or}
use Rattle.bfs_model.specs.Bytes.Call.{◌>>=◌}
use Rattle.bfs_messages.specs.declared.message.Message.{Message}
use Rattle.bfs_messages.specs.declared.signed.Signed.{Signed}
use Rattle.bfs_node.specs.Nodes.{keys_of_replica, Messages, new_node, Node, Outcome}
use Rattle.bfs_node.specs.Receivers.{receivers_of}
use Rattle.bfs_node.specs.declared.receivers.Receivers.{Receivers}
use Rattle.bfs_node.specs.declared.receivers.Receivers.TheVariants.{Replicas, Client}
use Rattle.bfs_settings.specs.Settings.{Settings, replicas_for}

-- one that is not heard is silent: it sends and receives nothing, and executes nothing
pub record Replica : Type 0 where
  pub heard : Bool
  pub node : Node

-- a message on its way to the replicas from `next` on, but for its sender
pub record Broadcast : Type 0 where
  pub sender : ℕ
  pub next : ℕ
  pub signed : Signed Message

-- a message that a replica sent
pub record Sent : Type 0 where
  pub sender : ℕ
  pub signed : Signed Message

pub record World : Type 0 where
  -- by their numbers
  pub replicas : List Replica
  -- by the order in which they were sent
  pub queue : List Broadcast
  -- what was sent to clients, in that order
  pub replies : Messages
  -- whose turn it is to execute; none while messages are delivered
  pub turn : Option ℕ
  -- what replicas sent since it was asked for last, in that order; none as long as nobody watches
  pub watched : Option (List Sent)

abbrev pub heard_replica : Node → Replica
heard_replica node = record { heard = true; node = node }

-- these replicas, by their numbers, between which nothing was sent
abbrev pub world_of : List Replica → World
world_of replicas = record { replicas = replicas; queue = []; replies = []; turn = None; watched = None }

-- all are heard, and have done nothing
abbrev pub new_replica : Settings → (number : ℕ) → Replica
new_replica settings number = heard_replica (new_node (keys_of_replica settings number))

abbrev pub new_world : Settings → World
new_world settings = world_of (map (new_replica settings) (range_with_len 0 (replicas_for settings.f)))

-- what a call leaves in which memory ran out: no replica, and nothing that was sent
abbrev pub emptied : World
emptied = world_of []

-- Who watches ------------------------------------------------------------------------------------------------------------

-- what was sent since it was asked for last, as far as it was watched
abbrev pub sent_in : World → List Sent
sent_in world = unwrap_or world.watched []

-- from now on; what is kept stays
abbrev pub watching : World → World
watching world = record world { watched = Some (sent_in world) }

abbrev pub sent_taken : World → World
sent_taken world = record world { watched = option_map (λ sent. []) world.watched }

-- Who is heard -----------------------------------------------------------------------------------------------------------

abbrev pub with_hearing : (heard : Bool) → World → (number : ℕ) → Option Replica → World
with_hearing heard world number None = world
with_hearing heard world number (Some replica) = record world { replicas = slice_set world.replicas number (record replica { heard = heard }) }

-- a replica is heard from now on, or not; where there is none of that number, nothing changes
abbrev pub hearing : (heard : Bool) → World → (number : ℕ) → World
hearing heard world number = with_hearing heard world number (slice_get world.replicas number)

abbrev pub node_if_heard : Option Replica → Option Node
node_if_heard None = None
node_if_heard (Some replica) = if replica.heard then Some replica.node else None

-- the node of a replica that is heard
abbrev pub node_at : World → (number : ℕ) → Option Node
node_at world number = node_if_heard (slice_get world.replicas number)

-- some replica is
abbrev pub SomeHeard : World → Type 0
SomeHeard world = (number : ℕ) × IsSome (node_at world number)

-- What a replica does ------------------------------------------------------------------------------------------------------

abbrev pub posted_to : (sender : ℕ) → World → Signed Message → Receivers → World
posted_to sender world signed Replicas = record world { queue = world.queue ++ record { sender = sender; next = 0; signed = signed } ∷ [] }
posted_to sender world signed (Client client) = record world { replies = world.replies ++ signed ∷ [] }

-- a message is kept for whoever watches
abbrev pub noted : (sender : ℕ) → World → Signed Message → World
noted sender world signed = record world { watched = option_map (λ sent. sent ++ record { sender = sender; signed = signed } ∷ []) world.watched }

-- a message is sent
abbrev pub posted : (sender : ℕ) → World → Signed Message → World
posted sender world signed = posted_to sender (noted sender world signed) signed (receivers_of signed.message)

abbrev pub with_node : World → (number : ℕ) → Node → World
with_node world number node = record world { replicas = slice_set world.replicas number (record { heard = true; node = node }) }

-- a replica that is heard did that
abbrev pub done_by : (number : ℕ) → World → Outcome → World
done_by number world done = fold (posted number) (with_node world number done.now) done.sent

-- or did nothing
abbrev pub done_if : (number : ℕ) → World → Option Outcome → World
done_if number world None = world
done_if number world (Some done) = done_by number world done

-- some replica that is heard does something then
abbrev pub SomeActs : (act : Node → Option Outcome) → World → Type 0
SomeActs act world = (number : ℕ) × IsSome (node_at world number >>= act)
