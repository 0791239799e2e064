-- The steps of a run, each of which the world alone tells: messages are delivered in the order in which they were sent, each to all other
-- replicas by rising number; where none is left, each replica that is heard executes all that is ready, by rising number; and so on, until no
-- message is left and nothing is ready. Then those that are behind catch up, and all begins anew, until none does.
use Rattle.std.specs.Prelude.{◌≡◌, ℕ, zero, suc, ◌+◌, ◌<◌, ◌==◌, Bool, ◌&&◌, List, [], ◌∷◌, length, ◌⊎◌, Option, Some, None, IsSome, nat_lt, if◌then◌else◌}
use Rattle.std.specs.List.{list_any}
use Rattle.bfs_model.specs.Bytes.Call.{◌>>=◌}
use Rattle.bfs_messages.specs.declared.message.Message.{Message}
use Rattle.bfs_messages.specs.declared.signed.Signed.{Signed}
use Rattle.bfs_node.specs.Advancing.{advancing, unless_refused}
use Rattle.bfs_node.specs.Delivering.{delivered, delivery_refusal}
use Rattle.bfs_node.specs.Executing.{is_ready}
use Rattle.bfs_node.specs.Nodes.{Node, Outcome}
use Rattle.bfs_cluster.specs.CatchingUp.{AllCatchUp, AllStay, HasOffer, Times}
use Rattle.bfs_cluster.specs.World.{Broadcast, Replica, World, done_by, done_if, node_at}

-- Delivering ---------------------------------------------------------------------------------------------------------------

abbrev pub delivery : Signed Message → Node → Option Outcome
delivery signed node = unless_refused (delivery_refusal node signed) (Some (delivered node signed))

-- a message comes to a replica; one that it refuses is lost
abbrev pub handed : Signed Message → World → (number : ℕ) → World
handed signed world number = done_if number world (node_at world number >>= delivery signed)

-- a message comes to its next receiver, and stays the first of those on their way
abbrev pub passed_on : World → Broadcast → World
passed_on world broadcast =
    let onward = record world { queue = (record broadcast { next = broadcast.next + 1 }) ∷ world.queue } in
    if broadcast.next == broadcast.sender then onward else handed broadcast.signed onward broadcast.next

-- once all have had it, it is gone
abbrev pub delivering : World → Broadcast → World
delivering world broadcast = if nat_lt broadcast.next (length world.replicas) then passed_on world broadcast else world

-- Executing ----------------------------------------------------------------------------------------------------------------

abbrev pub turn_taken : World → (number : ℕ) → Option Outcome → World
turn_taken world number None = record world { turn = Some (number + 1) }
turn_taken world number (Some done) = done_by number world done

-- the replica executes one batch and makes the checkpoint that is due, or it is the next one's turn; once all had theirs, messages are
-- delivered
abbrev pub turning : World → (number : ℕ) → World
turning world number =
    if nat_lt number (length world.replicas) then turn_taken world number (node_at world number >>= advancing) else record world { turn = None }

-- Steps --------------------------------------------------------------------------------------------------------------------

abbrev pub has_ready : Replica → Bool
has_ready replica = replica.heard && is_ready replica.node

abbrev pub step_at : World → (turn : Option ℕ) → (queue : List Broadcast) → Option World
step_at world (Some number) queue = Some (turning world number)
step_at world None (broadcast ∷ rest) = Some (delivering (record world { queue = rest }) broadcast)
step_at world None [] = if list_any has_ready world.replicas then Some (record world { turn = Some 0 }) else None

-- the next world, or none where all has settled
abbrev pub step : World → Option World
step world = step_at world world.turn world.queue

abbrev pub onward : World → Option World → (World → World) → World
onward world None go = world
onward world (Some next) go = go next

-- after so many steps, or fewer where none is left
abbrev pub after : (steps : ℕ) → World → World
after zero world = world
after (suc steps) world = onward world (step world) (λ next. after steps next)

-- where a replica executes a batch in the next step, `Executes` holds of its node
abbrev pub ExecutesAt : (Executes : Node → Type 0) → World → Type 0
ExecutesAt Executes world =
    (number : ℕ) (node : Node) → world.turn ≡ Some number → node_at world number ≡ Some node → IsSome (advancing node) → Executes node

-- a step is left, or a replica is offered a snapshot
abbrev pub HasWork : World → Type 0
HasWork world = IsSome (step world) ⊎ HasOffer world

-- the world comes to the other one by some number of steps, and no step is left there; `Executes` holds before each batch that is executed
pub record Rests (Executes : Node → Type 0) (world other : World) : Type 0 where
  pub steps : ℕ
  pub comes : after steps world ≡ other
  pub executes : (k : ℕ) → k < steps → ExecutesAt Executes (after k world)
  pub ended : step other ≡ None

-- Settling -----------------------------------------------------------------------------------------------------------------

-- the world comes to rest, and then those that are behind catch up
pub record Round (Executes : Node → Type 0) (world other : World) : Type 0 where
  pub rest : World
  pub comes : Rests Executes world rest
  pub goes_on : AllCatchUp rest other

-- so often, until the world comes to rest and none catches up
pub record Settles (Executes : Node → Type 0) (world other : World) : Type 0 where
  pub rounds : ℕ
  pub last : World
  pub comes : Times (Round Executes) rounds world last
  pub rests : Rests Executes last other
  pub ended : AllStay other
