-- Replicas that are behind catch up, once nothing is left to be delivered and nothing is ready: each adopts the stable snapshot of one that is
-- ahead (OSDI 1999 section 4.3).
use Rattle.std.specs.Prelude.{◌≡◌, ℕ, zero, suc, ◌<◌, List, [], ◌∷◌, Option, Some, None, IsSome, nat_lt, if◌then◌else◌}
use Rattle.bfs_model.specs.Bytes.Call.{◌>>=◌}
use Rattle.bfs_checkpoints.specs.Keeping.{stable}
use Rattle.bfs_node.specs.Adopting.{Adopts, IsAdoptionRefusal}
use Rattle.bfs_node.specs.Nodes.{Node}
use Rattle.bfs_node.specs.declared.error.NodeError.{NodeError}
use Rattle.bfs_log.specs.Certificates.{StableCheckpoint}
use Rattle.bfs_cluster.specs.World.{Replica, World, node_at, with_node}

-- What is offered ----------------------------------------------------------------------------------------------------------

-- the text of a stable snapshot, and what makes it stable
abbrev pub Offer : Type 0
Offer = List ℕ × StableCheckpoint

-- above the number last executed
abbrev pub if_above : (last : ℕ) → Option Offer → Option Offer
if_above last None = None
if_above last (Some offer) = if nat_lt last offer.1.number then Some offer else None

-- a silent replica offers nothing
abbrev pub offered : (last : ℕ) → Replica → Option Offer
offered last replica = if replica.heard then if_above last (stable replica.node.snapshots) else None

abbrev pub or_else : Option Offer → Option Offer → Option Offer
or_else None other = other
or_else (Some offer) other = Some offer

-- by the lowest replica that is ahead; none is ahead of itself
abbrev pub ahead_of : (last : ℕ) → List Replica → Option Offer
ahead_of last [] = None
ahead_of last (replica ∷ rest) = or_else (offered last replica) (ahead_of last rest)

-- to a replica, if it is heard
abbrev pub offer_to : World → (number : ℕ) → Option Offer
offer_to world number = node_at world number >>= (λ node. ahead_of node.order.last world.replicas)

-- some replica is offered one
abbrev pub HasOffer : World → Type 0
HasOffer world = (number : ℕ) × IsSome (offer_to world number)

-- What it makes of it ------------------------------------------------------------------------------------------------------

-- the replica of that number adopts what it is offered
pub record Takes (world : World) (number : ℕ) (next : World) : Type 0 where
  pub node : Node
  pub node_is : node_at world number ≡ Some node
  pub offer : Offer
  pub offer_is : offer_to world number ≡ Some offer
  pub now : Node
  pub adopts : Adopts node offer.0 offer.1 now
  pub next_is : next ≡ with_node world number now

-- the replica of that number refuses what it is offered
pub record Refuses (world : World) (number : ℕ) (offer : Offer) : Type 0 where
  pub node : Node
  pub node_is : node_at world number ≡ Some node
  pub error : NodeError
  pub refusal : IsAdoptionRefusal node offer.0 offer.1 error

abbrev pub HasNoOther : World → (number : ℕ) → Option Offer → Type 0
HasNoOther world number None = Unit {0}
HasNoOther world number (Some offer) = Refuses world number offer

-- it is offered nothing, or refuses it: that message is lost
abbrev pub StaysBehind : World → (number : ℕ) → Type 0
StaysBehind world number = HasNoOther world number (offer_to world number)

abbrev pub AllStay : World → Type 0
AllStay world = (number : ℕ) → StaysBehind world number

-- the lowest replica that can adopts
pub record CatchesUp (world next : World) : Type 0 where
  pub number : ℕ
  pub lower : (k : ℕ) → k < number → StaysBehind world k
  pub takes : Takes world number next

-- Again and again ----------------------------------------------------------------------------------------------------------

-- so many times in a row
abbrev pub Times : (World → World → Type 0) → (times : ℕ) → World → World → Type 0
Times Goes zero world other = world ≡ other
Times Goes (suc times) world other = (between : World) × Times Goes times world between × Goes between other

-- once or more, until no replica can
pub record AllCatchUp (world other : World) : Type 0 where
  pub times : ℕ
  pub comes : Times CatchesUp (suc times) world other
  pub ended : AllStay other
