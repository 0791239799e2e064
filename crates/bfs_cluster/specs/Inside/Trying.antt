-- What comes of a try to catch up.
use Rattle.std.specs.Prelude.{◌≡◌, ℕ, Bool, true, false, List}
use Rattle.bfs_node.specs.Adopting.{Adopts, IsAdoptionRefusal}
use Rattle.bfs_node.specs.declared.error.NodeError.{NodeError}
use Rattle.bfs_cluster.specs.CatchingUp.{AllCatchUp, AllStay, CatchesUp, StaysBehind, Takes}
use Rattle.bfs_cluster.specs.World.{Replica, World}
use Rattle.bfs_log.specs.Certificates.{StableCheckpoint}

-- a replica adopts, or refuses to
abbrev pub Tries : (took : Bool) → (old : Replica) → (text : List ℕ) → StableCheckpoint → (new : Replica) → Type 0
Tries true old text checkpoint new = Adopts old.node text checkpoint new.node × (new.heard ≡ old.heard)
Tries false old text checkpoint new = ((error : NodeError) × IsAdoptionRefusal old.node text checkpoint error) × (new ≡ old)

-- the replica of that number adopts what it is offered, or stays behind
abbrev pub TakesIf : (took : Bool) → World → (number : ℕ) → World → Type 0
TakesIf true world number next = Takes world number next
TakesIf false world number next = StaysBehind world number × (next ≡ world)

-- one catches up, or none can
abbrev pub CatchesUpIf : (caught : Bool) → World → World → Type 0
CatchesUpIf true world next = CatchesUp world next
CatchesUpIf false world next = AllStay world × (next ≡ world)

-- all catch up that can, or none can
abbrev pub AllCatchUpIf : (any : Bool) → World → World → Type 0
AllCatchUpIf true world next = AllCatchUp world next
AllCatchUpIf false world next = AllStay world × (next ≡ world)
