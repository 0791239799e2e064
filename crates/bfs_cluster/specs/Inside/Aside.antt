-- What replicas come to that are busy side by side.
use Rattle.std.specs.Prelude.{◌≡◌, ◌<◌, ℕ, Bool, true, false, List, [], ◌∷◌, ◌++◌, length, map, Some, None, Ok, OnOk, ⊤}
use Rattle.std.specs.List.{fold}
use Rattle.bfs_node.specs.Advancing.{advancing}
use Rattle.bfs_node.specs.Nodes.{Messages, Node}
use Rattle.bfs_cluster.specs.Inside.Acts.{Acts, doing}
use Rattle.bfs_cluster.specs.Inside.Requests.{with_requests}
use Rattle.bfs_cluster.specs.Steps.{ExecutesAt, after, step}
use Rattle.bfs_cluster.specs.World.{Replica, World, posted}
use Rattle.bfs_cluster.specs.declared.side_by_side.Busy.{Busy}

-- one batch after the other was executed, and that was sent behind each; `Executes` held before each
abbrev pub Ran : (Executes : Node → Type 0) → (sent : List Messages) → (old new : Replica) → Type 0
Ran Executes [] old new = new ≡ old
Ran Executes (first ∷ rest) old new =
    (between : Replica) × Acts (doing advancing old) old between (Some first) × Executes old.node × Ran Executes rest between new

-- all that were ready
abbrev pub RunsOut : (Executes : Node → Type 0) → (sent : List Messages) → (old new : Replica) → Type 0
RunsOut Executes sent old new = Ran Executes sent old new × (doing advancing new ≡ None)

abbrev pub sent_by : Busy → List Messages
sent_by one = map (λ sent. sent.items) one.sent.items

-- there was memory for all
abbrev pub AreBack : List Busy → Type 0
AreBack [] = ⊤
AreBack (one ∷ rest) = (one.came ≡ Ok tt) × AreBack rest

-- it has executed, if there was memory
abbrev pub CameOut : (Executes : Node → Type 0) → (old new : Busy) → Type 0
CameOut Executes old new = OnOk new.came (RunsOut Executes (sent_by new) old.replica new.replica)

-- requests came to it, if there was memory, and it sends what it was to send before
abbrev pub CameTo : Messages → (old new : Busy) → Type 0
CameTo messages old new = OnOk new.came (new.replica ≡ with_requests messages old.replica) × (new.sent ≡ old.sent)

abbrev pub posted_all : (sender : ℕ) → World → List Messages → World
posted_all sender world all = fold (fold (posted sender)) world all

-- a replica is in the world again, behind the others, and what it sends is posted
abbrev pub back : World → Busy → World
back world one = posted_all (length world.replicas) (record world { replicas = world.replicas ++ one.replica ∷ [] }) (sent_by one)

-- `Executes` holds before each batch that is executed in so many steps
abbrev pub ExecutesIn : (Executes : Node → Type 0) → World → (steps : ℕ) → Type 0
ExecutesIn Executes world steps = (k : ℕ) → k < steps → ExecutesAt Executes (after k world)

-- the world comes to the other one by some number of steps
pub record Comes (Executes : Node → Type 0) (world other : World) : Type 0 where
  pub steps : ℕ
  pub comes : after steps world ≡ other
  pub executes : ExecutesIn Executes world steps

-- steps were made, or none is left
abbrev pub Goes : (Executes : Node → Type 0) → (went : Bool) → (old new : World) → Type 0
Goes Executes true old new = Comes Executes old new
Goes Executes false old new = (new ≡ old) × (step old ≡ None)
