-- What a replica's calls and a cluster's steps come to.
use Rattle.std.specs.Prelude.{◌≡◌, ℕ, true, Option, Some, None}
use Rattle.std.specs.List.{fold}
use Rattle.bfs_model.specs.Bytes.Call.{◌>>=◌}
use Rattle.bfs_messages.specs.declared.message.Message.{Message}
use Rattle.bfs_messages.specs.declared.signed.Signed.{Signed}
use Rattle.bfs_node.specs.Delivering.{early_refusal}
use Rattle.bfs_node.specs.Nodes.{Messages, Node, Outcome}
use Rattle.bfs_cluster.specs.Blocks.{proposal}
use Rattle.bfs_cluster.specs.Timeouts.{timing_out, waiting_proposal}
use Rattle.bfs_cluster.specs.World.{Replica, World, done_if, node_at, node_if_heard, posted}
use Rattle.bfs_cluster.specs.declared.acts.Act.{Act}
use Rattle.bfs_cluster.specs.declared.acts.Act.TheVariants as act

-- what a replica does that is told to
abbrev pub deed : Act → Node → Option Outcome
deed (act.Propose time) = proposal time
deed (act.ProposeWaiting time) = waiting_proposal time
deed act.TimeOut = timing_out

-- as the one of that number, if it is heard
abbrev pub deed_at : Act → World → (number : ℕ) → Option Outcome
deed_at act world number = node_at world number >>= deed act

abbrev pub acting : Act → World → (number : ℕ) → World
acting act world number = done_if number world (deed_at act world number)

-- what a replica that is heard does
abbrev pub doing : (act : Node → Option Outcome) → Replica → Option Outcome
doing act replica = node_if_heard (Some replica) >>= act

-- a replica that is heard has done that and sent that; or it did nothing
abbrev pub Acts : (done : Option Outcome) → (old new : Replica) → (sent : Option Messages) → Type 0
Acts None old new sent = (new ≡ old) × (sent ≡ None)
Acts (Some done) old new sent = (new ≡ record { heard = true; node = done.now }) × (sent ≡ Some done.sent)

-- it is heard, and refuses that message for nothing but the proposals of a new view
abbrev pub MayTake : Signed Message → Replica → Type 0
MayTake signed replica = (replica.heard ≡ true) × (early_refusal replica.node signed ≡ None)

-- all that is sent, if anything is
abbrev pub posted_if : (sender : ℕ) → World → Option Messages → World
posted_if sender world None = world
posted_if sender world (Some sent) = fold (posted sender) world sent
