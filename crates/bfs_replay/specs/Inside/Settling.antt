-- What becomes of replicas until all has settled, and the replies that they send meanwhile.
use Rattle.std.specs.Prelude.{◌≡◌, ℕ, [], Option}
use Rattle.bfs_cluster.specs.Standings.{common_view}
use Rattle.bfs_cluster.specs.Steps.{Settles}
use Rattle.bfs_cluster.specs.Timeouts.{with_timeout, with_waiting}
use Rattle.bfs_cluster.specs.World.{World}
use Rattle.bfs_model.specs.Server.Tree.{Time}
use Rattle.bfs_node.specs.Nodes.{Messages, Node}

-- all settles, and the replies are taken
pub record SettlesAnd (Executes : Node → Type 0) (world next : World) (replies : Messages) : Type 0 where
  pub settled : World
  pub settles : Settles Executes world settled
  pub next_is : next ≡ record settled { replies = [] }
  pub replies_are : replies ≡ settled.replies

-- at a timeout: the view that 2f + 1 replicas are in, once they have asked for it, and the replies
pub record TimesOut (Executes : Node → Type 0) (time : Time) (world next : World) (view : Option ℕ) (replies : Messages) : Type 0 where
  pub asked : World
  pub asks : Settles Executes (with_timeout world) asked
  pub goes_on : SettlesAnd Executes (with_waiting asked time) next replies
  pub view_is : view ≡ common_view asked
