use Rattle.bfs_node.specs.Executing.{Runs}
use Rattle.bfs_cluster.proofs.Once.{settles_once}
use Rattle.bfs_cluster.proofs.laws.a_world_settles_once.Goals as goal

pub returns : goal.returns
returns g c first second =
    settles_once c.a_text_spells_one_node.ensures c.live_nodes_are_read_again.ensures (Runs g.First.Gate.ran first) (Runs g.Second.Gate.ran second)
