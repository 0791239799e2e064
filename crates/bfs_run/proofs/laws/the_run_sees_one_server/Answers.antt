use Rattle.bfs_node.specs.Executing.{Runs}
use Rattle.bfs_run.proofs.Seeing.{the_run}
use Rattle.bfs_run.proofs.laws.the_run_sees_one_server.Goals as goal

pub returns : goal.returns
returns g c engine settings liar =
    the_run c.clients_see_one_server.ensures c.what_was_sent_is_authentic.ensures.sent c.what_was_sent_is_authentic.ensures.run c.a_replica_stays_itself.ensures settings liar (Runs g.G.Gate.ran engine)
