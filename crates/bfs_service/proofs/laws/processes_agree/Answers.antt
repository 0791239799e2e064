use Rattle.bfs_service.proofs.Processes.{processes_agree}
use Rattle.bfs_service.proofs.laws.processes_agree.Goals as goal

pub returns : goal.returns
returns c = processes_agree c.nodes_agree.ensures c.what_is_resent_was_sent.ensures.said
