use Rattle.bfs_nodes_agree.proofs.Nodes.Turns.{steps_are_turns}
use Rattle.bfs_nodes_agree.proofs.node_calls.laws.steps_are_turns.Goals as goal

pub returns : goal.returns
returns c = steps_are_turns
