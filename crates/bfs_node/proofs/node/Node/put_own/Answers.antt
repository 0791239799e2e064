use Rattle.std.proofs.Common.{◌∙◌, ap}
use Rattle.bfs_node.specs.Nodes.{Node}
use Rattle.bfs_node.proofs.node.Node.put_own.Goals as goal

pub returns-clause-live : goal.returns-clause-live
returns-clause-live c = λ files is. c.put_state.ensures.live files (ap (λ (node : Node). node.files) c.self.view_is ∙ is)
