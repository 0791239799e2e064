use Rattle.std.proofs.Common.{Ok, sym, subst}
use Rattle.bfs_nodes_agree.specs.Nodes.Performing.{Performs}
use Rattle.bfs_nodes_agree.specs.declared.node_calls.performing.NodeCall.{NodeCall}
use Rattle.bfs_nodes_agree.specs.declared.node_calls.performing.Sent.TheVariants.{Nothing}
use Rattle.bfs_nodes_agree.proofs.Nodes.Spelled.{adopts_spelled}
use Rattle.bfs_nodes_agree.proofs.node_calls.performing.perform.Goals as goal

pub returns-in_ok-adopt-in-Adopt : goal.returns-in_ok-adopt-in-Adopt
returns-in_ok-adopt-in-Adopt g c =
    subst (λ (call : NodeCall). Performs c.args.node.now call (Ok Nothing) c.adopt.new.self) (sym c.in-Adopt.is)
    (adopts_spelled c.args.node.now c.adopt.new.self c.in-Adopt.text.now c.in-Adopt.certificate.now c.in_ok-adopt-in-Adopt.ensures.now)
