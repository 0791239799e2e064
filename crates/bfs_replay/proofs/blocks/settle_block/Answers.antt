use Rattle.std.proofs.Common.{◌∙◌, ap, ap₂, subst}
use Rattle.std.specs.Prelude.{IfOk}
use Rattle.std.specs.List.{filter_map}
use Rattle.bfs_clients.specs.Clients.{signed_request}
use Rattle.bfs_cluster.specs.Blocks.{with_block}
use Rattle.bfs_cluster.specs.World.{World}
use Rattle.bfs_node.specs.Nodes.{Messages}
use Rattle.bfs_model.specs.Server.Tree.{Time}
use Rattle.bfs_node.specs.Executing.{Runs}
use Rattle.bfs_replay.specs.Inside.Settling.{SettlesAnd}
use Rattle.bfs_replay.proofs.Running.{signed_alike}
use Rattle.bfs_replay.proofs.blocks.settle_block.Goals as goal

pub returns : goal.returns
returns g c =
    let clients = c.args.clients.now in
    subst (λ (world : World). IfOk c.settle.result (λ replies. SettlesAnd (Runs g.G.Gate.ran c.args.means.now.executor.engine) world c.settle.new.cluster replies.items))
    (c.in_ok-send_block.ensures.ok
    ∙ ap₂ (λ (time : Time) (requests : Messages). with_block c.args.cluster.now time requests) c.time.ensures
    (c.deref-2.ensures.value ∙ c.in_ok-signed.ensures ∙ ap (filter_map (signed_request clients)) (c.deref.ensures.value ∙ c.in_ok-requests.ensures) ∙ signed_alike clients c.args.block.now.requests))
    c.settle.ensures
