use Rattle.std.proofs.Common.{◌≡◌, ◌∙◌, ap}
use Rattle.bfs_messages.specs.declared.message.Message.{Message}
use Rattle.bfs_messages.specs.declared.signed.Signed.{Signed}
use Rattle.bfs_cluster.specs.Steps.{delivery, handed}
use Rattle.bfs_cluster.proofs.Acting.{goes_on}
use Rattle.bfs_cluster.proofs.cluster.Cluster.request.Goals as goal

pub loop-number-preserved : goal.loop-number-preserved
loop-number-preserved g c =
    let same : c.in_ok-copy.copy ≡ c.args.signed.now = c.in_ok-copy.ensures in
    goes_on (delivery c.args.signed.now) c.args.self.now c.loop-number.self c.hand.new.self c.loop-number.number
    (c.in_ok-hand.ensures ∙ ap (λ (signed : Signed Message). handed signed c.loop-number.self c.loop-number.number) same) c.loop-number.invariant
