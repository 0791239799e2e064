-- The keeping of snapshots and the order are of one number of faulty replicas.
use Rattle.std.proofs.Common.{◌∙◌, ℕ, sym, ap, subst}
use Rattle.std.proofs.lemmas.Bool.{and_parts}
use Rattle.bfs_checkpoints.specs.Keeping.{Keeping}
use Rattle.bfs_log.specs.Certificates.{MakesStable, is_shown}
use Rattle.bfs_node.specs.Nodes.{Node}
use Rattle.bfs_node.proofs.node.Node.hold.Goals as goal

pub settle-requires : goal.settle-requires
settle-requires c =
    let order = c.self.inside.order in
    let faults = ap (λ (node : Node). node.snapshots.f) (c.self-2.view_is ∙ c.install.ensures.now c.if-not-install.false)
    ∙ ap (λ (snapshots : Keeping). snapshots.f) c.in_ok-push.ensures.ok ∙ c.self.invariant.faults in
    subst (λ (f : ℕ). MakesStable f c.in_ok-copy.copy) (sym faults)
    (subst (MakesStable order.f) (sym c.in_ok-copy.ensures)
    (c.certificates_make_checkpoints_stable.ensures c.self.inside.keys order.f c.args.checkpoint.now
    (and_parts (is_shown c.self.inside.keys order.f c.args.checkpoint.now) _ (rw (← c.self.view_is) at c.requires.may)).0))
