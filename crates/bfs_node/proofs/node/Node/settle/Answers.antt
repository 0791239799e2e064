-- What is shown by the keys makes its checkpoint stable, among as many replicas as before.
use Rattle.std.proofs.Common.{◌≡◌, ◌∙◌, ℕ, sym, ap, subst}
use Rattle.std.proofs.lemmas.Bool.{and_parts}
use Rattle.bfs_log.specs.Certificates.{MakesStable, is_shown}
use Rattle.bfs_node.specs.Nodes.{Node}
use Rattle.bfs_node.proofs.node.Node.settle.Goals as goal

pub settle_snapshots-requires : goal.settle_snapshots-requires
settle_snapshots-requires c =
    let may = sym c.may_settle.ensures ∙ c.if-not-may_settle.false in
    let stable = c.certificates_make_checkpoints_stable.ensures c.args.self.now.keys c.args.self.now.order.f c.args.checkpoint.now
    (and_parts (is_shown c.args.self.now.keys c.args.self.now.order.f c.args.checkpoint.now) _ may).0 in
    let now = ap (λ (n : Node). n.order.f) (c.install.ensures.now c.if-not-install.false) in
    let view = ap (λ (n : Node). n.order.f) c.self.view_is in
    let same : c.args.self.now.order.f ≡ c.install.new.self.order.f = cc in
    subst (λ (f : ℕ). MakesStable f c.in_ok-copy.copy) same (subst (MakesStable c.args.self.now.order.f) (sym c.in_ok-copy.ensures) stable)
