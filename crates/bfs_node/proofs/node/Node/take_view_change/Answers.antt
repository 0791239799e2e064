use Rattle.std.proofs.Common.{◌∙◌, ◌++◌, ℕ, ap}
use Rattle.bfs_node.specs.Changing.{with_view_change}
use Rattle.bfs_node.specs.Inside.Asking.{asking}
use Rattle.bfs_node.specs.Nodes.{Messages, Node}
use Rattle.bfs_node.proofs.node.Node.take_view_change.Goals as goal

pub returns-clause-now : goal.returns-clause-now
returns-clause-now c =
    c.in_ok-keep.ensures.now ∙ ap (λ (view : ℕ). (with_view_change (asking c.args.self.now view) c.args.signed).now) (c.asked-asked.ensures.value ∙ ap (λ (n : Node). n.order.asked) c.self.view_is)

pub returns-clause-sent : goal.returns-clause-sent
returns-clause-sent c =
    c.in_ok-keep.ensures.sent ∙ ap (λ (first : Messages). first ++ (with_view_change (asking c.args.self.now c.asked-asked.result) c.args.signed).sent) c.new-first.ensures.items
    ∙ ap (λ (view : ℕ). (with_view_change (asking c.args.self.now view) c.args.signed).sent) (c.asked-asked.ensures.value ∙ ap (λ (n : Node). n.order.asked) c.self.view_is)
