use Rattle.std.proofs.Common.{◌≡◌, None, subst}
use Rattle.std.specs.Option.{option_map}
use Rattle.bfs_view_change.specs.Changes.NewViews.{ground_refusal}
use Rattle.bfs_node.specs.Errors.{of_view}
use Rattle.bfs_node.specs.Nodes.{Node}
use Rattle.bfs_node.proofs.Entering.{ground_none, if_err}
use Rattle.bfs_node.proofs.node.Node.take_new_view.Goals as goal

pub returns-in_err-stable-clause-memory : goal.returns-in_err-stable-clause-memory
returns-in_err-stable-clause-memory c =
    if_err c.from_residual-in_err-stable.result _ (option_map of_view (ground_refusal c.args.self.now.keys c.args.signed) ≡ None)
    (subst (λ (n : Node). option_map of_view (ground_refusal n.keys c.args.signed) ≡ None) c.self.view_is (ground_none c.self.inside.keys c.args.signed c.in_ok-_choice.ensures.taken))

pub returns-in_err-enter_by-clause-memory : goal.returns-in_err-enter_by-clause-memory
returns-in_err-enter_by-clause-memory c =
    if_err c.from_residual-in_err-enter_by.result _ (option_map of_view (ground_refusal c.args.self.now.keys c.args.signed) ≡ None)
    (subst (λ (n : Node). option_map of_view (ground_refusal n.keys c.args.signed) ≡ None) c.self.view_is (ground_none c.self.inside.keys c.args.signed c.in_ok-_choice.ensures.taken))
