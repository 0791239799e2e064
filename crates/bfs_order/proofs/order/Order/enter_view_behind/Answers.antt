use Rattle.std.proofs.Common.{ℕ, ap₂, ◌∙◌}
use Rattle.std.specs.Option.{option_map}
use Rattle.bfs_order.specs.Replica.States.{State}
use Rattle.bfs_order.specs.Replica.Views.{all_taken_over, as_proposals, opened}
use Rattle.bfs_order.proofs.Entering.{risen_stable}
use Rattle.bfs_order.proofs.order.Order.enter_view_behind.Goals as goal

pub returns-in-Ok-clause-raised : goal.returns-in-Ok-clause-raised
returns-in-Ok-clause-raised c =
    let proposals = as_proposals c.args.handed.items in
    let now_is = c.in-Ok.ensures.now
    ∙ ap₂ (λ (s : State) (min_s : ℕ). (all_taken_over c.args.keys.now (opened s c.args.view min_s c.args.handed.items) proposals).now) c.in_ok-before.ensures.now c.number_of.ensures.value in
    risen_stable c.args.keys.now c.args.self.now c.begin_in.new.self c.args.view (option_map (λ checkpoint. checkpoint.now) c.args.stable) c.args.handed.items now_is
