-- Of all that a node gave to be sent one message is of each place that is no vote's.
use Rattle.std.proofs.Common.{◌≡◌, [], Some, inl, inr, refl, sym, subst, ◌∙◌}
use Rattle.bfs_auth.specs.declared.places.Place.{Place}
use Rattle.bfs_messages.specs.declared.message.Message.{Message}
use Rattle.bfs_messages.specs.declared.signed.Signed.{Signed}
use Rattle.bfs_order.specs.Laws.Calls.{CallsKeepTheReplica}
use Rattle.bfs_order.specs.Replica.States.{State}
use Rattle.bfs_node.specs.Nodes.{Node}
use Rattle.bfs_agreement.specs.Histories.{IsIn}
use Rattle.bfs_nodes_agree.specs.Orders.Replicas.{OrderReplica}
use Rattle.bfs_nodes_agree.specs.Nodes.Replicas.{NodeReplica, after_node_step}
use Rattle.bfs_nodes_agree.specs.Nodes.Steps.{NodeStep, deeds_of, outcome}
use Rattle.bfs_nodes_agree.proofs.Public.{IsBounded, either_in, stays_kept, step_leads}
use Rattle.bfs_places.proofs.Places.{place_of}
use Rattle.bfs_places.proofs.Fresh.{IsLone, step_fresh}
use Rattle.bfs_places.proofs.Spent.{IsSpent, spent_on}

pub record Once (r : NodeReplica) : Type 0 where
  pub spent : (s : Signed Message) (place : Place) → IsIn s r.sent → place_of s.message ≡ Some place → IsLone place → IsSpent r.node.order place
  pub one : (s t : Signed Message) (place : Place) → IsIn s r.sent → IsIn t r.sent → place_of s.message ≡ Some place → place_of t.message ≡ Some place → IsLone place → s.message ≡ t.message

step_spent : CallsKeepTheReplica → (node : Node) (step : NodeStep) → IsBounded node.order → (place : Place) → IsSpent node.order place → IsSpent (outcome node step).now.order place
step_spent same node step bounded place spent =
    let o : OrderReplica = record { state = node.order; sent = []; offers = []; changes = []; executed = [] } in
    subst (λ (s : State). IsSpent s place) (step_leads node step bounded o refl).0 (stays_kept (λ (s : State). IsSpent s place) (spent_on same place) (deeds_of node step) o spent)

pub once_on : CallsKeepTheReplica → (r : NodeReplica) (step : NodeStep) → IsBounded r.node.order → Once r → Once (after_node_step r step)
once_on same r step bounded once =
    let fresh = step_fresh r.node step bounded in
    let new = (outcome r.node step).sent in
    record {
      spent = λ s place i is lone. elim (either_in new r.sent s i) [
        | inl j ↦ (fresh.each s j place is lone).1.1
        | inr j ↦ step_spent same r.node step bounded place (once.spent s place j is lone)
      ];
      one = λ s t place i j is also lone. elim (either_in new r.sent s i) [
        | inl a ↦ elim (either_in new r.sent t j) [
          | inl b ↦ (fresh.each s a place is lone).0 ∙ sym (fresh.each t b place also lone).0
          | inr b ↦ absurd ((fresh.each s a place is lone).1.0 (once.spent t place b also lone))
        ]
        | inr a ↦ elim (either_in new r.sent t j) [
          | inl b ↦ absurd ((fresh.each t b place also lone).1.0 (once.spent s place a is lone))
          | inr b ↦ once.one s t place a b is also lone
        ]
      ];
    }
