-- Every list of calls is one of moves.
use Rattle.std.proofs.Common.{◌≡◌, ℕ, ◌==◌, Bool, true, false, cond, List, [], ◌∷◌, ◌++◌, refl, sym, subst, ◌∙◌, arith}
use Rattle.std.proofs.lemmas.Bool.{eqb-true}
use Rattle.bfs_votes.specs.Votes.{says}
use Rattle.bfs_log.specs.Headers.{header}
use Rattle.bfs_log.specs.Logs.{headers}
use Rattle.bfs_order.specs.Replica.States as order
use Rattle.bfs_order.specs.Replica.Views.{number_of}
use Rattle.bfs_order.specs.Laws.Calls.{Takes, Proposes, Executes, Checkpoints, Installs, Leaves, Enters, CallsKeepTheReplica}
use Rattle.bfs_agreement.specs.Histories.{IsIn, ViewChange, World, History}
use Rattle.bfs_agreement.specs.Moves.{Move, Step, AreAllowed, after_step, after_steps, with_history, new_world}
use Rattle.bfs_agreement.specs.Calls.{steps_of}
use Rattle.bfs_agreement.specs.Nodes.{after_moves}
use Rattle.bfs_agreement.specs.Laws.{MovesAgree}
use Rattle.bfs_agreement.proofs.Public.{Grows, new_view_on, run_at, said_on}
use Rattle.bfs_nodes_agree.specs.Orders.Following.{Follows}
use Rattle.bfs_nodes_agree.specs.Orders.Laws.{DeedsAreMoves, OrderedBatchesAgree, OrdersAgree}
use Rattle.bfs_nodes_agree.specs.Orders.Replicas.{OrderReplica, OrderDeed, Orders, TimesOut, ChangesView, call_of, after_order_deed, new_view, MayDoOrderDeed, OrderReplicas, histories, with_replica, new_order_replicas, OrderTurn, after_order_turn, after_order_turns, MayTakeOrderTurns}
use Rattle.bfs_nodes_agree.proofs.Orders.Taking.{takes, checkpoints, installs}
use Rattle.bfs_nodes_agree.proofs.Orders.Deeds.{proposes, executes, leaves}
use Rattle.bfs_nodes_agree.proofs.Orders.Entering.{enters}

pub deeds_are_moves : DeedsAreMoves
deeds_are_moves faulty w r (Orders (Takes keys m)) follows may = takes faulty w r keys m follows may
deeds_are_moves faulty w r (Orders (Proposes keys batch)) follows may = proposes faulty w r keys batch follows
deeds_are_moves faulty w r (Orders Executes) follows may = executes faulty w r follows
deeds_are_moves faulty w r (Orders (Checkpoints keys n d)) follows may = checkpoints faulty w r keys n d follows
deeds_are_moves faulty w r (Orders (Installs keys certificate)) follows may = installs faulty w r keys certificate follows
deeds_are_moves faulty w r (Orders (Leaves view)) follows may = absurd may
deeds_are_moves faulty w r (Orders (Enters keys view stable handed)) follows may = absurd may
deeds_are_moves faulty w r (TimesOut change) follows may = leaves faulty w r change follows may
deeds_are_moves faulty w r (ChangesView keys view stable handed changes) follows may = enters faulty w r keys view stable handed changes follows may.0 may.1

-- Worlds ------------------------------------------------------------------------------------------------------------------

pub record IsFollowedAt (f : ℕ) (r : OrderReplica) (p : History) (i : ℕ) : Type 0 where
  pub follows : Follows r p
  pub same_f : r.state.f ≡ f
  pub same_me : r.state.me ≡ i

abbrev pub IsFollowed : (f : ℕ) → OrderReplicas → World → Type 0
IsFollowed f w t = (i : ℕ) → IsFollowedAt f (w i) (t i) i

pub grows_there : (r : OrderReplica) (p q : History) → Follows r q → Grows (record p { sent = headers r.sent; offers = headers r.offers; changes = r.changes }) q
grows_there r p q follows =
    record {
      sent = λ t k v n d x. sym (follows.sent (says t k v n d)) ∙ x;
      offers = λ t k v n d x. sym (follows.offers (says t k v n d)) ∙ x;
      changes = λ m x. subst (λ (l : List ViewChange). IsIn m l) follows.changes x;
    }

may_there : (faulty : ℕ → Bool) (w t : World) → ((k : ℕ) → Grows (w k) (t k)) → (s : order.State) (deed : OrderDeed) → MayDoOrderDeed faulty w s deed → MayDoOrderDeed faulty t s deed
may_there faulty w t on s (Orders (Takes keys m)) may = λ none small. said_on faulty w t on (header m).tag (header m).sender (header m).view (header m).number (header m).digest (may none small)
may_there faulty w t on s (ChangesView keys view stable handed changes) may = (may.0, new_view_on s.f faulty w t (new_view view (number_of stable) handed changes) on may.1)
may_there faulty w t on s deed may = may

allowed_both : (f : ℕ) (faulty : ℕ → Bool) (t : World) (xs ys : List Step) → AreAllowed f faulty t xs → AreAllowed f faulty (after_steps f t xs) ys → AreAllowed f faulty t (xs ++ ys)
allowed_both f faulty t [] ys a b = b
allowed_both f faulty t (x ∷ xs) ys a b = (a.0, allowed_both f faulty (after_step f t x) xs ys a.1 b)

after_both : (f : ℕ) (t : World) (xs ys : List Step) → after_steps f t (xs ++ ys) ≡ after_steps f (after_steps f t xs) ys
after_both f t [] ys = refl
after_both f t (x ∷ xs) ys = after_both f (after_step f t x) xs ys

-- one replica's deed
turn_moves : (f : ℕ) (faulty : ℕ → Bool) → DeedsAreMoves → (r : OrderReplica) (t : World) (i : ℕ) (deed : OrderDeed) → IsFollowedAt f r (t i) i → MayDoOrderDeed faulty t r.state deed
    → (moves : List Move) × AreAllowed f faulty t (steps_of i moves) × Follows (after_order_deed r deed) (after_moves f i (t i) moves)
turn_moves f faulty moved r t i deed at may =
    subst (λ (g : ℕ). (moves : List Move) × AreAllowed g faulty t (steps_of i moves) × Follows (after_order_deed r deed) (after_moves g i (t i) moves)) at.same_f
    (subst (λ (k : ℕ). (moves : List Move) × AreAllowed r.state.f faulty t (steps_of k moves) × Follows (after_order_deed r deed) (after_moves r.state.f k (t k) moves)) at.same_me
    (moved faulty t r deed (subst (λ (k : ℕ). Follows r (t k)) (sym at.same_me) at.follows) may))

-- and all others stay as they are
followed_on : (f : ℕ) (w : OrderReplicas) (t : World) (i : ℕ) (r : OrderReplica) (p : History) → IsFollowed f w t → IsFollowedAt f r p i → IsFollowed f (with_replica w i r) (with_history t i p)
followed_on f w t i r p all at j = (elim (j == i) as (λ b. (j == i) ≡ b → IsFollowedAt f (cond b r (w j)) (cond b p (t j)) j) [
  | true ↦ λ e. subst (λ (k : ℕ). IsFollowedAt f r p k) (sym (eqb-true j i e)) at
  | false ↦ λ _. all j
]) refl

pub all_turns : (f : ℕ) (faulty : ℕ → Bool) → DeedsAreMoves → CallsKeepTheReplica → (turns : List OrderTurn) (w : OrderReplicas) (t : World) → IsFollowed f w t → MayTakeOrderTurns faulty w turns
    → (steps : List Step) × AreAllowed f faulty t steps × IsFollowed f (after_order_turns w turns) (after_steps f t steps)
all_turns f faulty moved same [] w t all may = ([], tt, all)
all_turns f faulty moved same (turn ∷ turns) w t all may =
    let i = turn.who in
    let at = all i in
    let there = may_there faulty (histories w) t (λ k. grows_there (w k) (histories w k) (t k) (all k).follows) (w i).state turn.deed may.0 in
    let got = turn_moves f faulty moved (w i) t i turn.deed at there in
    let kept = same (w i).state (call_of turn.deed) in
    let p = after_moves f i (t i) got.0 in
    let now : IsFollowedAt f (after_order_deed (w i) turn.deed) p i = record { follows = got.2; same_f = kept.0 ∙ at.same_f; same_me = kept.1 ∙ at.same_me } in
    let then = subst (λ (x : World). IsFollowed f (after_order_turn w turn) x) (sym (run_at f t i got.0)) (followed_on f w t i (after_order_deed (w i) turn.deed) p all now) in
    let rest = all_turns f faulty moved same turns (after_order_turn w turn) (after_steps f t (steps_of i got.0)) then may.1 in (
      steps_of i got.0 ++ rest.0,
      allowed_both f faulty t (steps_of i got.0) rest.0 got.1 rest.1,
      subst (λ (x : World). IsFollowed f (after_order_turns (after_order_turn w turn) turns) x) (sym (after_both f t (steps_of i got.0) rest.0)) rest.2,
    )

pub new_followed : (f : ℕ) → IsFollowed f (new_order_replicas f) new_world
new_followed f i =
    record {
      follows = record {
        state = record { view = refl; asked = refl; low = refl; min_s = refl; handed = refl; entered = omega arith; views = λ h x. absurd x; log = λ test votes. refl };
        sent = λ test. refl;
        offers = λ test. refl;
        changes = refl;
        executed = λ h x. absurd x;
      };
      same_f = refl;
      same_me = refl;
    }

pub orders_agree : MovesAgree → DeedsAreMoves → CallsKeepTheReplica → OrdersAgree
orders_agree agree moved same f faulty turns few may i j one other left right number =
    let all = all_turns f faulty moved same turns (new_order_replicas f) new_world (new_followed f) may in
    agree f faulty all.0 few all.1 i j (header one) (header other) ((all.2 i).follows.executed one left) ((all.2 j).follows.executed other right) number

pub batches_agree : OrdersAgree → OrderedBatchesAgree
batches_agree agree f faulty turns few may i j one other batch batch' left right number first second differ =
    differ (sym first.1 ∙ agree f faulty turns few may i j one other left right number ∙ second.1)
