-- Every list of calls and deliveries is one of which agreement is proved.
use Rattle.std.proofs.Common.{◌≡◌, ℕ, ◌==◌, Bool, true, false, cond, List, [], ◌∷◌, map, refl, sym, subst}
use Rattle.bfs_order.specs.Laws.Calls.{IsKept}
use Rattle.bfs_order.specs.Laws.Logs.{IsWindowed}
use Rattle.bfs_order.specs.Replica.States.{State}
use Rattle.bfs_agreement.specs.Histories.{IsIn, IsValidNewView, World}
use Rattle.bfs_nodes_agree.specs.Orders.Laws.{OrdersAgree}
use Rattle.bfs_nodes_agree.specs.Orders.Replicas as ordered
use Rattle.bfs_nodes_agree.specs.Orders.Replicas.{OrderReplica, OrderReplicas, call_of, histories, after_order_deed, after_order_turn, new_order_replicas, new_view, MayDoOrderDeed}
use Rattle.bfs_view_change.specs.Changes.ViewChanges.{messages_of}
use Rattle.bfs_view_change.proofs.Public.{latest_is}
use Rattle.bfs_nodes_agree.specs.Views.Changes.{told_change}
use Rattle.bfs_nodes_agree.specs.Views.Laws.{MadeTellsWhatIsPrepared, RightNewViewsAreValid, ReplicasAgree}
use Rattle.bfs_nodes_agree.specs.Views.Replicas.{ViewDeed, Orders, TimesOut, ChangesView, ordered_deed, MayDoViewDeed, ViewTurn, ordered_turn, after_view_turns, MayTakeViewTurns}

may_do : (faulty : ℕ → Bool) → MadeTellsWhatIsPrepared → RightNewViewsAreValid → (w : World) (s : State) (deed : ViewDeed) → IsWindowed s → MayDoViewDeed faulty w s deed → MayDoOrderDeed faulty w s (ordered_deed s deed)
may_do faulty made valid w s (Orders call) windowed may = may
may_do faulty made valid w s (TimesOut view) windowed may = made s view windowed
may_do faulty made valid w s (ChangesView keys view changes handed) windowed may =
    let right = valid faulty w s view changes handed may in
    let chs = messages_of changes in
    (right.0, subst (λ (min_s : ℕ). IsValidNewView s.f faulty w (new_view view min_s handed (map told_change chs))) (sym (latest_is chs)) right.1)

abbrev pub AreWindowed : OrderReplicas → Type 0
AreWindowed w = (i : ℕ) → IsWindowed (w i).state

windowed_on : IsKept IsWindowed → (w : OrderReplicas) (turn : ordered.OrderTurn) → AreWindowed w → AreWindowed (after_order_turn w turn)
windowed_on kept w turn all j = go (j == turn.who)
  where
    r : OrderReplica
    r = after_order_deed (w turn.who) turn.deed

    go : (b : Bool) → IsWindowed (cond b r (w j)).state
    go true = kept.1 (w turn.who).state (call_of turn.deed) (all turn.who)
    go false = all j

pub ordered_turns : (faulty : ℕ → Bool) → IsKept IsWindowed → MadeTellsWhatIsPrepared → RightNewViewsAreValid → (turns : List ViewTurn) (w : OrderReplicas) → AreWindowed w → MayTakeViewTurns faulty w turns
    → (list : List ordered.OrderTurn) × ordered.MayTakeOrderTurns faulty w list × (ordered.after_order_turns w list ≡ after_view_turns w turns)
ordered_turns faulty kept made valid [] w all may = ([], tt, refl)
ordered_turns faulty kept made valid (turn ∷ turns) w all may =
    let first = ordered_turn w turn in
    let rest = ordered_turns faulty kept made valid turns (after_order_turn w first) (windowed_on kept w first all) may.1 in
    (first ∷ rest.0, (may_do faulty made valid (histories w) (w turn.who).state turn.deed (all turn.who) may.0, rest.1), rest.2)

pub replicas_agree : IsKept IsWindowed → OrdersAgree → MadeTellsWhatIsPrepared → RightNewViewsAreValid → ReplicasAgree
replicas_agree kept agree made valid f faulty turns few may i j one other left right number =
    let got = ordered_turns faulty kept made valid turns (new_order_replicas f) (λ k. kept.0 f k) may in
    agree f faulty got.0 few got.1 i j one other (subst (λ (w : OrderReplicas). IsIn one (w i).executed) (sym got.2) left) (subst (λ (w : OrderReplicas). IsIn other (w j).executed) (sym got.2) right) number
