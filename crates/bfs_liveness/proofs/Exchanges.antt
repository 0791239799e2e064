-- In an exchange all that members have said in their view comes to each other one.
use Rattle.std.proofs.Common.{◌≡◌, ℕ, ◌+◌, ◌<◌, ◌≤◌, ◌==◌, Bool, true, false, cond, ◌&&◌, not, List, [], ◌∷◌, inl, inr, refl, sym, ap, subst, ◌∙◌, arith}
use Rattle.std.specs.List.{range_with_len}
use Rattle.std.proofs.lemmas.Bool.{and_from, and_parts}
use Rattle.bfs_log.specs.Headers.{header}
use Rattle.bfs_messages.specs.Signing.{as_message}
use Rattle.bfs_messages.specs.declared.message.Message.TheVariants.{Order}
use Rattle.bfs_messages.specs.declared.order_messages.OrderMessage.{OrderMessage}
use Rattle.bfs_messages.specs.declared.signed.Signed.{Signed}
use Rattle.bfs_model.specs.Server.Limits.{log_size}
use Rattle.bfs_order.specs.Replica.Resending.{own_answers, own_message, own_votes}
use Rattle.bfs_order.specs.Replica.States.{State}
use Rattle.bfs_order.specs.declared.resending.Lag.{Lag}
use Rattle.bfs_votes.specs.Votes.{replicas}
use Rattle.bfs_agreement.specs.Histories.{IsIn}
use Rattle.bfs_nodes_agree.specs.Nodes.Replicas.{NodeReplicas, NodeTurn, after_node_turn}
use Rattle.bfs_nodes_agree.specs.Nodes.Steps.{Takes}
use Rattle.bfs_nodes_agree.proofs.Public.{either_in, in_map, out_of_map}
use Rattle.bfs_nodes_progress.specs.Rounds.{ComesTo, IsRound, passes}
use Rattle.bfs_nodes_progress.specs.Runs.{order_of}
use Rattle.bfs_nodes_progress.proofs.Public.{votes_are_resent}
use Rattle.bfs_liveness.specs.Exchanges.{exchange, hearing, said_in_view, taking}
use Rattle.bfs_liveness.specs.Ways.{Gives, IsWay, MayTake}
use Rattle.bfs_liveness.proofs.Lists.{in_all, in_each, in_run, in_where, out_of_all, out_of_each, out_of_run, out_of_where}
use Rattle.bfs_liveness.proofs.Votes.{HaveHeard, IsVote, after_votes, all_then, answers_on, proposal_on, vote_kind}

-- A member's vote -----------------------------------------------------------------------------------------------------

-- it is of a number of the window of its view
pub record IsSaid (members : ℕ → Bool) (w : NodeReplicas) (m : Signed OrderMessage) : Type 0 where
  pub from : ℕ
  pub member : members from ≡ true
  pub number : ℕ
  pub above : (order_of w from).low < number
  pub under : number ≤ (order_of w from).low + log_size
  pub said : IsIn m (own_votes (order_of w from) number)

-- one comes to a member
pub record BringsVote (members : ℕ → Bool) (w : NodeReplicas) (turn : NodeTurn) : Type 0 where
  pub to : members turn.who ≡ true
  pub vote : Signed OrderMessage
  pub said : IsSaid members w vote
  pub step : turn.step ≡ Takes (as_message Order vote)

pub is_vote : (members : ℕ → Bool) (w : NodeReplicas) (turn : NodeTurn) → BringsVote members w turn → IsVote turn.step
is_vote members w turn brings =
    let said = brings.said in
    let kind = vote_kind (order_of w said.from) said.number brings.vote said.said in
    let tag = kind.3.is.tag in
    let small = kind.2 in
    (brings.vote, omega (arith, tag, small), brings.step)

-- Ways ----------------------------------------------------------------------------------------------------------------

-- to one that tells that it is in that view, and that it has executed nothing
abbrev asking : (view : ℕ) → Lag
asking view = record { view = view; last = 0; stable = 0 }

-- it is given again from then on
pub given_again : (members : ℕ → Bool) (w now : NodeReplicas) (m : Signed OrderMessage) → HaveHeard w now → (said : IsSaid members w m) → (order_of w said.from).asked ≤ (order_of w said.from).view → Gives (now said.from) (as_message Order m)
given_again members w now m heard said asked =
    let from = said.from in
    let node = (now from).node in
    let s = order_of w from in
    let more = (heard from).order in
    let view : node.order.view ≡ s.view = ap (λ (x : State). x.view) more.1 in
    let asks : node.order.asked ≡ s.asked = ap (λ (x : State). x.asked) more.1 in
    let low : node.order.low ≡ s.low = ap (λ (x : State). x.low) more.1 in
    let above = said.above in
    let under = said.under in
    let gives = votes_are_resent node (asking node.order.view) said.number (omega (arith, view, asks, asked)) refl (omega (arith, low, above)) (omega (arith, low, under)) in
    inr (
      asking node.order.view,
      elim (either_in (own_message s 2 s.view said.number) (own_answers s said.number) m said.said) [
        | inl proposal ↦ gives.proposal (omega (arith, above)) m (proposal_on s node.order more said.number m proposal)
        | inr answer ↦ gives.answers (omega (arith, above)) m (answers_on s node.order more said.number m answer)
      ],
    )

module _ (members : ℕ → Bool) (w : NodeReplicas) (asked : (k : ℕ) → members k ≡ true → (order_of w k).asked ≤ (order_of w k).view) where
  pub votes_may_come : (turns : List NodeTurn) → ((turn : NodeTurn) → IsIn turn turns → BringsVote members w turn) → (now : NodeReplicas) → HaveHeard w now → IsWay members now turns
  votes_may_come [] brings now heard = tt
  votes_may_come (turn ∷ turns) brings now heard =
      let first = brings turn (inl refl) in
      let said = first.said in
      let gives = given_again members w now first.vote heard said (asked said.from said.member) in
      let next = after_votes (turn ∷ []) (λ x i. is_vote members w x (elim i [ inl same ↦ subst (BringsVote members w) (sym same) first | inr none ↦ absurd none ])) now in (
        first.to,
        subst (MayTake members now turn.who) (sym first.step) (said.from, said.member, gives),
        votes_may_come turns (λ x i. brings x (inr i)) (after_node_turn now turn) (all_then w now (after_node_turn now turn) heard next),
      )

-- An exchange ---------------------------------------------------------------------------------------------------------

-- what it has said of a number is among what it has said in its view
said_there : (s : State) (n : ℕ) (m : Signed OrderMessage) → s.low < n → n ≤ s.low + log_size → IsIn m (own_votes s n) → IsIn m (said_in_view s)
unfolding said_in_view
said_there s n m above under i = in_all (own_votes s) (range_with_len (s.low + 1) log_size) n m (in_run (s.low + 1) log_size n (omega (arith, above)) (omega (arith, under))) i

of_number : (s : State) (m : Signed OrderMessage) → IsIn m (said_in_view s) → (n : ℕ) × (s.low < n) × (n ≤ s.low + log_size) × IsIn m (own_votes s n)
unfolding said_in_view
of_number s m i =
    let got = out_of_all (own_votes s) (range_with_len (s.low + 1) log_size) m i in
    let within = out_of_run (s.low + 1) log_size got.0 got.1 in
    let low = within.0 in
    let high = within.1 in
    (got.0, omega (arith, low), omega (arith, high), got.2)

module _ (f : ℕ) (members : ℕ → Bool) (w : NodeReplicas) where
  pub brings_votes : (turn : NodeTurn) → IsIn turn (exchange f members w) → BringsVote members w turn
  unfolding exchange
  brings_votes turn i =
      let to = out_of_each (λ k. cond (members k) (hearing f members w k) []) (replicas f) turn i in
      let k = to.0 in
      let there = out_of_where (members k) (hearing f members w k) turn to.2 in
      let by = out_of_each (λ j. cond (members j && not (j == k)) (taking k (said_in_view (order_of w j))) []) (replicas f) turn there.1 in
      let j = by.0 in
      let other = out_of_where (members j && not (j == k)) (taking k (said_in_view (order_of w j))) turn by.2 in
      let from = out_of_map (λ (m : Signed OrderMessage). record { who = k; step = Takes (as_message Order m) }) (said_in_view (order_of w j)) turn other.1 in
      let number = of_number (order_of w j) from.0 from.1 in
      record {
        to = ap (λ (x : NodeTurn). members x.who) from.2 ∙ there.0;
        vote = from.0;
        said = record { from = j; member = (and_parts (members j) (not (j == k)) other.0).0; number = number.0; above = number.1; under = number.2; said = number.3 };
        step = ap (λ (x : NodeTurn). x.step) from.2;
      }

  pub comes_in : (i j n : ℕ) (m : Signed OrderMessage) → members i ≡ true → members j ≡ true → i < replicas f → j < replicas f → (i == j) ≡ false
      → (order_of w i).low < n → n ≤ (order_of w i).low + log_size → IsIn m (own_votes (order_of w i) n) → ComesTo j (as_message Order m) (exchange f members w)
  unfolding exchange
  comes_in i j n m in_i in_j low_i low_j other above under said =
      let s = order_of w i in
      let turn : NodeTurn = record { who = j; step = Takes (as_message Order m) } in
      let taken = in_map (λ (m : Signed OrderMessage). record { who = j; step = Takes (as_message Order m) }) (said_in_view s) m (said_there s n m above under said) in
      let may : (members i && not (i == j)) ≡ true = and_from (members i) (not (i == j)) in_i (ap not other) in
      let heard : IsIn turn (hearing f members w j) = in_each (λ k. cond (members k && not (k == j)) (taking j (said_in_view (order_of w k))) []) (replicas f) i turn low_i
      (in_where (members i && not (i == j)) (taking j (said_in_view s)) turn may taken) in
      record {
        turn = turn;
        among = in_each (λ k. cond (members k) (hearing f members w k) []) (replicas f) j turn low_j (in_where (members j) (hearing f members w j) turn in_j heard);
        to = refl;
        brings = refl;
      }

  -- of each number of the window of all it is a round
  pub is_a_round : (n : ℕ) → ((k : ℕ) → members k ≡ true → k < replicas f) → ((k : ℕ) → members k ≡ true → (order_of w k).low < n) → ((k : ℕ) → members k ≡ true → n ≤ (order_of w k).low + log_size)
      → ((i j : ℕ) (m : Signed OrderMessage) → members i ≡ true → members j ≡ true → IsIn m (order_of w i).log → (header m).sender ≡ (order_of w i).me → passes (w j).node m ≡ true) → IsRound members w n (exchange f members w)
  is_a_round n among above under passing i j m in_i in_j other said =
      let kind = vote_kind (order_of w i) n m said in
      (passing i j m in_i in_j kind.3.there kind.3.is.sender, comes_in i j n m in_i in_j (among i in_i) (among j in_j) other (above i in_i) (under i in_i) said)
