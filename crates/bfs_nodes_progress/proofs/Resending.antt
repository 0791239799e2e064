-- What is given again has the votes that another one lacks.
use Rattle.std.proofs.Common.{◌≡◌, ℕ, zero, suc, ◌+◌, ◌<◌, ◌≤◌, ◌==◌, Bool, true, ◌&&◌, List, [], ◌∷◌, ◌++◌, inl, inr, sym, subst, cond, arith}
use Rattle.std.specs.Prelude.{nat_lt, nat_le}
use Rattle.std.specs.List.{flat_map, range_with_len}
use Rattle.std.proofs.lemmas.Bool.{and_from, cases_lt, eq-eqb, le-leb, lt-ltb}
use Rattle.bfs_log.specs.Logs.{Log, as_messages}
use Rattle.bfs_messages.specs.Signing.{as_message}
use Rattle.bfs_messages.specs.declared.message.Message.TheVariants.{Order}
use Rattle.bfs_messages.specs.declared.order_messages.OrderMessage.{OrderMessage}
use Rattle.bfs_messages.specs.declared.signed.Signed.{Signed}
use Rattle.bfs_votes.specs.Tags.{checkpoint_tag, pre_prepare_tag}
use Rattle.bfs_model.specs.Server.Limits.{log_size}
use Rattle.bfs_order.specs.Replica.Resending as order
use Rattle.bfs_order.specs.Replica.Resending.{are_together, own_answers, own_message, resent_of}
use Rattle.bfs_order.specs.declared.resending.Lag.{Lag}
use Rattle.bfs_agreement.specs.Histories.{IsIn}
use Rattle.bfs_node.specs.Nodes.{Node}
use Rattle.bfs_node.specs.Resending.{change_resent, new_view_resent, resent}
use Rattle.bfs_nodes_agree.proofs.Public.{in_map, left_in, right_in}
use Rattle.bfs_nodes_progress.specs.Laws.{VotesAreResent}

in_flat_map : {A B : Type 0} (g : A → List B) (xs : List A) (x : A) (y : B) → IsIn x xs → IsIn y (g x) → IsIn y (flat_map g xs)
in_flat_map g [] x y i j = absurd i
in_flat_map {A} {B} g (z ∷ xs) x y i j = elim i [
  | inl same ↦ left_in (g z) (flat_map g xs) y (subst (λ (a : A). IsIn y (g a)) same j)
  | inr k ↦ right_in (g z) (flat_map g xs) y (in_flat_map g xs x y k j)
]

in_range_of : (from count n : ℕ) → from ≤ n → n < from + count → IsIn n (range_with_len from count)
in_range_of from zero n low high = absurd (omega (arith, low, high))
in_range_of from (suc count) n low high = elim (cases_lt from n) [
  | inl lt ↦ inr (in_range_of (from + 1) count n (omega (arith, lt)) (omega (arith, high)))
  | inr le ↦ inl (omega (arith, le, low))
]

-- what is given of a number of the window
there : (node : Node) (to : Lag) (n : ℕ) (m : Signed OrderMessage) → node.order.low ≤ n → n ≤ node.order.low + log_size → IsIn m (resent_of node.order to n) → IsIn (as_message Order m) (resent node to)
there node to n m low high i =
    let s = node.order in
    let given : IsIn m (order.resent s to) = in_flat_map (resent_of s to) (range_with_len s.low (log_size + 1)) n m (in_range_of s.low (log_size + 1) n low (omega (arith, high))) i in
    right_in (change_resent node) (new_view_resent node to ++ as_messages (order.resent s to)) (as_message Order m)
    (right_in (new_view_resent node to) (as_messages (order.resent s to)) (as_message Order m) (in_map (as_message Order) (order.resent s to) m given))

if_so : (b : Bool) (log : Log) (m : Signed OrderMessage) → b ≡ true → IsIn m log → IsIn m (cond b log [])
if_so b log m so i = subst (λ (c : Bool). IsIn m (cond c log [])) (sym so) i

pub votes_are_resent : VotesAreResent
votes_are_resent node to n asked view low high =
    let s = node.order in
    let together : are_together s to ≡ true = and_from (nat_le s.asked s.view) (to.view == s.view) (le-leb s.asked s.view asked) (eq-eqb to.view s.view view) in
    let first = cond (are_together s to && nat_lt to.last n) (own_message s pre_prepare_tag s.view n) [] in
    let second = cond (are_together s to && nat_lt to.stable n) (own_answers s n) [] in
    let third = cond (nat_lt to.stable n) (own_message s checkpoint_tag 0 n) [] in
    record {
      proposal = λ above m i. there node to n m low high (left_in first (second ++ third) m
          (if_so (are_together s to && nat_lt to.last n) (own_message s pre_prepare_tag s.view n) m (and_from (are_together s to) (nat_lt to.last n) together (lt-ltb to.last n above)) i));
      answers = λ above m i. there node to n m low high (right_in first (second ++ third) m (left_in second third m
          (if_so (are_together s to && nat_lt to.stable n) (own_answers s n) m (and_from (are_together s to) (nat_lt to.stable n) together (lt-ltb to.stable n above)) i)));
    }
