-- When a history of moves is that of a replica.
use Rattle.std.specs.Prelude.{◌≡◌, ◌≤◌, max, Bool, false, List}
use Rattle.std.specs.List.{list_any}
use Rattle.bfs_votes.specs.Votes.{Header}
use Rattle.bfs_log.specs.Headers.{header}
use Rattle.bfs_log.specs.Logs.{headers}
use Rattle.bfs_messages.specs.declared.signed.Signed.{Signed}
use Rattle.bfs_messages.specs.declared.order_messages.OrderMessage.{OrderMessage}
use Rattle.bfs_order.specs.Replica.States as order
use Rattle.bfs_order.specs.Replica.States.{known}
use Rattle.bfs_agreement.specs.Histories.{IsIn, State, History, Executed}
use Rattle.bfs_nodes_agree.specs.Orders.Replicas.{OrderReplica}
use Rattle.bfs_votes.specs.Tags.{checkpoint_tag}

-- every test finds the same in both, in whatever order they have it
abbrev pub HaveTheSame : List Header → List Header → Type 0
HaveTheSame one other = (test : Header → Bool) → list_any test one ≡ list_any test other

-- but for CHECKPOINTs
abbrev pub HaveTheSameVotes : List Header → List Header → Type 0
HaveTheSameVotes one other = (test : Header → Bool) → ((h : Header) → h.tag ≡ checkpoint_tag → test h ≡ false) → list_any test one ≡ list_any test other

-- what is known of the order
pub record Tracks (s : order.State) (t : State) : Type 0 where
  pub view : t.view ≡ s.view
  pub asked : t.asked ≡ s.asked
  pub low : t.low ≡ s.low
  pub min_s : t.min_s ≡ s.min_s
  pub handed : t.handed ≡ max s.min_s s.handed
  pub entered : s.view ≤ s.asked
  pub views : (h : Header) → IsIn h t.log → h.view ≤ s.view
  pub log : HaveTheSameVotes (known s) t.log

-- all of it
pub record Follows (r : OrderReplica) (p : History) : Type 0 where
  pub state : Tracks r.state p.now
  pub sent : HaveTheSame (headers r.sent) p.sent
  pub offers : HaveTheSame (headers r.offers) p.offers
  pub changes : r.changes ≡ p.changes
  pub executed : (m : Signed OrderMessage) → IsIn m r.executed → Executed p (header m)
