-- By the replica's own keys each message of its log is what its sender may send.
use Rattle.std.specs.Prelude.{◌≡◌, ◌<◌, ℕ, true, List, All}
use Rattle.bfs_auth.specs.Keys.{Keys, keys_of}
use Rattle.bfs_auth.specs.declared.principals.Principal.TheVariants.{Replica}
use Rattle.bfs_votes.specs.Votes.{replicas, primary}
use Rattle.bfs_log.specs.Headers.{header}
use Rattle.bfs_messages.specs.Signing.{requests_are_signed}
use Rattle.bfs_messages.specs.declared.signed.Signed.{Signed}
use Rattle.bfs_messages.specs.declared.order_messages.OrderMessage.{OrderMessage}
use Rattle.bfs_order.specs.Laws.Calls.{Call, Takes, Proposes, Executes, Checkpoints, Installs, Leaves, Enters, outcome, after}
use Rattle.bfs_messages.specs.Signing.{order_is_signed, carried_are_signed}
use Rattle.bfs_order.specs.Replica.States.{State, fresh}
use Rattle.bfs_order.specs.Replica.Views.{as_proposals}
use Rattle.bfs_votes.specs.Tags.{pre_prepare_tag, prepare_tag}

-- it and what it carries are signed, its sender is a replica, and the primary of its view where it is a PRE-PREPARE, but not where it is a PREPARE
pub record IsClean (keys : Keys) (f : ℕ) (m : Signed OrderMessage) : Type 0 where
  pub signed : order_is_signed keys m ≡ true
  pub sender : (header m).sender < replicas f
  pub carried : carried_are_signed keys m.message ≡ true
  pub led : (header m).tag ≡ pre_prepare_tag → (header m).sender ≡ primary f (header m).view
  pub backup : (header m).tag ≡ prepare_tag → (header m).sender ≡ primary f (header m).view → ⊥

-- a message and what it carries
pub record IsAllSigned (keys : Keys) (m : Signed OrderMessage) : Type 0 where
  pub signed : order_is_signed keys m ≡ true
  pub carried : carried_are_signed keys m.message ≡ true

-- a call with these keys, handed what they show to be signed where it does not look itself
abbrev pub IsProper : Keys → Call → Type 0
IsProper keys (Takes by m) = by ≡ keys
IsProper keys (Proposes by batch) = (by ≡ keys) × (requests_are_signed keys batch ≡ true)
IsProper keys Executes = Unit {0}
IsProper keys (Checkpoints by number digest) = by ≡ keys
IsProper keys (Installs by certificate) = by ≡ keys
IsProper keys (Leaves view) = Unit {0}
IsProper keys (Enters by view stable handed) = (by ≡ keys) × All (IsAllSigned keys) (as_proposals handed)

-- of a replica, derived from one secret
abbrev pub own_keys : (secret : List ℕ) → (clients f me : ℕ) → Keys
own_keys secret clients f me = keys_of secret (Replica me) (replicas f) clients

abbrev pub HasCleanLog : (secret : List ℕ) → (clients : ℕ) → State → Type 0
HasCleanLog secret clients s = All (IsClean (own_keys secret clients s.f s.me) s.f) s.log

abbrev pub ProperCallsKeepLogsClean : Type 0
ProperCallsKeepLogsClean = (secret : List ℕ) (clients : ℕ) (s : State) (call : Call) → s.me < replicas s.f
    → IsProper (own_keys secret clients s.f s.me) call → HasCleanLog secret clients s → HasCleanLog secret clients (outcome s call).now

abbrev pub LogsAreClean : Type 0
LogsAreClean = (secret : List ℕ) (clients f me : ℕ) (calls : List Call) → me < replicas f
    → All (IsProper (own_keys secret clients f me)) calls → HasCleanLog secret clients (after (fresh f me) calls)
