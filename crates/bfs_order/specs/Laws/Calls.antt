-- Calls on the order of one replica, one after another.
use Rattle.std.specs.Prelude.{◌≡◌, ℕ, ◌+◌, List, [], ◌∷◌, ◌++◌, Option, Some, None}
use Rattle.bfs_auth.specs.Keys.{Keys}
use Rattle.bfs_log.specs.Certificates.{StableCheckpoint}
use Rattle.bfs_log.specs.Logs.{Log}
use Rattle.bfs_messages.specs.Messages as model
use Rattle.bfs_messages.specs.Messages.{Batch}
use Rattle.bfs_messages.specs.declared.signed.Signed.{Signed}
use Rattle.bfs_messages.specs.declared.order_messages.OrderMessage.{OrderMessage}
use Rattle.bfs_order.specs.Replica.Accepting.{on_message}
use Rattle.bfs_order.specs.Replica.Checkpoints.{checkpoint_refusal, checkpointed}
use Rattle.bfs_order.specs.Replica.Executing.{next_order, executed}
use Rattle.bfs_order.specs.Replica.Installing.{install_refusal, installed}
use Rattle.bfs_order.specs.Replica.Outcomes.{Outcome, quiet, unless}
use Rattle.bfs_order.specs.Replica.Proposing.{proposal_refusal, proposed}
use Rattle.bfs_order.specs.Replica.States.{State, fresh}
use Rattle.bfs_order.specs.Replica.Views.{leaving_refusal, left, entering_refusal, entered}

-- a call, with whatever keys it is made
pub data Call : Type 0 where
  Takes : Keys → Signed OrderMessage → Call
  Proposes : Keys → Batch → Call
  Executes : Call
  Checkpoints : Keys → (number : ℕ) → (digest : List ℕ) → Call
  Installs : Keys → (certificate : StableCheckpoint) → Call
  Leaves : (view : ℕ) → Call
  Enters : Keys → (view : ℕ) → (stable : Option StableCheckpoint) → (handed : List (Signed model.PrePrepare)) → Call

-- the number after the last executed, where its batch may be executed
abbrev pub execution : State → Option (Signed OrderMessage) → Outcome
execution s None = quiet s
execution s (Some m) = executed s (s.last + 1)

-- what a call leaves and sends: a refused one changes nothing
abbrev pub outcome : State → Call → Outcome
outcome s (Takes keys m) = on_message keys s m
outcome s (Proposes keys batch) = unless (proposal_refusal s) s (proposed keys s batch)
outcome s Executes = execution s (next_order s)
outcome s (Checkpoints keys number digest) = unless (checkpoint_refusal s number) s (checkpointed keys s number digest)
outcome s (Installs keys certificate) = unless (install_refusal keys s certificate) s (installed s certificate)
outcome s (Leaves view) = unless (leaving_refusal s view) s (left s view)
outcome s (Enters keys view stable handed) = unless (entering_refusal s view) s (entered keys s view stable handed)

-- what is known after calls
abbrev pub after : State → List Call → State
after s [] = s
after s (call ∷ calls) = after (outcome s call).now calls

-- all that is sent by them
abbrev pub sent_by : State → List Call → Log
sent_by s [] = []
sent_by s (call ∷ calls) = (outcome s call).sent ++ sent_by (outcome s call).now calls

-- a replica stays itself
abbrev pub IsSameReplica : State → State → Type 0
IsSameReplica now old = (now.f ≡ old.f) × (now.me ≡ old.me)

abbrev pub CallsKeepTheReplica : Type 0
CallsKeepTheReplica = (s : State) (call : Call) → IsSameReplica (outcome s call).now s

-- it holds of a replica that has accepted nothing, and each call keeps it
abbrev pub IsKept : (State → Type 0) → Type 0
IsKept P = ((f me : ℕ) → P (fresh f me)) × ((s : State) (call : Call) → P s → P (outcome s call).now)

-- it holds after every list of calls
abbrev pub IsAlways : (State → Type 0) → Type 0
IsAlways P = (f me : ℕ) (calls : List Call) → P (after (fresh f me) calls)
