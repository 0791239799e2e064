-- A call that the code makes, and the call that it is by definition.
use Rattle.std.specs.Prelude.{◌≡◌, ◌≢◌, List, [], ◌∷◌, take, Result, Ok, Err}
use Rattle.bfs_auth.specs.Keys.{Keys}
use Rattle.bfs_log.specs.Logs.{Log, as_messages}
use Rattle.bfs_messages.specs.declared.signed.Signed.{Signed}
use Rattle.bfs_messages.specs.declared.message.Message.{Message}
use Rattle.bfs_order.specs.Laws.Calls.{Call, Takes, Proposes, Executes, Checkpoints, Installs, Leaves, Enters, outcome}
use Rattle.bfs_order.specs.Replica.Outcomes.{quiet}
use Rattle.bfs_order.specs.Replica.States.{State}
use Rattle.bfs_order.specs.declared.error.OrderError.{OrderError}
use Rattle.bfs_order.specs.declared.error.OrderError.TheVariants.{Memory}
use Rattle.bfs_nodes_agree.specs.Orders.Replicas.{votes_by}
use Rattle.bfs_nodes_agree.specs.declared.order_calls.performing.OrderCall.{OrderCall}
use Rattle.bfs_nodes_agree.specs.declared.order_calls.performing.OrderCall.TheVariants as code
use Rattle.bfs_nodes_agree.specs.declared.order_calls.performing.Sent.{Sent}
use Rattle.bfs_nodes_agree.specs.declared.order_calls.performing.Sent.TheVariants.{Nothing, One, All}

abbrev pub call_by : Keys → OrderCall → Call
call_by keys (code.Take signed) = Takes keys signed
call_by keys (code.Propose batch) = Proposes keys batch
call_by keys code.Execute = Executes
call_by keys (code.Checkpoint number digest) = Checkpoints keys number digest
call_by keys (code.Install certificate) = Installs keys certificate.now
call_by keys (code.Leave view) = Leaves view
call_by keys (code.Enter view stable handed) = Enters keys view stable handed.items

abbrev pub messages_in : Sent → List (Signed Message)
messages_in Nothing = []
messages_in (One signed) = signed ∷ []
messages_in (All sent) = sent.items

-- what of a call's messages others are to have: the COMMIT of a replica that is alone goes to nobody
abbrev pub sent_to_others : State → Call → Log
sent_to_others s (Proposes keys batch) = take 1 (outcome s (Proposes keys batch)).sent
sent_to_others s (Checkpoints keys number digest) = (outcome s (Checkpoints keys number digest)).sent
sent_to_others s call = votes_by s call

-- the order is what the call's definition makes of it, and that is sent; a refused call changes nothing, by the definition too
abbrev pub Does : State → Call → Result Sent OrderError → State → Type 0
Does s call (Ok sent) now = (now ≡ (outcome s call).now) × (messages_in sent ≡ as_messages (sent_to_others s call))
Does s call (Err e) now = (now ≡ s) × (e ≢ Memory → outcome s call ≡ quiet s)

abbrev pub Performs : Keys → State → OrderCall → Result Sent OrderError → State → Type 0
Performs keys s call result now = Does s (call_by keys call) result now
