-- A REQUEST comes to a replica that lets only new ones wait, and answers its client's last one again (OSDI 1999 section 4.1).
use Rattle.std.specs.Prelude.{ℕ, ◌/◌, ◌||◌, Bool, not, max, [], ◌∷◌, length, Option, Some, None, nat_le, if◌then◌else◌}
use Rattle.std.specs.Option.{option_map}
use Rattle.bfs_model.specs.Server.Limits.{most_requests}
use Rattle.bfs_messages.specs.Messages as model
use Rattle.bfs_messages.specs.Signing.{request_is_signed}
use Rattle.bfs_messages.specs.declared.message.Message.{Message}
use Rattle.bfs_messages.specs.declared.signed.Signed.{Signed}
use Rattle.bfs_pending.specs.Passed.{waits}
use Rattle.bfs_pending.specs.Requests.{count_of}
use Rattle.bfs_replies.specs.Answers.{Answer, answer_again}
use Rattle.bfs_replies.specs.Classes.{class_of}
use Rattle.bfs_replies.specs.declared.tables.Class.{Class}
use Rattle.bfs_replies.specs.declared.tables.Class.TheVariants.{New, Repeat, Old, Unknown}
use Rattle.bfs_node.specs.Delivering.{with_request}
use Rattle.bfs_node.specs.Executing.{reply_to, told}
use Rattle.bfs_node.specs.Nodes.{Messages, Node, Outcome}
use Rattle.bfs_node.specs.declared.error.NodeError.{NodeError}
use Rattle.bfs_node.specs.declared.error.NodeError.TheVariants as error
use Rattle.bfs_node.specs.declared.offering.Offered.{Offered}
use Rattle.bfs_node.specs.declared.offering.Offered.TheVariants.{Waits, WaitsAlready, Answered, PassedOver}

-- what it is to its client's last one that was executed
abbrev pub class_at : Node → model.Request → Class
class_at node request = class_of node.table request.client request.timestamp

abbrev pub waits_already : Node → Signed model.Request → Bool
waits_already node request = waits node.keys.me node.pending request

-- how many requests of one client may wait: together they are no more than a batch can have
abbrev pub share : Node → ℕ
share node = most_requests / max (length node.table) 1

-- as many of that client wait as may
abbrev pub has_its_share : Node → (client : ℕ) → Bool
has_its_share node client = nat_le (share node) (count_of client node.pending)

-- Why it is refused -------------------------------------------------------------------------------------------------------

abbrev pub room_refusal : Node → Signed model.Request → Option NodeError
room_refusal node request =
    if waits_already node request then None else
    (if nat_le most_requests (length node.pending) || has_its_share node request.message.client then Some error.BatchFull else None)

-- room is asked for a new one alone
abbrev pub refusal_as : Class → Node → Signed model.Request → Option NodeError
refusal_as New node request = room_refusal node request
refusal_as Repeat node request = None
refusal_as Old node request = None
refusal_as Unknown node request = None

abbrev pub offer_refusal : Node → Signed model.Request → Option NodeError
offer_refusal node request =
    if not (request_is_signed node.keys request) then Some error.BadAuthenticator else
    refusal_as (class_at node request.message) node request

-- What comes of it --------------------------------------------------------------------------------------------------------

abbrev pub told_again : Node → Option Answer → Option (Signed Message)
told_again node None = None
told_again node (Some answer) = told node.keys (reply_to node.order answer)

abbrev pub answered : Option (Signed Message) → Offered
answered None = PassedOver
answered (Some reply) = Answered reply

abbrev pub offered_as : Class → Node → Signed model.Request → Offered
offered_as New node request = if waits_already node request then WaitsAlready else Waits
offered_as Repeat node request = answered (told_again node (answer_again node.table request.message.client))
offered_as Old node request = PassedOver
offered_as Unknown node request = PassedOver

-- a new one waits, if it doesn't yet; the last one that was executed is answered from the table; an earlier one is passed over
abbrev pub offered : Node → Signed model.Request → Offered
offered node request = offered_as (class_at node request.message) node request

-- what it leaves
abbrev pub after_offered : Node → Signed model.Request → Offered → Node
after_offered node request Waits = (with_request node request).now
after_offered node request WaitsAlready = node
after_offered node request (Answered reply) = node
after_offered node request PassedOver = node

-- what is sent
abbrev pub sent_for : Offered → Messages
sent_for Waits = []
sent_for WaitsAlready = []
sent_for (Answered reply) = reply ∷ []
sent_for PassedOver = []

abbrev pub with_offered : Node → Signed model.Request → Outcome
with_offered node request = record { now = after_offered node request (offered node request); sent = sent_for (offered node request) }
