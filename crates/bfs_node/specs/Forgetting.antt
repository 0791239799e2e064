-- Requests that wait for nothing any more are forgotten: those that were executed, and those that a primary proposed in a view that it leaves.
use Rattle.std.specs.Prelude.{◌≡◌, ◌==◌, Bool, true, false, ◌&&◌, List, [], filter, nat_lt, if◌then◌else◌}
use Rattle.std.specs.List.{flat_map}
use Rattle.bfs_log.specs.Headers.{header}
use Rattle.bfs_messages.specs.Messages as model
use Rattle.bfs_messages.specs.Messages.{requests_of}
use Rattle.bfs_messages.specs.declared.order_messages.OrderMessage.{OrderMessage}
use Rattle.bfs_messages.specs.declared.order_messages.OrderMessage.TheVariants.{PrePrepare, Prepare, Commit, Checkpoint}
use Rattle.bfs_messages.specs.declared.signed.Signed.{Signed}
use Rattle.bfs_order.specs.Replica.States.{State}
use Rattle.bfs_pending.specs.Requests.{without_named}
use Rattle.bfs_replies.specs.Classes.{class_of}
use Rattle.bfs_replies.specs.Tables.{Table}
use Rattle.bfs_replies.specs.declared.tables.Class.{Class}
use Rattle.bfs_replies.specs.declared.tables.Class.TheVariants.{New, Repeat, Old, Unknown}
use Rattle.bfs_votes.specs.Votes.{Header}
use Rattle.bfs_node.specs.Nodes.{Node}

-- What was executed -------------------------------------------------------------------------------------------------------

abbrev pub is_new_class : Class → Bool
is_new_class New = true
is_new_class Repeat = false
is_new_class Old = false
is_new_class Unknown = false

abbrev pub is_new : Table → Signed model.Request → Bool
is_new table one = is_new_class (class_of table one.message.client one.message.timestamp)

-- only new ones wait on
abbrev pub without_answered : Node → Node
without_answered node = record node { pending = filter (is_new node.table) node.pending }

-- What was proposed ---------------------------------------------------------------------------------------------------------

-- it is its own, of the view that it has entered, and of a number that it has not executed
abbrev pub is_open : State → Header → Bool
is_open s h = (h.sender == s.me) && ((h.view == s.view) && nat_lt s.last h.number)

-- the requests that a PRE-PREPARE proposes
abbrev pub proposed_by : OrderMessage → List (Signed model.Request)
proposed_by (PrePrepare proposal) = requests_of proposal.batch
proposed_by (Prepare vote) = []
proposed_by (Commit vote) = []
proposed_by (Checkpoint checkpoint) = []

abbrev pub open_in : State → Signed OrderMessage → List (Signed model.Request)
open_in s m = if is_open s (header m) then proposed_by m.message else []

-- the requests that it has proposed in its view and not executed
abbrev pub open_requests : State → List (Signed model.Request)
open_requests s = flat_map (open_in s) s.log

-- these wait no longer: their clients send them again
abbrev pub without_proposed : Node → Node
without_proposed node = record node { pending = without_named node.pending (open_requests node.order) }
