-- Views change: a replica leaves its view, the primary of the next one begins it, and the others enter it (OSDI 1999 section 4.4).
use Rattle.std.specs.Prelude.{ℕ, ◌+◌, ◌*◌, ◌==◌, Bool, ◌&&◌, not, max, [], ◌∷◌, length, Option, Some, None, nat_lt, nat_le, if◌then◌else◌}
use Rattle.std.specs.Option.{option_map}
use Rattle.bfs_votes.specs.Votes.{primary}
use Rattle.bfs_checkpoints.specs.Keeping.{Keeping, settled}
use Rattle.bfs_log.specs.Certificates.{StableCheckpoint}
use Rattle.bfs_log.specs.Logs.{as_messages}
use Rattle.bfs_messages.specs.Messages as model
use Rattle.bfs_messages.specs.Signing.{as_message, is_signed}
use Rattle.bfs_messages.specs.declared.signed.Signed.{Signed}
use Rattle.bfs_messages.specs.declared.message.Message.{Message}
use Rattle.bfs_messages.specs.declared.message.Message.TheVariants.{NewView, ViewChange}
use Rattle.bfs_order.specs.Replica.States.{State}
use Rattle.bfs_order.specs.Replica.Views as order
use Rattle.bfs_view_change.specs.Changes.Choice.{choice}
use Rattle.bfs_view_change.specs.Changes.Keeping.{above_view, changes_for, least_asked, was_asked, with_asked, with_change, with_own}
use Rattle.bfs_view_change.specs.Changes.Making.{change_of, new_view_from, signed_change, signed_new_view}
use Rattle.bfs_view_change.specs.Changes.NewViews.{latest_checkpoint, new_view_refusal}
use Rattle.bfs_view_change.specs.Changes.ViewChanges.{messages_of, valid_view_change}
use Rattle.bfs_node.specs.Errors.{of_order, of_view}
use Rattle.bfs_node.specs.Nodes.{Node, Outcome}
use Rattle.bfs_node.specs.declared.error.NodeError.{NodeError}
use Rattle.bfs_node.specs.declared.error.NodeError.TheVariants as error

-- A new view begins ------------------------------------------------------------------------------------------------------------

abbrev pub leads : Node → (view : ℕ) → Bool
leads node view = node.order.me == primary node.order.f view

-- it has left for the view, and keeps VIEW-CHANGEs of 2f + 1 replicas for it: its own is one of them
abbrev pub may_begin : Node → Bool
may_begin node =
    nat_lt node.order.view node.order.asked
    && (leads node node.order.asked && nat_le (2 * node.order.f + 1) (length (changes_for node.order.asked node.changes)))

-- the snapshots are settled by the checkpoint behind which a view begins, where the low mark has risen to it
abbrev pub settled_if : (risen : Bool) → Option StableCheckpoint → Keeping → Keeping
settled_if risen None snapshots = snapshots
settled_if risen (Some c) snapshots = if risen then settled c snapshots else snapshots

-- its view is entered behind the checkpoint that its VIEW-CHANGEs show, and it is kept
abbrev pub entered_by : Node → Signed model.NewView → Outcome
entered_by node s =
    let new = s.message in
    let stable = latest_checkpoint (messages_of new.changes) in
    let done = order.entered node.keys node.order new.view stable new.proposals in
    record {
      now = record node {
        order = done.now;
        changes = above_view new.view node.changes;
        snapshots = settled_if (nat_lt node.order.low done.now.low) stable node.snapshots;
        new_view = Some s;
      };
      sent = as_messages done.sent;
    }

-- from all that it keeps for the view
abbrev pub own_new_view : Node → model.NewView
own_new_view node =
    let changes = changes_for node.order.asked node.changes in
    new_view_from node.keys node.order.me node.order.asked changes (choice (messages_of changes))

-- the NEW-VIEW is sent, and the view is entered in the same step
abbrev pub begun : Node → Outcome
begun node =
    let own = signed_new_view node.keys (own_new_view node) in
    let done = entered_by node own in
    record { now = done.now; sent = as_message NewView own ∷ done.sent }

abbrev pub begun_if_due : Node → Outcome
begun_if_due node = if may_begin node then begun node else record { now = node; sent = [] }

-- one more VIEW-CHANGE: it counts where the replica leads its view
abbrev pub with_view_change : Node → Signed model.ViewChange → Outcome
with_view_change node s =
    if leads node s.message.view then begun_if_due (record node { changes = with_change node.changes s })
    else record { now = record node { changes = with_asked node.changes s.message }; sent = [] }

-- the least view above its own that replicas ask for, once f + 1 ask for such views: its own one is not among them (OSDI 1999 section 4.5.2)
abbrev pub view_to_follow : Node → Option ℕ
view_to_follow node = least_asked node.changes (max node.order.view node.order.asked) (node.order.f + 1)

-- A view is left ---------------------------------------------------------------------------------------------------------------

-- only for a view above the one entered and the one asked for, below 2^63
abbrev pub leaving_refusal : Node → (view : ℕ) → Option NodeError
leaving_refusal node view = option_map of_order (order.leaving_refusal node.order view)

-- what it says of its log
abbrev pub own_change : Node → (view : ℕ) → Signed model.ViewChange
own_change node view = signed_change node.keys (change_of node.order view)

-- it leaves, and its VIEW-CHANGE is sent in the same step, and kept: it takes no message of an earlier view any more
abbrev pub left_for : Node → (view : ℕ) → Outcome
left_for node view =
    let own = own_change node view in
    let done = with_view_change (record node { order = (order.left node.order view).now }) own in
    record { now = record done.now { changes = with_own done.now.changes own }; sent = as_message ViewChange own ∷ done.sent }

-- after the view entered, and after the one asked for
abbrev pub next_view : State → ℕ
next_view s = max s.view s.asked + 1

abbrev pub timeout_refusal : Node → Option NodeError
timeout_refusal node = leaving_refusal node (next_view node.order)

abbrev pub timed_out : Node → Outcome
timed_out node = left_for node (next_view node.order)

-- A VIEW-CHANGE comes ----------------------------------------------------------------------------------------------------------

abbrev pub change_in : Signed Message → model.ViewChange → Signed model.ViewChange
change_in signed change = record { message = change; auth = signed.auth }

-- its sender's, for a later view than the one entered, later than its sender's last one, and valid
abbrev pub change_refusal : Node → Signed model.ViewChange → Option NodeError
change_refusal node s =
    if not (is_signed node.keys (as_message ViewChange s)) then Some error.BadAuthenticator else
    (if not (nat_lt node.order.view s.message.view) then Some error.WrongView else
    (if was_asked node.changes s.message then Some error.AlreadyHave else
    (if not (valid_view_change node.keys s) then Some error.BadCertificate else None)))

-- A NEW-VIEW comes -------------------------------------------------------------------------------------------------------------

abbrev pub entering_refusal : Node → model.NewView → Option NodeError
entering_refusal node new = option_map of_order (order.entering_refusal node.order new.view)

abbrev pub first_of : Option NodeError → Option NodeError → Option NodeError
first_of None second = second
first_of (Some refused) second = Some refused

abbrev pub new_view_in : Signed Message → model.NewView → Signed model.NewView
new_view_in signed new = record { message = new; auth = signed.auth }

-- one that is not right, or of a view that is not entered any more
abbrev pub view_refusal : Node → Signed model.NewView → Option NodeError
view_refusal node s = first_of (option_map of_view (new_view_refusal node.keys s)) (entering_refusal node s.message)

abbrev pub with_new_view : Node → Signed model.NewView → Outcome
with_new_view node s = entered_by node s
