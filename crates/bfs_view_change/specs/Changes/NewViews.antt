-- From which VIEW-CHANGEs a new view is chosen, and which NEW-VIEWs are right (OSDI 1999 section 4.4).
use Rattle.std.specs.Prelude.{ℕ, ◌+◌, ◌*◌, ◌==◌, Bool, true, false, ◌&&◌, not, List, [], ◌∷◌, find, Option, Some, None, nat_lt, bytes_eq, if◌then◌else◌}
use Rattle.std.specs.List.{list_all, list_any}
use Rattle.std.specs.Option.{option_map}
use Rattle.bfs_auth.specs.Keys.{Keys}
use Rattle.bfs_votes.specs.Votes.{count_below, primary, replicas}
use Rattle.bfs_log.specs.Certificates.{StableCheckpoint, faults}
use Rattle.bfs_messages.specs.Messages as model
use Rattle.bfs_messages.specs.Batches.{batch_text}
use Rattle.bfs_messages.specs.Signing.{as_message, is_signed, order_is_signed}
use Rattle.bfs_messages.specs.declared.signed.Signed.{Signed}
use Rattle.bfs_messages.specs.declared.message.Message.TheVariants.{NewView}
use Rattle.bfs_messages.specs.declared.order_messages.OrderMessage.TheVariants.{PrePrepare}
use Rattle.bfs_view_change.specs.Changes.ViewChanges.{messages_of, stable_in, valid_view_change}
use Rattle.bfs_view_change.specs.Changes.Choice.{Choice, Chosen, choice, latest_stable}
use Rattle.bfs_view_change.specs.declared.error.ViewError.{ViewError}
use Rattle.bfs_view_change.specs.declared.error.ViewError.TheVariants.{BadAuthenticator, BadCertificate, TooFew, WrongChoice}

-- one of them is of that replica
abbrev pub is_any_from : List (Signed model.ViewChange) → (sender : ℕ) → Bool
is_any_from changes sender = list_any (λ s. s.message.sender == sender) changes

-- of how many different replicas they are (OSDI 1999 section 4.4)
abbrev pub senders : (f : ℕ) → List (Signed model.ViewChange) → ℕ
senders f changes = count_below (is_any_from changes) (replicas f)

abbrev pub are_for : (view : ℕ) → List (Signed model.ViewChange) → Bool
are_for view changes = list_all (λ s. s.message.view == view) changes

-- they ask for one view
abbrev pub do_agree : List (Signed model.ViewChange) → Bool
do_agree [] = true
do_agree (first ∷ rest) = are_for first.message.view (first ∷ rest)

-- only valid ones for one view, of 2f + 1 different replicas (OSDI 1999 section 4.4)
abbrev pub choice_refusal : Keys → List (Signed model.ViewChange) → Option ViewError
choice_refusal keys changes =
    if not (do_agree changes && list_all (valid_view_change keys) changes) then Some BadCertificate else
    (if nat_lt (senders (faults keys) changes) (2 * faults keys + 1) then Some TooFew else None)

-- a PRE-PREPARE of that sender and view for what was chosen, with its own authenticator right
abbrev pub proposes : Keys → (sender view : ℕ) → Signed model.PrePrepare → Chosen → Bool
proposes keys sender view s c =
    ((s.message.vote.sender == sender) && ((s.message.vote.view == view) && (s.message.vote.number == c.number)))
    && (bytes_eq (batch_text s.message.batch) (batch_text c.batch) && order_is_signed keys (as_message PrePrepare s))

-- one for each that was chosen, in order (OSDI 1999 section 4.4)
abbrev pub do_propose : Keys → (sender view : ℕ) → List (Signed model.PrePrepare) → List Chosen → Bool
do_propose keys sender view [] [] = true
do_propose keys sender view [] (c ∷ cs) = false
do_propose keys sender view (p ∷ ps) [] = false
do_propose keys sender view (p ∷ ps) (c ∷ cs) = proposes keys sender view p c && do_propose keys sender view ps cs

-- what its VIEW-CHANGEs choose
abbrev pub choice_in : model.NewView → Choice
choice_in new = choice (messages_of new.changes)

-- the certificate of min-s, behind which a view begins: that of the first VIEW-CHANGE with that number. The number 0 has none (OSDI 1999 section 4.4)
abbrev pub latest_checkpoint : List model.ViewChange → Option StableCheckpoint
latest_checkpoint changes =
    if latest_stable changes == 0 then None else option_map stable_in (find (λ change. change.stable == latest_stable changes) changes)

-- its PRE-PREPAREs are the choice
abbrev pub are_chosen : Keys → model.NewView → Bool
are_chosen keys new = do_propose keys new.sender new.view new.proposals (choice_in new).chosen

-- it is of the view's primary, and its VIEW-CHANGEs are for the view and can be chosen from
abbrev pub ground_refusal : Keys → Signed model.NewView → Option ViewError
ground_refusal keys s =
    if not ((s.message.sender == primary (faults keys) s.message.view) && is_signed keys (as_message NewView s)) then Some BadAuthenticator else
    (if not (are_for s.message.view s.message.changes) then Some BadCertificate else
    choice_refusal keys s.message.changes)

-- the first, or else the second
abbrev pub first_of : Option ViewError → Option ViewError → Option ViewError
first_of None second = second
first_of (Some error) second = Some error

-- why a NEW-VIEW is not right (OSDI 1999 section 4.4)
abbrev pub new_view_refusal : Keys → Signed model.NewView → Option ViewError
new_view_refusal keys s = first_of (ground_refusal keys s) (if are_chosen keys s.message then None else Some WrongChoice)
