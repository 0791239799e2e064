-- Why a message is not taken (OSDI 1999 section 4.2).
use Rattle.std.specs.Prelude.{ℕ, ◌+◌, ◌%◌, ◌==◌, Bool, ◌&&◌, ◌||◌, not, Option, Some, None, nat_lt, nat_le, if◌then◌else◌}
use Rattle.bfs_auth.specs.Keys.{Keys}
use Rattle.bfs_votes.specs.Votes.{Header, is_taken, told, primary, replicas}
use Rattle.bfs_log.specs.Headers.{header}
use Rattle.bfs_messages.specs.declared.signed.Signed.{Signed}
use Rattle.bfs_messages.specs.declared.order_messages.OrderMessage.{OrderMessage}
use Rattle.bfs_messages.specs.Signing.{order_is_signed, carried_are_signed}
use Rattle.bfs_order.specs.Replica.States.{State, known}
use Rattle.bfs_order.specs.declared.error.OrderError.{OrderError}
use Rattle.bfs_order.specs.declared.error.OrderError.TheVariants.{BadAuthenticator, WrongView, OutsideMarks, NotPrimary, Conflicting, AlreadyHave}
use Rattle.bfs_votes.specs.Tags.{checkpoint_tag, pre_prepare_tag, prepare_tag}
use Rattle.bfs_model.specs.Server.Limits.{checkpoint_interval, log_size}

-- above the low mark, and not above the high one
abbrev pub is_between : State → (number : ℕ) → Bool
is_between s number = nat_lt s.low number && nat_le number (s.low + log_size)

-- a CHECKPOINT tells of a multiple of the interval; all others of numbers that the view has
abbrev pub is_inside : State → Header → Bool
is_inside s h = is_between s h.number && (if h.tag == checkpoint_tag then (h.number % checkpoint_interval) == 0 else nat_lt s.min_s h.number)

-- it has no view, or the view is the one entered and none was asked for since
abbrev pub is_of_view : State → Header → Bool
is_of_view s h = h.tag == checkpoint_tag || ((h.view == s.view) && nat_le s.asked s.view)

-- a message of that kind, sender, view and number is there
abbrev pub is_there : State → Header → Bool
is_there s h = is_taken (known s) h

-- a PREPARE of the primary, or another digest than the one that its sender told
abbrev pub conflicts : State → Header → Bool
conflicts s h = ((h.tag == prepare_tag) && (h.sender == primary s.f h.view)) || (is_there s h && not (told (known s) h.tag h.sender h.view h.number h.digest))

-- of what is signed
abbrev pub place_refusal : State → Header → Option OrderError
place_refusal s h =
    if not (is_of_view s h) then Some WrongView else
    (if not (is_inside s h) then Some OutsideMarks else
    (if (h.tag == pre_prepare_tag) && not (h.sender == primary s.f h.view) then Some NotPrimary else
    (if conflicts s h then Some Conflicting else
    (if is_there s h then Some AlreadyHave else None))))

-- by a replica, and the requests in its batch by their clients
abbrev pub is_authentic : Keys → State → Signed OrderMessage → Bool
is_authentic keys s m = nat_lt (header m).sender (replicas s.f) && (order_is_signed keys m && carried_are_signed keys m.message)

abbrev pub refusal : Keys → State → Signed OrderMessage → Option OrderError
refusal keys s m =
    if not (is_authentic keys s m) then Some BadAuthenticator else
    place_refusal s (header m)
