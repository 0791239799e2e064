-- A client that a relay speaks for, with the one request of it that is under way.
use Rattle.std.specs.Prelude.{ℕ, ◌+◌, ◌-◌, ◌*◌, Bool, ◌||◌, ◌==◌, List, [], ◌∷◌, Option, Some, None, min, nat_lt, nat_le, is_none, if◌then◌else◌}
use Rattle.std.specs.Option.{option_map}
use Rattle.bfs_clients.specs.Clients.{Clients}
use Rattle.bfs_clients.specs.Counters.{Counter, counted_call}
use Rattle.bfs_clients.specs.Tallies.{Tally, agreed, tallied_by}
use Rattle.bfs_clients.specs.declared.clients.Call as client
use Rattle.bfs_messages.specs.Spelling.{signed_text}
use Rattle.bfs_messages.specs.declared.message.Message.{Message}
use Rattle.bfs_messages.specs.declared.signed.Signed.{Signed}
use Rattle.bfs_frames.specs.Parcels.{Told}
use Rattle.bfs_frames.specs.declared.parcels.To.{To}
use Rattle.bfs_frames.specs.declared.parcels.To.TheVariants.{Replicas}
use Rattle.bfs_relay.specs.Parcels.{reply_told, request_told}

-- a call that came, and by what its caller knows the reply
pub record Call : Type 0 where
  pub ticket : ℕ
  pub bytes : List ℕ

-- a request whose result is waited for
pub record Outstanding : Type 0 where
  -- of the call that it was signed for
  pub ticket : ℕ
  -- what goes to the replicas
  pub text : List ℕ
  -- the replies to it so far
  pub tally : Tally
  -- when it was sent last, and how long its result is waited for until it is sent again, in microseconds
  pub sent_at : ℕ
  pub patience : ℕ

pub record Seat : Type 0 where
  pub counter : Counter
  -- none while the client is free
  pub request : Option Outstanding

abbrev pub is_free : Seat → Bool
is_free seat = is_none seat.request

abbrev pub is_of : (client : ℕ) → Seat → Bool
is_of client seat = seat.counter.client == client

-- Time, in microseconds ----------------------------------------------------------------------------------------------

abbrev pub second : ℕ
second = 1000000

abbrev pub first_patience : ℕ
first_patience = 1000000

abbrev pub most_patience : ℕ
most_patience = 8000000

-- so long ago, or the clock was set back since
abbrev pub is_past : (since patience now : ℕ) → Bool
is_past since patience now = nat_lt now since || nat_le patience (now - since)

-- Beginning a call ---------------------------------------------------------------------------------------------------

-- no reply has come yet
abbrev pub outstanding : (now ticket : ℕ) → client.Call → Outstanding
outstanding now ticket begun = record { ticket = ticket; text = signed_text begun.request; tally = begun.tally; sent_at = now; patience = first_patience }

abbrev pub seat_with : (now : ℕ) → Call → Seat → Option client.Call → Seat
seat_with now call seat (Some begun) = record { counter = record seat.counter { next = seat.counter.next + 1 }; request = Some (outstanding now call.ticket begun) }
seat_with now call seat None = seat

abbrev pub told_with : To → Option client.Call → List Told
told_with to (Some begun) = request_told to (signed_text begun.request) ∷ []
told_with to None = []

-- the client signs the call's bytes, with its next timestamp, and asks one replica
abbrev pub begun : Clients → (now : ℕ) → Call → Seat → Seat
begun clients now call seat = seat_with now call seat (counted_call clients seat.counter call.bytes)

abbrev pub told_beginning : Clients → To → Call → Seat → List Told
told_beginning clients to call seat = told_with to (counted_call clients seat.counter call.bytes)

-- Hearing a reply ----------------------------------------------------------------------------------------------------

abbrev pub counted : Clients → Signed Message → Outstanding → Outstanding
counted clients signed request = record request { tally = tallied_by clients request.tally signed }

-- it waits for a result until f + 1 replicas sent one
abbrev pub still_waits : Outstanding → Option (List ℕ) → Option Outstanding
still_waits request None = Some request
still_waits request (Some result) = None

abbrev pub told_agreed : Outstanding → Option (List ℕ) → List Told
told_agreed request None = []
told_agreed request (Some result) = reply_told request.ticket result

abbrev pub settled : Option Outstanding → Option Outstanding
settled None = None
settled (Some request) = still_waits request (agreed request.tally)

abbrev pub told_settling : Option Outstanding → List Told
told_settling None = []
told_settling (Some request) = told_agreed request (agreed request.tally)

abbrev pub heard : Clients → Signed Message → Seat → Seat
heard clients signed seat = record { counter = seat.counter; request = settled (option_map (counted clients signed) seat.request) }

abbrev pub told_hearing : Clients → Signed Message → Seat → List Told
told_hearing clients signed seat = told_settling (option_map (counted clients signed) seat.request)

-- Asking again -------------------------------------------------------------------------------------------------------

-- all replicas are asked
abbrev pub is_due : (now : ℕ) → Outstanding → Bool
is_due now request = is_past request.sent_at request.patience now

abbrev pub sent_again : (now : ℕ) → Outstanding → Outstanding
sent_again now request = if is_due now request then record request { sent_at = now; patience = min (2 * request.patience) most_patience } else request

abbrev pub told_again : (now : ℕ) → Option Outstanding → List Told
told_again now None = []
told_again now (Some request) = if is_due now request then request_told Replicas request.text ∷ [] else []

abbrev pub asked_again : (now : ℕ) → Seat → Seat
asked_again now seat = record { counter = seat.counter; request = option_map (sent_again now) seat.request }

abbrev pub told_asking : (now : ℕ) → Seat → List Told
told_asking now seat = told_again now seat.request
