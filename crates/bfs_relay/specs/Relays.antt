-- A relay, and what it does, step by step.
use Rattle.std.specs.Prelude.{ℕ, Bool, false, List, [], ◌∷◌, ◌++◌, fold, length, Option, Some, None, nat_lt, slice_get, slice_set, if◌then◌else◌}
use Rattle.std.specs.List.{position, range_with_len}
use Rattle.bfs_clients.specs.Clients.{Clients}
use Rattle.bfs_messages.specs.declared.message.Message.{Message}
use Rattle.bfs_messages.specs.declared.message.Message.TheVariants.{Reply}
use Rattle.bfs_messages.specs.declared.signed.Signed.{Signed}
use Rattle.bfs_frames.specs.Parcels.{Told}
use Rattle.bfs_frames.specs.declared.parcels.To.{To}
use Rattle.bfs_relay.specs.Leaders.{leader, views_told}
use Rattle.bfs_relay.specs.Parcels.{dropped_told}
use Rattle.bfs_relay.specs.Seats.{Call, Seat, asked_again, begun, heard, is_free, is_of, is_past, second, told_asking, told_beginning, told_hearing}

pub record Relay : Type 0 where
  -- the keys of clients, those that it speaks for among them
  pub clients : Clients
  -- the clients that it speaks for
  pub seats : List Seat
  -- the calls that wait for a client to be free, in the order in which they came
  pub calls : List Call
  -- when the operator was told last that calls are dropped, in microseconds
  pub dropped_at : ℕ
  -- the latest view that each replica told, by its number
  pub views : List ℕ
  -- what it has told in this turn
  pub told : List Told

-- how many calls may wait
abbrev pub most_waiting : ℕ
most_waiting = 1024

-- whom it asks first
abbrev pub asked_first : Relay → To
asked_first relay = leader relay.clients.f relay.views

-- Beginning calls ----------------------------------------------------------------------------------------------------

abbrev pub begun_by : Option Seat → (now place : ℕ) → Call → Relay → Relay
begun_by None now place call relay = relay
begun_by (Some seat) now place call relay = record relay { seats = slice_set relay.seats place (begun relay.clients now call seat); told = relay.told ++ told_beginning relay.clients (asked_first relay) call seat }

-- the client at that place begins the call
abbrev pub begun_at : (now place : ℕ) → Call → Relay → Relay
begun_at now place call relay = begun_by (slice_get relay.seats place) now place call relay

abbrev pub next_of : List Call → (now place : ℕ) → Relay → Relay
next_of [] now place relay = relay
next_of (call ∷ rest) now place relay = begun_at now place call (record relay { calls = rest })

abbrev pub is_free_among : Option Seat → Bool
is_free_among None = false
is_free_among (Some seat) = is_free seat

-- the client at that place, if it is free, begins the call that has waited longest
abbrev pub next_begun : (now place : ℕ) → Relay → Relay
next_begun now place relay = if is_free_among (slice_get relay.seats place) then next_of relay.calls now place relay else relay

-- Calls --------------------------------------------------------------------------------------------------------------

-- a call that is dropped; the operator is told so at most once a second
abbrev pub dropped : (now : ℕ) → Relay → Relay
dropped now relay = if is_past relay.dropped_at second now then record relay { dropped_at = now; told = relay.told ++ dropped_told ∷ [] } else relay

abbrev pub queued : (now : ℕ) → Call → Relay → Relay
queued now call relay = if nat_lt (length relay.calls) most_waiting then record relay { calls = relay.calls ++ call ∷ [] } else dropped now relay

abbrev pub placed : Option ℕ → (now : ℕ) → Call → Relay → Relay
placed (Some place) now call relay = begun_at now place call relay
placed None now call relay = queued now call relay

-- the first client that is free begins the call; where none is, it waits, or is dropped
abbrev pub called : (now : ℕ) → Call → Relay → Relay
called now call relay = placed (position is_free relay.seats) now call relay

-- Replies ------------------------------------------------------------------------------------------------------------

abbrev pub heard_by : Option Seat → (place : ℕ) → Signed Message → Relay → Relay
heard_by None place signed relay = relay
heard_by (Some seat) place signed relay = record relay { seats = slice_set relay.seats place (heard relay.clients signed seat); told = relay.told ++ told_hearing relay.clients signed seat }

abbrev pub heard_at : Option ℕ → (now : ℕ) → Signed Message → Relay → Relay
heard_at None now signed relay = relay
heard_at (Some place) now signed relay = next_begun now place (heard_by (slice_get relay.seats place) place signed relay)

abbrev pub heard_as : Message → (now : ℕ) → Signed Message → Relay → Relay
heard_as (Reply reply) now signed relay = heard_at (position (is_of reply.client) relay.seats) now signed relay
heard_as _ now signed relay = relay

-- with the view that a REPLY tells
abbrev pub with_views : Signed Message → Relay → Relay
with_views signed relay = record relay { views = views_told relay.clients signed relay.views }

-- the client to whom a REPLY goes counts it, and begins the next call if that gives it a result
abbrev pub relay_heard : (now : ℕ) → Relay → Signed Message → Relay
relay_heard now relay signed = heard_as signed.message now signed (with_views signed relay)

-- Asking again -------------------------------------------------------------------------------------------------------

abbrev pub asked_by : Option Seat → (now place : ℕ) → Relay → Relay
asked_by None now place relay = relay
asked_by (Some seat) now place relay = record relay { seats = slice_set relay.seats place (asked_again now seat); told = relay.told ++ told_asking now seat }

abbrev pub asked_at : (now : ℕ) → Relay → (place : ℕ) → Relay
asked_at now relay place = asked_by (slice_get relay.seats place) now place relay

-- each request whose result was waited for long enough is sent again
abbrev pub all_asked : (now : ℕ) → Relay → Relay
all_asked now relay = fold (asked_at now) relay (range_with_len 0 (length relay.seats))
