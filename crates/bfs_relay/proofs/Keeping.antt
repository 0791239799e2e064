-- A relay that hears replies keeps its keys.
use Rattle.std.proofs.Common.{◌≡◌, ◌∙◌, ℕ, Bool, true, false, cond, List, [], ◌∷◌, Option, Some, None, refl, sym, ap}
use Rattle.std.specs.List.{position, slice_get}
use Rattle.bfs_messages.specs.declared.message.Message.{Message}
use Rattle.bfs_messages.specs.declared.message.Message.TheVariants.{Reply}
use Rattle.bfs_messages.specs.declared.signed.Signed.{Signed}
use Rattle.bfs_clients.specs.Clients.{Clients}
use Rattle.bfs_relay.specs.Seats.{Call, Seat, is_of}
use Rattle.bfs_relay.specs.Relays.{Relay, begun_at, begun_by, heard_as, heard_at, heard_by, is_free_among, next_begun, next_of, relay_heard, with_views}

begun_keeps : (seat : Option Seat) (now place : ℕ) (call : Call) (relay : Relay) → (begun_by seat now place call relay).clients ≡ relay.clients
begun_keeps None now place call relay = refl
begun_keeps (Some seat) now place call relay = refl

next_keeps : (calls : List Call) (now place : ℕ) (relay : Relay) → (next_of calls now place relay).clients ≡ relay.clients
next_keeps [] now place relay = refl
next_keeps (call ∷ rest) now place relay = begun_keeps (slice_get relay.seats place) now place call (record relay { calls = rest })

next_begun_keeps : (now place : ℕ) (relay : Relay) → (next_begun now place relay).clients ≡ relay.clients
next_begun_keeps now place relay = go (is_free_among (slice_get relay.seats place))
  where
    go : (free : Bool) → (cond free (next_of relay.calls now place relay) relay).clients ≡ relay.clients
    go true = next_keeps relay.calls now place relay
    go false = refl

by_keeps : (seat : Option Seat) (place : ℕ) (signed : Signed Message) (relay : Relay) → (heard_by seat place signed relay).clients ≡ relay.clients
by_keeps None place signed relay = refl
by_keeps (Some seat) place signed relay = refl

at_keeps : (place : Option ℕ) (now : ℕ) (signed : Signed Message) (relay : Relay) → (heard_at place now signed relay).clients ≡ relay.clients
at_keeps None now signed relay = refl
at_keeps (Some place) now signed relay =
    next_begun_keeps now place (heard_by (slice_get relay.seats place) place signed relay) ∙ by_keeps (slice_get relay.seats place) place signed relay

as_keeps : (message : Message) (now : ℕ) (signed : Signed Message) (relay : Relay) → (heard_as message now signed relay).clients ≡ relay.clients
as_keeps (Reply reply) now signed relay = at_keeps (position (is_of reply.client) relay.seats) now signed relay
as_keeps _ now signed relay = refl

pub heard_keeps : (now : ℕ) (relay : Relay) (signed : Signed Message) → (relay_heard now relay signed).clients ≡ relay.clients
heard_keeps now relay signed = as_keeps signed.message now signed (with_views signed relay)
