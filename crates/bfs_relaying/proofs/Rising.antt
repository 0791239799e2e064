-- The timestamps of a relay rise over its lives.
use Rattle.std.proofs.Common.{◌≡◌, ℕ, ◌≤◌, List, [], ◌∷◌, map, Option, Some, None, refl, sym, subst, arith}
use Rattle.std.specs.Prelude.{All}
use Rattle.std.specs.List.{cons_option, filter_map}
use Rattle.std.specs.Option.{option_map}
use Rattle.std.proofs.lemmas.List.Elements.{All-cons, All-head, All-nil, All-tail, All-weaker}
use Rattle.bfs_auth.specs.Keys.{Keys}
use Rattle.bfs_clients.specs.Clients.{Clients}
use Rattle.bfs_clients.specs.Counters.{Counter}
use Rattle.bfs_filter.specs.Runs.{Exchange, TakesAll}
use Rattle.bfs_frames.specs.declared.parcels.Parcel.{Parcel}
use Rattle.bfs_frames.specs.declared.parcels.To.{To}
use Rattle.bfs_frames.specs.declared.parcels.To.TheVariants as to
use Rattle.bfs_relay.specs.GivenKeys.{client_of, clients_with, counter_for, counter_from, relay_of}
use Rattle.bfs_frames.specs.Parcels.{Told, told_by}
use Rattle.bfs_relay.specs.Relays.{Relay}
use Rattle.bfs_relay.specs.Seats.{Seat}
use Rattle.bfs_relay.specs.Turns.{turned}
use Rattle.bfs_relaying.specs.Lives.{IsWithin, IsWithinTo, TellsWithin, TimestampsRise}
use Rattle.bfs_relaying.specs.Reserving.{Reserving, Takes, begun}
use Rattle.bfs_relaying.proofs.Counting.{Holds, SeatHolds, turned_holds, wider}

-- Wider bounds ----------------------------------------------------------------------------------------------------------------

module _ (clients : Clients) (low high lower higher : ℕ) (from : lower ≤ low) (upto : high ≤ higher) where
  to_wider : (place : To) (payload : List ℕ) → IsWithinTo clients low high place payload → IsWithinTo clients lower higher place payload
  to_wider to.Replicas payload is = wider clients low high lower higher payload from upto is
  to_wider (to.Replica number) payload is = wider clients low high lower higher payload from upto is
  to_wider (to.Client number) payload is = tt
  to_wider to.Operator payload is = tt
  to_wider (to.Caller ticket) payload is = tt

  all_wider : (parcels : List Parcel) → All (λ parcel. IsWithin clients low high (told_by parcel)) parcels
      → All (λ parcel. IsWithin clients lower higher (told_by parcel)) parcels
  all_wider = All-weaker (λ (parcel : Parcel). IsWithin clients low high (told_by parcel))
      (λ (parcel : Parcel). IsWithin clients lower higher (told_by parcel))
      (λ parcel is. to_wider parcel.to parcel.frame.payload.items is)

  tells_wider : (exchanges : List Exchange) → TellsWithin clients low high exchanges → TellsWithin clients lower higher exchanges
  tells_wider [] all = tt
  tells_wider (exchange ∷ exchanges) all = (all_wider exchange.parcels all.0, tells_wider exchanges all.1)

-- One life ----------------------------------------------------------------------------------------------------------------------

pub told_of : (P : Told → Type 0) (parcels : List Parcel) (told : List Told) → map told_by parcels ≡ told → All P told
    → All (λ parcel. P (told_by parcel)) parcels
told_of P [] told is all = All-nil (λ (parcel : Parcel). P (told_by parcel))
told_of P (parcel ∷ parcels) [] is all = absurd cc
told_of P (parcel ∷ parcels) (one ∷ told) is all =
    let first : one ≡ told_by parcel = cc in
    let others : map told_by parcels ≡ told = cc in
    All-cons (λ (parcel : Parcel). P (told_by parcel)) parcel parcels (subst P first (All-head P one told all))
    (told_of P parcels told others (All-tail P one told all))

-- what is reserved is never less than it was
grown : (old new : Reserving) (exchanges : List Exchange) → TakesAll Takes old exchanges new → old.reserved ≤ new.reserved
grown old new [] taken = subst (λ (at : Reserving). old.reserved ≤ at.reserved) taken (omega arith)
grown old new (exchange ∷ exchanges) taken = omega (arith, taken.1.grows, grown taken.0 new exchanges taken.2)

-- between turns a relay tells nothing
record Waits (clients : Clients) (low : ℕ) (relay : Relay) : Type 0 where
  keys : relay.clients ≡ clients
  seats : All (SeatHolds clients low) relay.seats
  told : relay.told ≡ []

holds_waiting : (clients : Clients) (low high : ℕ) (relay : Relay) → Waits clients low relay → Holds clients low high relay
holds_waiting clients low high relay waits = record {
  keys = waits.keys;
  seats = waits.seats;
  told = λ _. subst (λ (told : List Told). All (IsWithin clients low high) told) (sym waits.told) (All-nil (IsWithin clients low high));
}

life_within : (clients : Clients) (low : ℕ) (old new : Reserving) (exchanges : List Exchange) → Waits clients low old.relay
    → TakesAll Takes old exchanges new → TellsWithin clients low new.reserved exchanges
life_within clients low old new [] waits taken = tt
life_within clients low old new (exchange ∷ exchanges) waits taken =
    let next = taken.0 in
    let takes = taken.1 in
    let high = next.reserved in
    let behind = turned_holds clients low high exchange.turn old.relay (holds_waiting clients low high old.relay waits) in
    let quiet : Relay = record (turned exchange.turn old.relay) { told = [] } in
    let reserved : All (λ (seat : Seat). seat.counter.next ≤ high) quiet.seats =
    subst (λ (relay : Relay). All (λ (seat : Seat). seat.counter.next ≤ high) relay.seats) takes.relay takes.within in
    let told = told_of (IsWithin clients low high) exchange.parcels (turned exchange.turn old.relay).told takes.told (behind.told reserved) in
    let still : Waits clients low next.relay =
    subst (Waits clients low) (sym takes.relay) (record { keys = behind.keys; seats = behind.seats; told = refl }) in (
      all_wider clients low high low new.reserved (omega arith) (grown next new exchanges taken.2) exchange.parcels told,
      life_within clients low next new exchanges still taken.2,
    )

-- The beginning --------------------------------------------------------------------------------------------------------------------

abbrev seats_of : List Counter → List Seat
seats_of counters = map (λ (counter : Counter). record { counter = counter; request = None }) counters

begun_counters : (clients : Clients) (next : ℕ) (given : List Keys)
    → All (SeatHolds clients next) (seats_of (filter_map (counter_for next) given))
begun_counters clients next [] = All-nil (SeatHolds clients next)
begun_counters clients next (keys ∷ given) = go (begun_counters clients next given) (client_of keys)
  where
    go : All (SeatHolds clients next) (seats_of (filter_map (counter_for next) given)) → (client : Option ℕ)
        → All (SeatHolds clients next) (seats_of (cons_option (option_map (counter_from next) client) (filter_map (counter_for next) given)))
    go others None = others
    go others (Some client) =
        All-cons (SeatHolds clients next) (record { counter = counter_from next client; request = None }) (seats_of (filter_map (counter_for next) given))
        (record { from = omega arith; request = tt }) others

begun_waits : (f : ℕ) (given : List Keys) (next : ℕ) → Waits (clients_with f given) next (relay_of f given next)
begun_waits f given next = record { keys = refl; seats = begun_counters (clients_with f given) next given; told = refl }

-- All lives --------------------------------------------------------------------------------------------------------------------------

pub timestamps_rise : TimestampsRise
timestamps_rise reserved [] follow = tt
timestamps_rise reserved (life ∷ lives) follow =
    let clients = clients_with life.f life.keys in (
      tells_wider clients life.from life.last.reserved reserved life.last.reserved follow.0 (omega arith) life.exchanges
          (life_within clients life.from (begun life.f life.keys life.from) life.last life.exchanges (begun_waits life.f life.keys life.from) follow.1),
      timestamps_rise life.last.reserved lives follow.2,
    )
