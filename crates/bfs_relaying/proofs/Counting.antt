-- What a relay tells in a turn has timestamps from where its clients began to count on, and below where they are behind the turn.
use Rattle.std.proofs.Common.{◌≡◌, ◌∙◌, ℕ, ◌+◌, ◌-◌, ◌*◌, ◌^◌, ◌≤◌, min, ◌==◌, Bool, true, false, cond, List, [], ◌∷◌, ◌++◌, length, Option, Some, None, Result, Ok, Err, refl, sym, ap, subst, zero, suc, inl, inr, arith}
use Rattle.std.specs.Prelude.{All, nat_lt}
use Rattle.std.specs.List.{AllByRecursion, filter_map, fold, position, range_with_len, slice_get, slice_set}
use Rattle.std.specs.Option.{option_map}
use Rattle.std.proofs.lemmas.List.Elements.{All-append, All-cons, All-from_recursion, All-get_or, All-nil, All-set, All-weaker, recursion_from_All}
use Rattle.std.proofs.lemmas.Option.{slice_get_cases}
use Rattle.bfs_model.specs.Bytes.Items.{Fault, hyper, hyper_at}
use Rattle.bfs_model.specs.Server.Limits.{most_request_bytes}
use Rattle.bfs_messages.specs.Spelling.{signed_text}
use Rattle.bfs_messages.specs.declared.message.Message.{Message}
use Rattle.bfs_messages.specs.declared.message.Message.TheVariants.{Reply}
use Rattle.bfs_messages.specs.declared.signed.Signed.{Signed}
use Rattle.bfs_frames.specs.Frames.{microseconds}
use Rattle.bfs_frames.specs.declared.frames.Frame.{Frame}
use Rattle.bfs_frames.specs.declared.frames.Turn.{Turn}
use Rattle.bfs_frames.specs.declared.kind.Kind.{Kind}
use Rattle.bfs_frames.specs.declared.kind.Kind.TheVariants as kind
use Rattle.bfs_frames.specs.declared.parcels.To.{To}
use Rattle.bfs_frames.specs.declared.parcels.To.TheVariants.{Caller, Client, Operator, Replica, Replicas}
use Rattle.bfs_clients.specs.Clients.{Clients, signed_request}
use Rattle.bfs_clients.specs.Counters.{counted_call}
use Rattle.bfs_clients.specs.Tallies.{Tally, agreed, no_replies}
use Rattle.bfs_clients.specs.declared.clients.Call as client
use Rattle.bfs_relay.proofs.Public.{leader_is_replica}
use Rattle.bfs_relay.specs.Leaders.{IsToReplicas}
use Rattle.bfs_relay.specs.OwnReplies.{own_reply}
use Rattle.bfs_frames.specs.Parcels.{Told}
use Rattle.bfs_relay.specs.Parcels.{dropped_told, reply_told, request_told}
use Rattle.bfs_relay.specs.Relays.{Relay, asked_at, asked_first, asked_by, begun_at, begun_by, called, dropped, heard_as, heard_at, heard_by, is_free_among, most_waiting, next_begun, next_of, placed, queued, relay_heard, with_views}
use Rattle.bfs_relay.specs.Seats.{Call, Outstanding, Seat, asked_again, begun, counted, heard, is_due, is_free, is_of, is_past, most_patience, second, seat_with, sent_again, settled, still_waits, told_again, told_agreed, told_asking, told_beginning, told_hearing, told_settling, told_with}
use Rattle.bfs_relay.specs.Turns.{answered, call_taken, calls_taken, frame_taken_as, replies_heard, reply_in, taken_as, turned}
use Rattle.bfs_relaying.specs.Lives.{IsRequestWithin, IsWithin}
use Rattle.bfs_relaying.specs.Reserving.{AreReserved}

-- Reserving --------------------------------------------------------------------------------------------------------------

pub reserved_more : (next reserved : ℕ) (relay : Relay) → next ≤ reserved → AreReserved next relay → AreReserved reserved relay
reserved_more next reserved relay le all =
    All-weaker (λ (seat : Seat). seat.counter.next ≤ next) (λ (seat : Seat). seat.counter.next ≤ reserved)
    (λ seat h. omega (arith, le, h)) relay.seats all

-- What a relay keeps to -----------------------------------------------------------------------------------------------------

pub wider : (clients : Clients) (low high lower higher : ℕ) (text : List ℕ) → lower ≤ low → high ≤ higher → IsRequestWithin clients low high text
    → IsRequestWithin clients lower higher text
wider clients low high lower higher text from to request = record {
  client = request.client;
  timestamp = request.timestamp;
  call = request.call;
  signed = request.signed;
  is_signed = request.is_signed;
  is_text = request.is_text;
  from = omega (arith, from, request.from);
  below = omega (arith, to, request.below);
}

abbrev pub IsRequestIf : Clients → (low below : ℕ) → Option Outstanding → Type 0
IsRequestIf clients low below None = Unit {0}
IsRequestIf clients low below (Some request) = IsRequestWithin clients low below request.text

-- the client counts from low on, and has signed its request with a timestamp that it has counted
pub record SeatHolds (clients : Clients) (low : ℕ) (seat : Seat) : Type 0 where
  pub from : low ≤ seat.counter.next
  pub request : IsRequestIf clients low seat.counter.next seat.request

-- a step of a client: it counts on, and what it tells has timestamps that it has counted
record SeatGoes (clients : Clients) (low high : ℕ) (old new : Seat) (more : List Told) : Type 0 where
  holds : SeatHolds clients low new
  grows : old.counter.next ≤ new.counter.next
  told : new.counter.next ≤ high → All (IsWithin clients low high) more

pub record Holds (clients : Clients) (low high : ℕ) (relay : Relay) : Type 0 where
  pub keys : relay.clients ≡ clients
  pub seats : All (SeatHolds clients low) relay.seats
  pub told : AreReserved high relay → All (IsWithin clients low high) relay.told

-- Parts of the definitions, by names -----------------------------------------------------------------------------------------

abbrev answer : (ticket : ℕ) (reply : List ℕ) → Told
answer ticket reply = record { to = Caller ticket; kind = kind.Answer; payload = hyper ticket ++ reply }

abbrev sent : (now : ℕ) → Outstanding → Outstanding
sent now request = record request { sent_at = now; patience = min (2 * request.patience) most_patience }

abbrev made_call : Signed Message → Tally → client.Call
made_call signed tally = record { request = signed; tally = tally }

abbrev with_seat : (place : ℕ) (seat : Seat) (more : List Told) → Relay → Relay
with_seat place seat more relay = record relay { seats = slice_set relay.seats place seat; told = relay.told ++ more }

-- what a call that begins was signed of
made : (may : Bool) (signed : Option (Signed Message)) (tally : Tally) (begun : client.Call)
    → cond may (option_map (λ (s : Signed Message). made_call s tally) signed) None ≡ Some begun → signed ≡ Some begun.request
made true (Some s) tally begun is =
    let same : made_call s tally ≡ begun = cc in ap (λ (c : client.Call). Some c.request) same
made true None tally begun is = absurd cc
made false signed tally begun is = absurd cc

-- a list with one element in the place of another
unset : {X : Type 0} (P : X → Type 0) (xs : List X) (i : ℕ) (x y : X) → slice_get xs i ≡ Some x → (P y → P x)
    → AllByRecursion P (slice_set xs i y) → AllByRecursion P xs × P y
unset P [] i x y is weaker all = absurd cc
unset P (z ∷ xs) zero x y is weaker all = let same : x ≡ z = cc in ((subst P same (weaker all.0), all.1), all.0)
unset P (z ∷ xs) (suc i) x y is weaker all = let rest = unset P xs i x y is weaker all.1 in ((all.0, rest.0), rest.1)

module _ (clients : Clients) (low high : ℕ) where
  abbrev Within : Told → Type 0
  Within told = IsWithin clients low high told

  abbrev pub Held : Relay → Type 0
  Held relay = Holds clients low high relay

  no_told : All Within []
  no_told = All-nil Within

  one_told : (told : Told) → Within told → All Within (told ∷ [])
  one_told told is = All-cons Within told [] is no_told

  reply_within : (ticket : ℕ) (reply : List ℕ) → All Within (reply_told ticket reply)
  reply_within ticket reply = go (length reply == 0)
    where
      go : (empty : Bool) → All Within (cond empty [] (answer ticket reply ∷ []))
      go true = no_told
      go false = one_told (answer ticket reply) tt

  -- Clients ---------------------------------------------------------------------------------------------------------------

  -- to whichever replicas it goes
  request_within : (to : To) (text : List ℕ) → IsToReplicas to → IsRequestWithin clients low high text → Within (request_told to text)
  request_within Replicas text goes is = is
  request_within (Replica number) text goes is = is
  request_within (Client number) text goes is = absurd goes
  request_within Operator text goes is = absurd goes
  request_within (Caller ticket) text goes is = absurd goes

  begun_goes : (now : ℕ) (to : To) (call : Call) (seat : Seat) → IsToReplicas to → SeatHolds clients low seat → (begun : Option client.Call)
      → counted_call clients seat.counter call.bytes ≡ begun → SeatGoes clients low high seat (seat_with now call seat begun) (told_with to begun)
  begun_goes now to call seat goes holds None is = record { holds = holds; grows = omega arith; told = λ _. no_told }
  begun_goes now to call seat goes holds (Some begun) is =
      let signed = made (nat_lt seat.counter.next (2 ^ 64 - 1))
      (signed_request clients (record { client = seat.counter.client; timestamp = seat.counter.next; call = call.bytes }))
      (no_replies clients.f seat.counter.client seat.counter.next) begun is in
      let request : IsRequestWithin clients low (seat.counter.next + 1) (signed_text begun.request) = record {
        client = seat.counter.client;
        timestamp = seat.counter.next;
        call = call.bytes;
        signed = begun.request;
        is_signed = signed;
        is_text = refl;
        from = holds.from;
        below = omega arith;
      } in
      record {
        holds = record { from = omega (arith, holds.from); request = request };
        grows = omega arith;
        told = λ le. one_told (request_told to (signed_text begun.request))
            (request_within to (signed_text begun.request) goes
            (wider clients low (seat.counter.next + 1) low high (signed_text begun.request) (omega arith) le request));
      }

  settled_holds : (below : ℕ) (request : Outstanding) → IsRequestWithin clients low below request.text → (result : Option (List ℕ))
      → IsRequestIf clients low below (still_waits request result) × All Within (told_agreed request result)
  settled_holds below request is None = (is, no_told)
  settled_holds below request is (Some result) = (tt, reply_within request.ticket result)

  heard_holds : (signed : Signed Message) (below : ℕ) (request : Option Outstanding) → IsRequestIf clients low below request
      → IsRequestIf clients low below (settled (option_map (counted clients signed) request))
      × All Within (told_settling (option_map (counted clients signed) request))
  heard_holds signed below None is = (tt, no_told)
  heard_holds signed below (Some request) is = settled_holds below (counted clients signed request) is (agreed (counted clients signed request).tally)

  asked_holds : (now below : ℕ) (request : Option Outstanding) → IsRequestIf clients low below request
      → IsRequestIf clients low below (option_map (sent_again now) request) × (below ≤ high → All Within (told_again now request))
  asked_holds now below None is = (tt, λ _. no_told)
  asked_holds now below (Some request) is = go (is_due now request)
    where
      go : (due : Bool) → IsRequestWithin clients low below (cond due (sent now request) request).text
          × (below ≤ high → All Within (cond due (request_told Replicas request.text ∷ []) []))
      go true = (is, λ le. one_told (request_told Replicas request.text) (wider clients low below low high request.text (omega arith) le is))
      go false = (is, λ _. no_told)

  -- Relays ----------------------------------------------------------------------------------------------------------------

  seat_at : (seats : List Seat) (place : ℕ) (seat : Seat) → slice_get seats place ≡ Some seat → All (SeatHolds clients low) seats
      → SeatHolds clients low seat
  seat_at seats place seat is all =
      elim (slice_get_cases seats place).1 [
        | inl found ↦
            let same : found.0 ≡ seat = let both : Some found.0 ≡ Some seat = sym found.2 ∙ is in cc in
            subst (SeatHolds clients low) (found.3 ∙ same) (All-get_or (SeatHolds clients low) seats place found.0 found.1 all)
        | inr past ↦ let both = sym past.1 ∙ is in absurd cc
      ]

  -- one client takes a step
  seat_steps : (relay : Relay) (place : ℕ) (old new : Seat) (more : List Told) → slice_get relay.seats place ≡ Some old → Held relay
      → (SeatHolds clients low old → SeatGoes clients low high old new more) → Held (with_seat place new more relay)
  seat_steps relay place old new more is holds step =
      let goes = step (seat_at relay.seats place old is holds.seats) in
      let P : Seat → Type 0 = λ seat. seat.counter.next ≤ high in
      record {
        keys = holds.keys;
        seats = All-set (SeatHolds clients low) relay.seats place new goes.holds holds.seats;
        told = λ reserved.
            let before = unset P relay.seats place old new is (λ le. omega (arith, le, goes.grows))
            (recursion_from_All P (slice_set relay.seats place new) reserved) in
            All-append Within relay.told more (holds.told (All-from_recursion P relay.seats before.0)) (goes.told before.1);
      }

  -- something is told that is no request, or nothing
  tells : (relay : Relay) (more : List Told) → All Within more → Held relay → Held (record relay { told = relay.told ++ more })
  tells relay more all holds = record {
    keys = holds.keys;
    seats = holds.seats;
    told = λ reserved. All-append Within relay.told more (holds.told reserved) all;
  }

  begun_by_holds : (now place : ℕ) (call : Call) (relay : Relay) → Held relay → (seat : Option Seat) → slice_get relay.seats place ≡ seat
      → Held (begun_by seat now place call relay)
  begun_by_holds now place call relay holds None is = holds
  begun_by_holds now place call relay holds (Some seat) is =
      let P : Clients → Type 0 = λ keys. Held (with_seat place (begun keys now call seat) (told_beginning keys (asked_first relay) call seat) relay) in
      let to = asked_first relay in
      subst P (sym holds.keys)
      (seat_steps relay place seat (begun clients now call seat) (told_beginning clients to call seat) is holds
      (λ held. begun_goes now to call seat (leader_is_replica relay.clients.f relay.views) held (counted_call clients seat.counter call.bytes) refl))

  begun_at_holds : (now place : ℕ) (call : Call) (relay : Relay) → Held relay → Held (begun_at now place call relay)
  begun_at_holds now place call relay holds = begun_by_holds now place call relay holds (slice_get relay.seats place) refl

  next_of_holds : (now place : ℕ) (relay : Relay) → Held relay → (calls : List Call) → Held (next_of calls now place relay)
  next_of_holds now place relay holds [] = holds
  next_of_holds now place relay holds (call ∷ rest) =
      begun_at_holds now place call (record relay { calls = rest }) (record { keys = holds.keys; seats = holds.seats; told = holds.told })

  next_begun_holds : (now place : ℕ) (relay : Relay) → Held relay → Held (next_begun now place relay)
  next_begun_holds now place relay holds = go (is_free_among (slice_get relay.seats place))
    where
      go : (free : Bool) → Held (cond free (next_of relay.calls now place relay) relay)
      go true = next_of_holds now place relay holds relay.calls
      go false = holds

  dropped_holds : (now : ℕ) (relay : Relay) → Held relay → Held (dropped now relay)
  dropped_holds now relay holds = go (is_past relay.dropped_at second now)
    where
      go : (past : Bool) → Held (cond past (record relay { dropped_at = now; told = relay.told ++ dropped_told ∷ [] }) relay)
      go true =
          let more = tells relay (dropped_told ∷ []) (one_told dropped_told tt) holds in
          record { keys = more.keys; seats = more.seats; told = more.told }
      go false = holds

  queued_holds : (now : ℕ) (call : Call) (relay : Relay) → Held relay → Held (queued now call relay)
  queued_holds now call relay holds = go (nat_lt (length relay.calls) most_waiting)
    where
      go : (room : Bool) → Held (cond room (record relay { calls = relay.calls ++ call ∷ [] }) (dropped now relay))
      go true = record { keys = holds.keys; seats = holds.seats; told = holds.told }
      go false = dropped_holds now relay holds

  called_holds : (now : ℕ) (call : Call) (relay : Relay) → Held relay → Held (called now call relay)
  called_holds now call relay holds = go (position is_free relay.seats)
    where
      go : (place : Option ℕ) → Held (placed place now call relay)
      go (Some place) = begun_at_holds now place call relay holds
      go None = queued_holds now call relay holds

  heard_by_holds : (place : ℕ) (signed : Signed Message) (relay : Relay) → Held relay → (seat : Option Seat)
      → slice_get relay.seats place ≡ seat → Held (heard_by seat place signed relay)
  heard_by_holds place signed relay holds None is = holds
  heard_by_holds place signed relay holds (Some seat) is =
      let P : Clients → Type 0 = λ keys. Held (with_seat place (heard keys signed seat) (told_hearing keys signed seat) relay) in
      subst P (sym holds.keys)
      (seat_steps relay place seat (heard clients signed seat) (told_hearing clients signed seat) is holds
      (λ held.
      let parts = heard_holds signed seat.counter.next seat.request held.request in
      record { holds = record { from = held.from; request = parts.0 }; grows = omega arith; told = λ _. parts.1 }))

  heard_as_holds : (message : Message) (now : ℕ) (signed : Signed Message) (relay : Relay) → Held relay
      → Held (heard_as message now signed relay)
  heard_as_holds (Reply reply) now signed relay holds = go (position (is_of reply.client) relay.seats)
    where
      go : (place : Option ℕ) → Held (heard_at place now signed relay)
      go None = holds
      go (Some place) =
          next_begun_holds now place (heard_by (slice_get relay.seats place) place signed relay)
          (heard_by_holds place signed relay holds (slice_get relay.seats place) refl)
  heard_as_holds _ now signed relay holds = holds

  asked_by_holds : (now place : ℕ) (relay : Relay) → Held relay → (seat : Option Seat) → slice_get relay.seats place ≡ seat
      → Held (asked_by seat now place relay)
  asked_by_holds now place relay holds None is = holds
  asked_by_holds now place relay holds (Some seat) is =
      seat_steps relay place seat (asked_again now seat) (told_asking now seat) is holds
      (λ held.
      let parts = asked_holds now seat.counter.next seat.request held.request in
      record { holds = record { from = held.from; request = parts.0 }; grows = omega arith; told = parts.1 })

  -- Turns -----------------------------------------------------------------------------------------------------------------

  asked_all_holds : (now : ℕ) (places : List ℕ) (relay : Relay) → Held relay → Held (fold (asked_at now) relay places)
  asked_all_holds now [] relay holds = holds
  asked_all_holds now (place ∷ places) relay holds =
      asked_all_holds now places (asked_at now relay place) (asked_by_holds now place relay holds (slice_get relay.seats place) refl)

  answered_holds : (now ticket : ℕ) (bytes : List ℕ) (relay : Relay) → Held relay → (own : Option (List ℕ))
      → Held (answered own now ticket bytes relay)
  answered_holds now ticket bytes relay holds (Some reply) = tells relay (reply_told ticket reply) (reply_within ticket reply) holds
  answered_holds now ticket bytes relay holds None = called_holds now (record { ticket = ticket; bytes = bytes }) relay holds

  taken_holds : (now : ℕ) (relay : Relay) (read : Result (ℕ × List ℕ) Fault) → Held relay → Held (taken_as read now relay)
  taken_holds now relay (Ok call) holds = go (nat_lt most_request_bytes (length call.1))
    where
      go : (long : Bool) → Held (cond long relay (answered (own_reply call.1) now call.0 call.1 relay))
      go true = holds
      go false = answered_holds now call.0 call.1 relay holds (own_reply call.1)
  taken_holds now relay (Err fault) holds = holds

  frame_holds : (now : ℕ) (relay : Relay) (k : Kind) (payload : List ℕ) → Held relay → Held (frame_taken_as k payload now relay)
  frame_holds now relay kind.Call payload holds = taken_holds now relay (hyper_at payload) holds
  frame_holds now relay _ payload holds = holds

  calls_hold : (now : ℕ) (frames : List Frame) (relay : Relay) → Held relay → Held (calls_taken now frames relay)
  calls_hold now [] relay holds = holds
  calls_hold now (frame ∷ frames) relay holds =
      calls_hold now frames (call_taken now relay frame) (frame_holds now relay frame.kind frame.payload.items holds)

  replies_hold : (now : ℕ) (replies : List (Signed Message)) (relay : Relay) → Held relay
      → Held (fold (relay_heard now) relay replies)
  replies_hold now [] relay holds = holds
  replies_hold now (signed ∷ replies) relay holds =
      replies_hold now replies (relay_heard now relay signed)
      (heard_as_holds signed.message now signed (with_views signed relay) (record { keys = holds.keys; seats = holds.seats; told = holds.told }))

  pub turned_holds : (turn : Turn) (relay : Relay) → Held relay → Held (turned turn relay)
  turned_holds turn relay holds =
      let now = microseconds turn.time in
      let frames = turn.frames.items in
      let behind_replies = replies_hold now (filter_map reply_in frames) relay holds in
      let behind_calls = calls_hold now frames (replies_heard now frames relay) behind_replies in
      asked_all_holds now (range_with_len 0 (length (calls_taken now frames (replies_heard now frames relay)).seats))
      (calls_taken now frames (replies_heard now frames relay)) behind_calls
