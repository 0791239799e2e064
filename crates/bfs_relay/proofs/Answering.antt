-- What is told has its origin in what came.
use Rattle.std.proofs.Common.{◌≡◌, ◌∙◌, ℕ, Bool, true, false, cond, List, [], ◌∷◌, ◌++◌, length, map, Option, Some, None, Result, Ok, Err, inl, inr, refl, sym, subst}
use Rattle.std.specs.Prelude.{All, Contains, nat_lt}
use Rattle.std.specs.List.{cons_option, filter_map, fold, position, range_with_len, slice_get, slice_set}
use Rattle.std.proofs.lemmas.List.Elements.{All-append, All-cons, All-get_or, All-head, All-nil, All-set, All-tail}
use Rattle.std.proofs.lemmas.Bool.{ltb-false}
use Rattle.std.proofs.lemmas.Option.{slice_get_cases}
use Rattle.bfs_model.specs.Bytes.Items.{Fault, hyper_at}
use Rattle.bfs_model.specs.Server.Limits.{most_request_bytes}
use Rattle.bfs_messages.specs.declared.message.Message.{Message}
use Rattle.bfs_messages.specs.declared.message.Message.TheVariants.{Reply}
use Rattle.bfs_messages.specs.declared.signed.Signed.{Signed}
use Rattle.bfs_frames.specs.Frames.{microseconds}
use Rattle.bfs_frames.specs.declared.frames.Frame.{Frame}
use Rattle.bfs_frames.specs.declared.frames.Turn.{Turn}
use Rattle.bfs_frames.specs.declared.kind.Kind.{Kind}
use Rattle.bfs_frames.specs.declared.kind.Kind.TheVariants as kind
use Rattle.bfs_clients.specs.Clients.{Clients}
use Rattle.bfs_clients.specs.Counters.{Counter, counted_call}
use Rattle.bfs_relay.specs.Origins.{WhatIsToldHasItsOrigin, CallCame, Came, FrameCame, HasOrigin, ReplyCame, TurnCame, call_as, call_at, told_in}
use Rattle.bfs_relay.proofs.Leading.{leader_is_replica}
use Rattle.bfs_relay.proofs.Backed.{IsTaken, SeatHolds, asked_holds, begun_holds, heard_holds, more_told, no_told, one_told, reply_holds}
use Rattle.bfs_relay.specs.OwnReplies.{own_reply}
use Rattle.bfs_relay.specs.Parcels.{dropped_told, reply_told}
use Rattle.bfs_frames.specs.declared.parcels.To.{To}
use Rattle.bfs_relay.specs.Relays.{Relay, asked_at, asked_first, asked_by, begun_at, begun_by, called, dropped, heard_as, heard_at, heard_by, is_free_among, most_waiting, next_begun, next_of, placed, queued, relay_heard, with_views}
use Rattle.bfs_relay.specs.Seats.{Call, Seat, begun, heard, told_beginning, told_hearing, is_free, is_of, is_past, second, told_with}
use Rattle.bfs_relay.specs.Turns.{answered, call_taken, calls_taken, frame_taken_as, new_relay, replies_heard, reply_in, taken_as, turned}

-- What a relay keeps to -----------------------------------------------------------------------------------------------

record Holds (clients : Clients) (came : Came) (relay : Relay) : Type 0 where
  keys : relay.clients ≡ clients
  seats : All (SeatHolds clients came) relay.seats
  calls : All (IsTaken came) relay.calls
  told : All (HasOrigin clients came) relay.told

-- Parts of the definitions, by names -----------------------------------------------------------------------------------

abbrev free_seat : Counter → Seat
free_seat counter = record { counter = counter; request = None }

-- with the keys of clients beside it
abbrev begun_with : Clients → (now place : ℕ) → To → Call → Seat → Relay → Relay
begun_with keys now place to call seat relay =
    record relay { seats = slice_set relay.seats place (begun keys now call seat); told = relay.told ++ told_beginning keys to call seat }

abbrev heard_with : Clients → (place : ℕ) → Signed Message → Seat → Relay → Relay
heard_with keys place signed seat relay =
    record relay { seats = slice_set relay.seats place (heard keys signed seat); told = relay.told ++ told_hearing keys signed seat }

module _ (clients : Clients) (came : Came) where
  -- Relays --------------------------------------------------------------------------------------------------------------

  seat_at : (seats : List Seat) (place : ℕ) (seat : Seat) → slice_get seats place ≡ Some seat → All (SeatHolds clients came) seats → SeatHolds clients came seat
  seat_at seats place seat is all =
      elim (slice_get_cases seats place).1 [
        | inl found ↦
            let same : found.0 ≡ seat = let both : Some found.0 ≡ Some seat = sym found.2 ∙ is in cc in
            subst (SeatHolds clients came) (found.3 ∙ same) (All-get_or (SeatHolds clients came) seats place found.0 found.1 all)
        | inr past ↦ let both = sym past.1 ∙ is in absurd cc
      ]

  begun_by_holds : (now place : ℕ) (call : Call) (relay : Relay) → IsTaken came call → Holds clients came relay → (seat : Option Seat)
      → slice_get relay.seats place ≡ seat → Holds clients came (begun_by seat now place call relay)
  begun_by_holds now place call relay called holds None is = holds
  begun_by_holds now place call relay called holds (Some seat) is =
      let P : Clients → Type 0 = λ keys. Holds clients came (begun_with keys now place (asked_first relay) call seat relay) in
      subst P (sym holds.keys) (
      let to = asked_first relay in
      let parts = begun_holds clients came now to call seat (leader_is_replica relay.clients.f relay.views) called (seat_at relay.seats place seat is holds.seats) (counted_call clients seat.counter call.bytes) refl in
      record {
        keys = holds.keys;
        seats = All-set (SeatHolds clients came) relay.seats place _ parts.0 holds.seats;
        calls = holds.calls;
        told = more_told clients came relay.told (told_with to (counted_call clients seat.counter call.bytes)) holds.told parts.1;
      }
      )

  begun_at_holds : (now place : ℕ) (call : Call) (relay : Relay) → IsTaken came call → Holds clients came relay → Holds clients came (begun_at now place call relay)
  begun_at_holds now place call relay called holds = begun_by_holds now place call relay called holds (slice_get relay.seats place) refl

  next_of_holds : (now place : ℕ) (relay : Relay) → Holds clients came relay → (calls : List Call) → All (IsTaken came) calls
      → Holds clients came (next_of calls now place relay)
  next_of_holds now place relay holds [] all = holds
  next_of_holds now place relay holds (call ∷ rest) all =
      begun_at_holds now place call (record relay { calls = rest }) (All-head (IsTaken came) call rest all)
      (record { keys = holds.keys; seats = holds.seats; calls = All-tail (IsTaken came) call rest all; told = holds.told })

  next_begun_holds : (now place : ℕ) (relay : Relay) → Holds clients came relay → Holds clients came (next_begun now place relay)
  next_begun_holds now place relay holds = go (is_free_among (slice_get relay.seats place))
    where
      go : (free : Bool) → Holds clients came (cond free (next_of relay.calls now place relay) relay)
      go true = next_of_holds now place relay holds relay.calls holds.calls
      go false = holds

  dropped_holds : (now : ℕ) (relay : Relay) → Holds clients came relay → Holds clients came (dropped now relay)
  dropped_holds now relay holds = go (is_past relay.dropped_at second now)
    where
      go : (past : Bool) → Holds clients came (cond past (record relay { dropped_at = now; told = relay.told ++ dropped_told ∷ [] }) relay)
      go true = record {
        keys = holds.keys;
        seats = holds.seats;
        calls = holds.calls;
        told = more_told clients came relay.told (dropped_told ∷ []) holds.told (one_told clients came dropped_told tt);
      }
      go false = holds

  queued_holds : (now : ℕ) (call : Call) (relay : Relay) → IsTaken came call → Holds clients came relay → Holds clients came (queued now call relay)
  queued_holds now call relay called holds = go (nat_lt (length relay.calls) most_waiting)
    where
      go : (room : Bool) → Holds clients came (cond room (record relay { calls = relay.calls ++ call ∷ [] }) (dropped now relay))
      go true = record {
        keys = holds.keys;
        seats = holds.seats;
        told = holds.told;
        calls = All-append (IsTaken came) relay.calls (call ∷ []) holds.calls (All-cons (IsTaken came) call [] called (All-nil (IsTaken came)));
      }
      go false = dropped_holds now relay holds

  called_holds : (now : ℕ) (call : Call) (relay : Relay) → IsTaken came call → Holds clients came relay → Holds clients came (called now call relay)
  called_holds now call relay called holds = go (position is_free relay.seats)
    where
      go : (place : Option ℕ) → Holds clients came (placed place now call relay)
      go (Some place) = begun_at_holds now place call relay called holds
      go None = queued_holds now call relay called holds

  heard_by_holds : (place : ℕ) (signed : Signed Message) (relay : Relay) → Contains came.replies signed → Holds clients came relay → (seat : Option Seat)
      → slice_get relay.seats place ≡ seat → Holds clients came (heard_by seat place signed relay)
  heard_by_holds place signed relay in_came holds None is = holds
  heard_by_holds place signed relay in_came holds (Some seat) is =
      let P : Clients → Type 0 = λ keys. Holds clients came (heard_with keys place signed seat relay) in
      subst P (sym holds.keys) (
      let parts = heard_holds clients came signed seat.counter.client seat.request in_came (seat_at relay.seats place seat is holds.seats) in
      record {
        keys = holds.keys;
        seats = All-set (SeatHolds clients came) relay.seats place _ parts.0 holds.seats;
        calls = holds.calls;
        told = more_told clients came relay.told _ holds.told parts.1;
      }
      )

  heard_as_holds : (message : Message) (now : ℕ) (signed : Signed Message) (relay : Relay) → Contains came.replies signed → Holds clients came relay
      → Holds clients came (heard_as message now signed relay)
  heard_as_holds (Reply reply) now signed relay in_came holds = go (position (is_of reply.client) relay.seats)
    where
      go : (place : Option ℕ) → Holds clients came (heard_at place now signed relay)
      go None = holds
      go (Some place) =
          next_begun_holds now place (heard_by (slice_get relay.seats place) place signed relay)
          (heard_by_holds place signed relay in_came holds (slice_get relay.seats place) refl)
  heard_as_holds _ now signed relay in_came holds = holds

  asked_by_holds : (now place : ℕ) (relay : Relay) → Holds clients came relay → (seat : Option Seat) → slice_get relay.seats place ≡ seat
      → Holds clients came (asked_by seat now place relay)
  asked_by_holds now place relay holds None is = holds
  asked_by_holds now place relay holds (Some seat) is =
      let parts = asked_holds clients came now seat.counter.client seat.request (seat_at relay.seats place seat is holds.seats) in
      record {
        keys = holds.keys;
        seats = All-set (SeatHolds clients came) relay.seats place _ parts.0 holds.seats;
        calls = holds.calls;
        told = more_told clients came relay.told _ holds.told parts.1;
      }

  -- Turns ---------------------------------------------------------------------------------------------------------------

  asked_all_holds : (now : ℕ) (places : List ℕ) (relay : Relay) → Holds clients came relay → Holds clients came (fold (asked_at now) relay places)
  asked_all_holds now [] relay holds = holds
  asked_all_holds now (place ∷ places) relay holds =
      asked_all_holds now places (asked_at now relay place) (asked_by_holds now place relay holds (slice_get relay.seats place) refl)

  answered_holds : (now ticket : ℕ) (bytes : List ℕ) (relay : Relay) → IsTaken came (record { ticket = ticket; bytes = bytes }) → Holds clients came relay
      → (own : Option (List ℕ)) → own_reply bytes ≡ own → Holds clients came (answered own now ticket bytes relay)
  answered_holds now ticket bytes relay taken holds (Some reply) is = record {
    keys = holds.keys;
    seats = holds.seats;
    calls = holds.calls;
    told = more_told clients came relay.told (reply_told ticket reply) holds.told
        (reply_holds clients came ticket reply (inr (record { call = record { ticket = ticket; bytes = bytes }; called = taken.called; has_ticket = refl; own = is })));
  }
  answered_holds now ticket bytes relay taken holds None is = called_holds now (record { ticket = ticket; bytes = bytes }) relay taken holds

  taken_holds : (now : ℕ) (relay : Relay) (read : Result (ℕ × List ℕ) Fault) → CallCame came (call_at read) → Holds clients came relay
      → Holds clients came (taken_as read now relay)
  taken_holds now relay (Ok call) in_came holds = go (nat_lt most_request_bytes (length call.1)) refl
    where
      go : (long : Bool) → nat_lt most_request_bytes (length call.1) ≡ long
          → Holds clients came (cond long relay (answered (own_reply call.1) now call.0 call.1 relay))
      go true is = holds
      go false is =
          answered_holds now call.0 call.1 relay (record { called = in_came; short = ltb-false most_request_bytes (length call.1) is }) holds (own_reply call.1) refl
  taken_holds now relay (Err fault) in_came holds = holds

  frame_holds : (now : ℕ) (relay : Relay) (k : Kind) (payload : List ℕ) → CallCame came (call_as k payload) → Holds clients came relay
      → Holds clients came (frame_taken_as k payload now relay)
  frame_holds now relay kind.Call payload in_came holds = taken_holds now relay (hyper_at payload) in_came holds
  frame_holds now relay _ payload in_came holds = holds

  calls_hold : (now : ℕ) (frames : List Frame) (relay : Relay) → All (FrameCame came) frames → Holds clients came relay → Holds clients came (calls_taken now frames relay)
  calls_hold now [] relay all holds = holds
  calls_hold now (frame ∷ frames) relay all holds =
      calls_hold now frames (call_taken now relay frame) (All-tail (FrameCame came) frame frames all)
      (frame_holds now relay frame.kind frame.payload.items (All-head (FrameCame came) frame frames all).call holds)

  replies_hold : (now : ℕ) (replies : List (Signed Message)) (relay : Relay) → All (Contains came.replies) replies → Holds clients came relay
      → Holds clients came (fold (relay_heard now) relay replies)
  replies_hold now [] relay all holds = holds
  replies_hold now (signed ∷ replies) relay all holds =
      replies_hold now replies (relay_heard now relay signed) (All-tail (Contains came.replies) signed replies all)
      (heard_as_holds signed.message now signed (with_views signed relay) (All-head (Contains came.replies) signed replies all)
      (record { keys = holds.keys; seats = holds.seats; calls = holds.calls; told = holds.told }))

  replies_came : (frames : List Frame) → All (FrameCame came) frames → All (Contains came.replies) (filter_map reply_in frames)
  replies_came [] all = All-nil (Contains came.replies)
  replies_came (frame ∷ frames) all = go (replies_came frames (All-tail (FrameCame came) frame frames all)) (reply_in frame) (All-head (FrameCame came) frame frames all).reply
    where
      go : All (Contains came.replies) (filter_map reply_in frames) → (reply : Option (Signed Message)) → ReplyCame came reply
          → All (Contains came.replies) (cons_option reply (filter_map reply_in frames))
      go others None one = others
      go others (Some signed) one = All-cons (Contains came.replies) signed (filter_map reply_in frames) one others

  turned_holds : (turn : Turn) (relay : Relay) → TurnCame came turn → Holds clients came relay → Holds clients came (turned turn relay)
  turned_holds turn relay all holds =
      let now = microseconds turn.time in
      let frames = turn.frames.items in
      let behind_replies = replies_hold now (filter_map reply_in frames) relay (replies_came frames all) holds in
      let taken = calls_hold now frames (replies_heard now frames relay) all behind_replies in
      asked_all_holds now (range_with_len 0 (length (calls_taken now frames (replies_heard now frames relay)).seats))
      (calls_taken now frames (replies_heard now frames relay)) taken

  told_holds : (turns : List Turn) (relay : Relay) → All (TurnCame came) turns → Holds clients came relay → All (HasOrigin clients came) (told_in relay turns)
  told_holds [] relay all holds = no_told clients came
  told_holds (turn ∷ turns) relay all holds =
      let next = turned_holds turn relay (All-head (TurnCame came) turn turns all) holds in
      more_told clients came (turned turn relay).told (told_in (record (turned turn relay) { told = [] }) turns) next.told
      (told_holds turns (record (turned turn relay) { told = [] }) (All-tail (TurnCame came) turn turns all)
      (record { keys = next.keys; seats = next.seats; calls = next.calls; told = no_told clients came }))

  seats_free : (counters : List Counter) → All (SeatHolds clients came) (map (λ counter. free_seat counter) counters)
  seats_free [] = All-nil (SeatHolds clients came)
  seats_free (counter ∷ counters) = All-cons (SeatHolds clients came) (free_seat counter) (map (λ c. free_seat c) counters) tt (seats_free counters)

  new_holds : (counters : List Counter) → Holds clients came (new_relay clients counters)
  new_holds counters = record { keys = refl; seats = seats_free counters; calls = All-nil (IsTaken came); told = no_told clients came }

pub what_is_told_has_its_origin : WhatIsToldHasItsOrigin
what_is_told_has_its_origin clients counters came turns all = told_holds clients came turns (new_relay clients counters) all (new_holds clients came counters)
