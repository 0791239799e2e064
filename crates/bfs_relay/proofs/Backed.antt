-- What a client has under way was signed for a call that came, and has counted replies that came; so what it is answered has its origin there.
use Rattle.std.proofs.Common.{◌≡◌, ◌∙◌, ◌⊎◌, ℕ, ◌-◌, ◌*◌, ◌^◌, ◌≤◌, min, ◌==◌, Bool, true, false, cond, List, [], ◌∷◌, ◌++◌, length, Option, Some, None, inl, refl, sym, ap, arith}
use Rattle.std.specs.Prelude.{All, Contains, nat_lt}
use Rattle.std.specs.Option.{option_map}
use Rattle.std.proofs.lemmas.List.Elements.{All-append, All-cons, All-nil}
use Rattle.std.proofs.lemmas.List.Sums.{fold-append}
use Rattle.std.proofs.lemmas.Bool.{ltb-true}
use Rattle.bfs_model.specs.Bytes.Items.{hyper}
use Rattle.bfs_model.specs.Server.Limits.{most_request_bytes}
use Rattle.bfs_messages.specs.declared.message.Message.{Message}
use Rattle.bfs_messages.specs.declared.signed.Signed.{Signed}
use Rattle.bfs_frames.specs.declared.kind.Kind.TheVariants as kind
use Rattle.bfs_frames.specs.declared.parcels.To.{To}
use Rattle.bfs_frames.specs.declared.parcels.To.TheVariants.{Caller, Client, Operator, Replica, Replicas}
use Rattle.bfs_messages.specs.Spelling.{signed_text}
use Rattle.bfs_clients.specs.Clients.{Clients, signed_request}
use Rattle.bfs_clients.specs.Counters.{counted_call}
use Rattle.bfs_clients.specs.Tallies.{Tally, agreed, no_replies, tallied_by, tally_of}
use Rattle.bfs_clients.specs.declared.clients.Call as client
use Rattle.bfs_relay.specs.Origins.{Came, HasOrigin, IsAgreed, IsOwn, IsRequest, IsSignedFor}
use Rattle.bfs_frames.specs.Parcels.{Told}
use Rattle.bfs_relay.specs.Leaders.{IsToReplicas}
use Rattle.bfs_relay.specs.Parcels.{reply_told, request_told}
use Rattle.bfs_relay.specs.Relays.{called}
use Rattle.bfs_relay.specs.Seats.{Call, Outstanding, Seat, begun, counted, is_due, most_patience, outstanding, seat_with, sent_again, settled, still_waits, told_again, told_agreed, told_settling, told_with}

-- What a relay keeps to -----------------------------------------------------------------------------------------------

-- a request was signed for a call that came, and its tally has counted replies that came
pub record IsBacked (clients : Clients) (came : Came) (client : ℕ) (request : Outstanding) : Type 0 where
  pub timestamp : ℕ
  pub asked : IsSignedFor clients came request.ticket client timestamp request.text
  pub replies : List (Signed Message)
  pub heard : All (Contains came.replies) replies
  pub tallied : request.tally ≡ tally_of clients replies client timestamp

abbrev pub IsBackedIf : Clients → Came → (client : ℕ) → Option Outstanding → Type 0
IsBackedIf clients came client None = Unit {0}
IsBackedIf clients came client (Some request) = IsBacked clients came client request

abbrev pub SeatHolds : Clients → Came → Seat → Type 0
SeatHolds clients came seat = IsBackedIf clients came seat.counter.client seat.request

-- Parts of the definitions, by names -----------------------------------------------------------------------------------

abbrev answer : (ticket : ℕ) (reply : List ℕ) → Told
answer ticket reply = record { to = Caller ticket; kind = kind.Answer; payload = hyper ticket ++ reply }

abbrev sent : (now : ℕ) → Outstanding → Outstanding
sent now request = record request { sent_at = now; patience = min (2 * request.patience) most_patience }

abbrev made_call : Signed Message → Tally → client.Call
made_call signed tally = record { request = signed; tally = tally }

-- a call that came, and is no longer than a request may be
pub record IsTaken (came : Came) (call : Call) : Type 0 where
  pub called : Contains came.calls call
  pub short : length call.bytes ≤ most_request_bytes

-- what a call that begins is made of
made : (may : Bool) (signed : Option (Signed Message)) (tally : Tally) (begun : client.Call)
    → cond may (option_map (λ (s : Signed Message). made_call s tally) signed) None ≡ Some begun
    → (signed ≡ Some begun.request) × (begun.tally ≡ tally) × (may ≡ true)
made true (Some s) tally begun is =
    let same : made_call s tally ≡ begun = cc in
    (ap (λ (c : client.Call). Some c.request) same, sym (ap (λ (c : client.Call). c.tally) same), refl)
made true None tally begun is = absurd cc
made false signed tally begun is = absurd cc

module _ (clients : Clients) (came : Came) where
  pub no_told : All (HasOrigin clients came) []
  no_told = All-nil (HasOrigin clients came)

  pub one_told : (told : Told) → HasOrigin clients came told → All (HasOrigin clients came) (told ∷ [])
  one_told told origin = All-cons (HasOrigin clients came) told [] origin no_told

  pub more_told : (told more : List Told) → All (HasOrigin clients came) told → All (HasOrigin clients came) more → All (HasOrigin clients came) (told ++ more)
  more_told = All-append (HasOrigin clients came)

  -- Seats ---------------------------------------------------------------------------------------------------------------

  request_of : (client : ℕ) (request : Outstanding) → IsBacked clients came client request → IsRequest clients came request.text
  request_of client request backed = record { ticket = request.ticket; client = client; timestamp = backed.timestamp; asked = backed.asked }

  -- to whichever replicas it goes
  request_origin : (to : To) (text : List ℕ) → IsToReplicas to → IsRequest clients came text → HasOrigin clients came (request_told to text)
  request_origin Replicas text goes is = is
  request_origin (Replica number) text goes is = is
  request_origin (Client number) text goes is = absurd goes
  request_origin Operator text goes is = absurd goes
  request_origin (Caller ticket) text goes is = absurd goes

  pub begun_holds : (now : ℕ) (to : To) (call : Call) (seat : Seat) → IsToReplicas to → IsTaken came call → SeatHolds clients came seat
      → (begun : Option client.Call) → counted_call clients seat.counter call.bytes ≡ begun
      → SeatHolds clients came (seat_with now call seat begun) × All (HasOrigin clients came) (told_with to begun)
  begun_holds now to call seat goes taken holds None is = (holds, no_told)
  begun_holds now to call seat goes taken holds (Some begun) is =
      let parts = made (nat_lt seat.counter.next (2 ^ 64 - 1)) (signed_request clients (record { client = seat.counter.client; timestamp = seat.counter.next; call = call.bytes }))
      (no_replies clients.f seat.counter.client seat.counter.next) begun is in
      let backed : IsBacked clients came seat.counter.client (outstanding now call.ticket begun) = record {
        timestamp = seat.counter.next;
        asked = record {
          call = call;
          called = taken.called;
          has_ticket = refl;
          short = taken.short;
          counted = omega (arith, ltb-true seat.counter.next (2 ^ 64 - 1) parts.2);
          signed = begun.request;
          is_signed = parts.0;
          is_text = refl;
        };
        replies = [];
        heard = All-nil (Contains came.replies);
        tallied = parts.1;
      } in (backed, one_told (request_told to (signed_text begun.request)) (request_origin to (signed_text begun.request) goes (request_of seat.counter.client (outstanding now call.ticket begun) backed)))

  counted_holds : (signed : Signed Message) (client : ℕ) (request : Outstanding) → Contains came.replies signed → IsBacked clients came client request
      → IsBacked clients came client (counted clients signed request)
  counted_holds signed client request in_came backed = record {
    timestamp = backed.timestamp;
    asked = backed.asked;
    replies = backed.replies ++ signed ∷ [];
    heard = All-append (Contains came.replies) backed.replies (signed ∷ []) backed.heard (All-cons (Contains came.replies) signed [] in_came (All-nil (Contains came.replies)));
    tallied = ap (λ (tally : Tally). tallied_by clients tally signed) backed.tallied
        ∙ sym (fold-append (tallied_by clients) (no_replies clients.f client backed.timestamp) backed.replies (signed ∷ []));
  }

  pub reply_holds : (ticket : ℕ) (reply : List ℕ) → IsAgreed clients came ticket reply ⊎ IsOwn came ticket reply → All (HasOrigin clients came) (reply_told ticket reply)
  reply_holds ticket reply origin = go (length reply == 0)
    where
      go : (empty : Bool) → All (HasOrigin clients came) (cond empty [] (answer ticket reply ∷ []))
      go true = no_told
      go false = one_told (answer ticket reply) (record { reply = reply; spelled = refl; origin = origin })

  agreed_holds : (client : ℕ) (request : Outstanding) → IsBacked clients came client request → (result : Option (List ℕ)) → agreed request.tally ≡ result
      → IsBackedIf clients came client (still_waits request result) × All (HasOrigin clients came) (told_agreed request result)
  agreed_holds client request backed None is = (backed, no_told)
  agreed_holds client request backed (Some result) is = (
    tt,
    reply_holds request.ticket result (inl (record {
      client = client;
      timestamp = backed.timestamp;
      text = request.text;
      asked = backed.asked;
      replies = backed.replies;
      heard = backed.heard;
      accepted = ap agreed (sym backed.tallied) ∙ is;
    })),
  )

  pub heard_holds : (signed : Signed Message) (client : ℕ) (request : Option Outstanding) → Contains came.replies signed → IsBackedIf clients came client request
      → IsBackedIf clients came client (settled (option_map (counted clients signed) request))
      × All (HasOrigin clients came) (told_settling (option_map (counted clients signed) request))
  heard_holds signed client None in_came backed = (tt, no_told)
  heard_holds signed client (Some request) in_came backed =
      agreed_holds client (counted clients signed request) (counted_holds signed client request in_came backed) (agreed (counted clients signed request).tally) refl

  pub asked_holds : (now client : ℕ) (request : Option Outstanding) → IsBackedIf clients came client request
      → IsBackedIf clients came client (option_map (sent_again now) request) × All (HasOrigin clients came) (told_again now request)
  asked_holds now client None backed = (tt, no_told)
  asked_holds now client (Some request) backed = go (is_due now request)
    where
      go : (due : Bool) → IsBacked clients came client (cond due (sent now request) request) × All (HasOrigin clients came) (cond due (request_told Replicas request.text ∷ []) [])
      go true = (
        record { timestamp = backed.timestamp; asked = backed.asked; replies = backed.replies; heard = backed.heard; tallied = backed.tallied },
        one_told (request_told Replicas request.text) (request_of client request backed),
      )
      go false = (backed, no_told)
