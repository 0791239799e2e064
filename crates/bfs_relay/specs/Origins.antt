-- Where what a relay tells comes from: each request was signed for a call that came, and each answer is the relay's own reply to the call of that ticket, or
-- what f + 1 replicas sent in reply to the request that was signed for it.
use Rattle.std.specs.Prelude.{◌≡◌, ℕ, ◌<◌, ◌≤◌, ◌^◌, List, [], ◌∷◌, ◌++◌, ◌⊎◌, All, Contains, length, Option, Some, None, Result, Ok, Err}
use Rattle.bfs_model.specs.Bytes.Items.{Fault, hyper, hyper_at}
use Rattle.bfs_model.specs.Server.Limits.{most_request_bytes}
use Rattle.bfs_clients.specs.Clients.{Clients, signed_request}
use Rattle.bfs_clients.specs.Counters.{Counter}
use Rattle.bfs_clients.specs.Tallies.{result_to}
use Rattle.bfs_frames.specs.declared.frames.Frame.{Frame}
use Rattle.bfs_frames.specs.declared.frames.Turn.{Turn}
use Rattle.bfs_frames.specs.declared.kind.Kind.{Kind}
use Rattle.bfs_frames.specs.declared.kind.Kind.TheVariants as kind
use Rattle.bfs_frames.specs.declared.parcels.To.{To}
use Rattle.bfs_frames.specs.declared.parcels.To.TheVariants.{Replicas, Replica, Caller}
use Rattle.bfs_messages.specs.Spelling.{signed_text}
use Rattle.bfs_messages.specs.declared.message.Message.{Message}
use Rattle.bfs_messages.specs.declared.signed.Signed.{Signed}
use Rattle.bfs_relay.specs.OwnReplies.{own_reply}
use Rattle.bfs_frames.specs.Parcels.{Told}
use Rattle.bfs_relay.specs.Relays.{Relay}
use Rattle.bfs_relay.specs.Seats.{Call}
use Rattle.bfs_relay.specs.Turns.{new_relay, reply_in, turned}

-- What came -----------------------------------------------------------------------------------------------------------

-- calls, and messages that were to be replies
pub record Came : Type 0 where
  pub calls : List Call
  pub replies : List (Signed Message)

abbrev pub call_at : Result (ℕ × List ℕ) Fault → Option Call
call_at (Ok call) = Some (record { ticket = call.0; bytes = call.1 })
call_at (Err fault) = None

abbrev pub call_as : Kind → (payload : List ℕ) → Option Call
call_as kind.Call payload = call_at (hyper_at payload)
call_as _ payload = None

-- the call of a frame, if it is one
abbrev pub call_in : Frame → Option Call
call_in frame = call_as frame.kind frame.payload.items

abbrev pub CallCame : Came → Option Call → Type 0
CallCame came None = Unit {0}
CallCame came (Some call) = Contains came.calls call

abbrev pub ReplyCame : Came → Option (Signed Message) → Type 0
ReplyCame came None = Unit {0}
ReplyCame came (Some signed) = Contains came.replies signed

pub record FrameCame (came : Came) (frame : Frame) : Type 0 where
  pub call : CallCame came (call_in frame)
  pub reply : ReplyCame came (reply_in frame)

abbrev pub TurnCame : Came → Turn → Type 0
TurnCame came turn = All (FrameCame came) turn.frames.items

-- What is told ---------------------------------------------------------------------------------------------------------

-- the text of the request of a client and a timestamp that has the bytes of a call with that ticket
pub record IsSignedFor (clients : Clients) (came : Came) (ticket client timestamp : ℕ) (text : List ℕ) : Type 0 where
  pub call : Call
  pub called : Contains came.calls call
  pub has_ticket : call.ticket ≡ ticket
  pub short : length call.bytes ≤ most_request_bytes
  pub counted : timestamp < 2 ^ 64
  pub signed : Signed Message
  pub is_signed : signed_request clients (record { client = client; timestamp = timestamp; call = call.bytes }) ≡ Some signed
  pub is_text : text ≡ signed_text signed

-- the text of a request that a client signed for a call
pub record IsRequest (clients : Clients) (came : Came) (text : List ℕ) : Type 0 where
  pub ticket : ℕ
  pub client : ℕ
  pub timestamp : ℕ
  pub asked : IsSignedFor clients came ticket client timestamp text

-- a client accepts it, as the result of the request that was signed for that ticket
pub record IsAgreed (clients : Clients) (came : Came) (ticket : ℕ) (reply : List ℕ) : Type 0 where
  pub client : ℕ
  pub timestamp : ℕ
  pub text : List ℕ
  pub asked : IsSignedFor clients came ticket client timestamp text
  pub replies : List (Signed Message)
  pub heard : All (Contains came.replies) replies
  pub accepted : result_to clients replies client timestamp ≡ Some reply

-- the relay's own reply to a call with that ticket
pub record IsOwn (came : Came) (ticket : ℕ) (reply : List ℕ) : Type 0 where
  pub call : Call
  pub called : Contains came.calls call
  pub has_ticket : call.ticket ≡ ticket
  pub own : own_reply call.bytes ≡ Some reply

pub record IsAnswer (clients : Clients) (came : Came) (ticket : ℕ) (payload : List ℕ) : Type 0 where
  pub reply : List ℕ
  pub spelled : payload ≡ hyper ticket ++ reply
  pub origin : IsAgreed clients came ticket reply ⊎ IsOwn came ticket reply

abbrev pub HasOriginTo : Clients → Came → To → (payload : List ℕ) → Type 0
HasOriginTo clients came Replicas payload = IsRequest clients came payload
HasOriginTo clients came (Replica number) payload = IsRequest clients came payload
HasOriginTo clients came (Caller ticket) payload = IsAnswer clients came ticket payload
HasOriginTo clients came _ payload = Unit {0}

abbrev pub HasOrigin : Clients → Came → Told → Type 0
HasOrigin clients came told = HasOriginTo clients came told.to told.payload

-- Runs ------------------------------------------------------------------------------------------------------------------

-- all that a relay tells in turns, one after another
abbrev pub told_in : Relay → List Turn → List Told
told_in relay [] = []
told_in relay (turn ∷ turns) = (turned turn relay).told ++ told_in (record (turned turn relay) { told = [] }) turns

-- whatever comes, all that is told has its origin in it
abbrev pub WhatIsToldHasItsOrigin : Type 0
WhatIsToldHasItsOrigin = (clients : Clients) (counters : List Counter) (came : Came) (turns : List Turn) → All (TurnCame came) turns
    → All (HasOrigin clients came) (told_in (new_relay clients counters) turns)
