-- What a relay does in a turn: first it hears the replies, then it takes the calls, then it asks again.
use Rattle.std.specs.Prelude.{ℕ, List, [], ◌++◌, fold, map, length, Option, Some, None, Result, Ok, Err, nat_lt, if◌then◌else◌}
use Rattle.std.specs.List.{filter_map}
use Rattle.bfs_model.specs.Bytes.Items.{Fault, hyper_at}
use Rattle.bfs_model.specs.Server.Limits.{most_request_bytes}
use Rattle.bfs_codec.specs.Reading.{message_of}
use Rattle.bfs_clients.specs.Clients.{Clients}
use Rattle.bfs_clients.specs.Counters.{Counter}
use Rattle.bfs_frames.specs.Frames.{microseconds}
use Rattle.bfs_frames.specs.declared.frames.Frame.{Frame}
use Rattle.bfs_frames.specs.declared.frames.Turn.{Turn}
use Rattle.bfs_frames.specs.declared.kind.Kind.{Kind}
use Rattle.bfs_frames.specs.declared.kind.Kind.TheVariants.{Call, Reply}
use Rattle.bfs_messages.specs.declared.message.Message.{Message}
use Rattle.bfs_messages.specs.declared.signed.Signed.{Signed}
use Rattle.bfs_relay.specs.Leaders.{no_views}
use Rattle.bfs_relay.specs.OwnReplies.{own_reply}
use Rattle.bfs_relay.specs.Parcels.{reply_told}
use Rattle.bfs_relay.specs.Relays.{Relay, all_asked, called, relay_heard}

-- Replies ------------------------------------------------------------------------------------------------------------

abbrev pub reply_as : Kind → (payload : List ℕ) → Option (Signed Message)
reply_as Reply payload = message_of payload
reply_as _ payload = None

-- the message of a frame that is to be a reply
abbrev pub reply_in : Frame → Option (Signed Message)
reply_in frame = reply_as frame.kind frame.payload.items

-- Calls --------------------------------------------------------------------------------------------------------------

abbrev pub answered : Option (List ℕ) → (now ticket : ℕ) → (bytes : List ℕ) → Relay → Relay
answered (Some reply) now ticket bytes relay = record relay { told = relay.told ++ reply_told ticket reply }
answered None now ticket bytes relay = called now (record { ticket = ticket; bytes = bytes }) relay

-- a message that is too long is passed over
abbrev pub taken_as : Result (ℕ × List ℕ) Fault → (now : ℕ) → Relay → Relay
taken_as (Ok call) now relay = if nat_lt most_request_bytes (length call.1) then relay else answered (own_reply call.1) now call.0 call.1 relay
taken_as (Err fault) now relay = relay

abbrev pub frame_taken_as : Kind → (payload : List ℕ) → (now : ℕ) → Relay → Relay
frame_taken_as Call payload now relay = taken_as (hyper_at payload) now relay
frame_taken_as _ payload now relay = relay

-- a frame with a call: its caller's ticket, and an RPC message
abbrev pub call_taken : (now : ℕ) → Relay → Frame → Relay
call_taken now relay frame = frame_taken_as frame.kind frame.payload.items now relay

-- Turns --------------------------------------------------------------------------------------------------------------

abbrev pub replies_heard : (now : ℕ) → List Frame → Relay → Relay
replies_heard now frames relay = fold (relay_heard now) relay (filter_map reply_in frames)

abbrev pub calls_taken : (now : ℕ) → List Frame → Relay → Relay
calls_taken now frames relay = fold (call_taken now) relay frames

-- with what it tells
abbrev pub turned_at : (now : ℕ) → List Frame → Relay → Relay
turned_at now frames relay = all_asked now (calls_taken now frames (replies_heard now frames relay))

abbrev pub turned : Turn → Relay → Relay
turned turn relay = turned_at (microseconds turn.time) turn.frames.items relay

-- A relay that has done nothing --------------------------------------------------------------------------------------

abbrev pub new_relay : Clients → List Counter → Relay
new_relay clients counters = record { clients = clients; seats = map (λ counter. record { counter = counter; request = None }) counters; calls = []; dropped_at = 0; views = no_views; told = [] }
