-- What repeated requests do, by one client whose table has no reply yet: whatever the file system is, the time and the calls.
use Rattle.std.specs.Prelude.{◌≡◌, ℕ, List, [], ◌∷◌, Some, None}
use Rattle.bfs_model.specs.Server.Serial.{answer, effective_time}
use Rattle.bfs_model.specs.Server.Tree.{FileSystem, Time}
use Rattle.bfs_auth.specs.declared.authenticators.Authenticator.TheVariants.{Hashes}
use Rattle.bfs_messages.specs.Messages.{Batch, Request}
use Rattle.bfs_messages.specs.declared.signed.Signed.{Signed}
use Rattle.bfs_outcome.specs.Outcome.{answer_to, outcome}
use Rattle.bfs_one_server.specs.Serving.{Effect, effects_in}

abbrev request_at : (timestamp : ℕ) → (call : List ℕ) → Request
request_at timestamp call = record { client = 0; timestamp = timestamp; call = call }

abbrev signed : Request → Signed Request
signed request = record { message = request; auth = Hashes [] }

abbrev batch_of : Time → Request → Request → Batch
batch_of time one other = Some (record { time = time; requests = signed one ∷ signed other ∷ [] })

-- the reply of one server to it, as the first of its batch
abbrev reply_first : FileSystem → Time → Request → List ℕ
reply_first files time request = (answer files.tree files.next_ordinal (effective_time files.last_time time) request.call).1

abbrev effect_first : FileSystem → Time → Request → Effect
effect_first files time request = record { request = request; time = effective_time files.last_time time; reply = reply_first files time request }

-- the first request takes effect, and the second one does not
abbrev pub OnlyFirst : FileSystem → Time → (one other : Request) → Type 0
OnlyFirst files time one other = effects_in files (None ∷ []) (batch_of time one other) ≡ effect_first files time one ∷ []

-- a request that is ordered twice takes effect once, and is answered twice alike
abbrev pub SentTwice : Type 0
SentTwice = (files : FileSystem) (time : Time) (call : List ℕ) → let request = request_at 1 call in
    OnlyFirst files time request request
    × ((outcome files (None ∷ []) (batch_of time request request)).answers ≡ answer_to request (reply_first files time request) ∷ answer_to request (reply_first files time request) ∷ [])

-- where a client's later request is executed first, the earlier one never takes effect, and has no answer
abbrev pub LaterFirst : Type 0
LaterFirst = (files : FileSystem) (time : Time) (earlier later : List ℕ) →
    OnlyFirst files time (request_at 2 later) (request_at 1 earlier)
    × ((outcome files (None ∷ []) (batch_of time (request_at 2 later) (request_at 1 earlier))).answers ≡ answer_to (request_at 2 later) (reply_first files time (request_at 2 later)) ∷ [])

-- two calls of one timestamp: the second never takes effect, and is answered with the first one's reply. So a client that signs two is told what
-- it did not ask
abbrev pub OneTimestampTwice : Type 0
OneTimestampTwice = (files : FileSystem) (time : Time) (call other : List ℕ) →
    OnlyFirst files time (request_at 1 call) (request_at 1 other)
    × ((outcome files (None ∷ []) (batch_of time (request_at 1 call) (request_at 1 other))).answers
    ≡ answer_to (request_at 1 call) (reply_first files time (request_at 1 call)) ∷ answer_to (request_at 1 other) (reply_first files time (request_at 1 call)) ∷ [])
