-- What clients make of the replies to their requests: a tally for each request, whose client accepts a result that f + 1 replicas sent, since
-- at most f are faulty (OSDI 1999 section 4.1).
use Rattle.std.specs.Prelude.{ℕ, ◌+◌, ◌<◌, ◌==◌, Bool, false, ◌&&◌, not, List, [], ◌∷◌, ◌++◌, fold, map, Option, Some, None, All, nat_le, bytes_eq, if◌then◌else◌}
use Rattle.std.specs.List.{IsDistinct, find, list_any, count_by}
use Rattle.std.specs.Option.{is_some, option_map}
use Rattle.bfs_model.specs.Server.Limits.{most_replicas}
use Rattle.bfs_auth.specs.Keys.{Keys}
use Rattle.bfs_messages.specs.Messages as model
use Rattle.bfs_messages.specs.Signing.{is_signed}
use Rattle.bfs_messages.specs.declared.message.Message.{Message}
use Rattle.bfs_messages.specs.declared.message.Message.TheVariants.{Reply}
use Rattle.bfs_messages.specs.declared.signed.Signed.{Signed}
use Rattle.bfs_clients.specs.Clients.{Clients, keys_at}

pub record Counted : Type 0 where
  pub sender : ℕ
  pub result : List ℕ

pub record Tally : Type 0 where
  -- at most so many replicas are faulty
  pub f : ℕ
  -- whose request it is, and of which timestamp
  pub client : ℕ
  pub timestamp : ℕ
  -- one reply of each sender, in the order in which they came
  pub counted : List Counted

abbrev pub no_replies : (f client timestamp : ℕ) → Tally
no_replies f client timestamp = record { f = f; client = client; timestamp = timestamp; counted = [] }

-- Who signed a reply -------------------------------------------------------------------------------------------------

abbrev pub is_signed_by : Option Keys → Signed Message → Bool
is_signed_by (Some keys) signed = is_signed keys signed
is_signed_by None signed = false

abbrev pub reply_is_signed : Clients → Signed Message → Message → Bool
reply_is_signed clients signed (Reply reply) = is_signed_by (keys_at clients reply.client) signed
reply_is_signed clients signed _ = false

-- a REPLY that is signed as the client to whom it goes sees it
abbrev pub is_signed_reply : Clients → Signed Message → Bool
is_signed_reply clients signed = reply_is_signed clients signed signed.message

-- Counting -----------------------------------------------------------------------------------------------------------

abbrev pub has_counted : List Counted → (sender : ℕ) → Bool
has_counted counted sender = list_any (λ one. sender == one.sender) counted

-- it is to the request, and the first of its sender
abbrev pub is_wanted : Tally → model.Reply → Bool
is_wanted tally reply = (reply.client == tally.client) && ((reply.timestamp == tally.timestamp) && not (has_counted tally.counted reply.sender))

abbrev pub with_reply : Tally → model.Reply → Tally
with_reply tally reply = record tally { counted = tally.counted ++ record { sender = reply.sender; result = reply.result } ∷ [] }

-- a REPLY counts if it is wanted and signed; other messages don't
abbrev pub tallied_as : Message → (is_signed : Bool) → Tally → Tally
tallied_as (Reply reply) is_signed tally = if is_wanted tally reply && is_signed then with_reply tally reply else tally
tallied_as _ is_signed tally = tally

abbrev pub tallied_by : Clients → Tally → Signed Message → Tally
tallied_by clients tally signed = tallied_as signed.message (is_signed_reply clients signed) tally

-- tallies once messages have come, one after another
abbrev pub all_tallied : Clients → List (Signed Message) → List Tally → List Tally
all_tallied clients messages tallies = map (λ tally. fold (tallied_by clients) tally messages) tallies

-- Agreeing -----------------------------------------------------------------------------------------------------------

-- how many replicas sent that result
abbrev pub senders_of : List Counted → (result : List ℕ) → ℕ
senders_of counted result = count_by (λ one. bytes_eq one.result result) counted

abbrev pub is_agreed : Tally → Counted → Bool
is_agreed tally one = nat_le (tally.f + 1) (senders_of tally.counted one.result)

-- the first result that f + 1 replicas sent
abbrev pub agreed : Tally → Option (List ℕ)
agreed tally = option_map (λ one. one.result) (find (is_agreed tally) tally.counted)

-- the client has no result yet
abbrev pub waits : Tally → Bool
waits tally = not (is_some (agreed tally))

-- the tally of a request after messages, in the order in which they came
abbrev pub tally_of : Clients → List (Signed Message) → (client timestamp : ℕ) → Tally
tally_of clients replies client timestamp = fold (tallied_by clients) (no_replies clients.f client timestamp) replies

-- what the client accepts of those replies to its request
abbrev pub result_to : Clients → List (Signed Message) → (client timestamp : ℕ) → Option (List ℕ)
result_to clients replies client timestamp = agreed (tally_of clients replies client timestamp)

-- What every tally keeps ---------------------------------------------------------------------------------------------

abbrev pub senders : List Counted → List ℕ
senders counted = map (λ one. one.sender) counted

-- no two replies of one sender, each of a replica: so there are at most as many as replicas can be
pub record AreOfReplicas (counted : List Counted) : Type 0 where
  pub differ : IsDistinct ◌==◌ (senders counted)
  pub replicas : All (λ one. one.sender < most_replicas) counted
