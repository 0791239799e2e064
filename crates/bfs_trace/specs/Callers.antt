-- For whom clients send their calls.
use Rattle.std.specs.Prelude.{ℕ, zero, suc, ◌+◌, ◌-◌, List, [], ◌∷◌, ◌++◌, length, Option, Some, None, nat_lt, slice_set, if◌then◌else◌}
use Rattle.bfs_model.specs.Bytes.Call.{Credential, ◌>>=◌}
use Rattle.bfs_trace.specs.Operands.{most_number, number_in}
use Rattle.bfs_trace.specs.Population.{Population}
use Rattle.bfs_trace.specs.Words.{number_spelled, word_in}

-- The callers at a place of a trace ------------------------------------------------------------------------------------

-- a client's credential, where no line has set another
abbrev pub first_caller : (client : ℕ) → Credential
first_caller client = record { uid = 1000 + client; gid = 100; gids = [] }

-- those of so many clients, by their numbers
unfoldable pub first_callers : (clients : ℕ) → List Credential
first_callers zero = []
first_callers (suc client) = first_callers client ++ first_caller client ∷ []

-- a client, and the credential that its later calls have
pub record Caller : Type 0 where
  pub client : ℕ
  pub credential : Credential

abbrev pub with_caller : List Credential → Caller → List Credential
with_caller callers caller = slice_set callers caller.client caller.credential

-- How a line spells a caller -------------------------------------------------------------------------------------------

-- the most groups behind the first (RFC 5531 appendix A)
abbrev pub most_gids : ℕ
most_gids = 16

-- numbers below 2^32, as many as there are words
unfoldable pub gids_spelled : List (List ℕ) → Option (List ℕ)
gids_spelled [] = Some []
gids_spelled (word ∷ words) = do
  gid ← number_spelled most_number word
  more ← gids_spelled words
  Some (gid ∷ more)

-- the groups behind the first
abbrev pub gids_in : List (List ℕ) → Option (List ℕ)
gids_in words = do
  gids ← gids_spelled words
  if nat_lt most_gids (length gids) then None else Some gids

-- `UID GID [GID..]`
abbrev pub credential_spelled : List (List ℕ) → Option Credential
credential_spelled words = do
  uid ← number_in words
  gid ← number_in uid.1
  gids ← gids_in gid.1
  Some (record { uid = uid.0; gid = gid.0; gids = gids })

-- `CLIENT UID GID [GID..]`, with a client below the number of clients
abbrev pub caller_spelled : Population → List (List ℕ) → Option Caller
caller_spelled population words = do
  client ← word_in words
  c ← number_spelled (population.clients - 1) client.0
  credential ← credential_spelled client.1
  Some (record { client = c; credential = credential })
