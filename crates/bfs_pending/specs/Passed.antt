-- Requests that wait have passed: one that is alike to the holder of the keys is not checked again.
use Rattle.std.specs.Prelude.{◌≡◌, ℕ, Bool, true, false, ◌&&◌, List, [], ◌∷◌, Option, Some, None, bytes_eq, if◌then◌else◌}
use Rattle.std.specs.List.{list_all}
use Rattle.bfs_auth.specs.Authenticators.{entry_at}
use Rattle.bfs_auth.specs.Keys.{Keys}
use Rattle.bfs_auth.specs.declared.authenticators.Authenticator.{Authenticator}
use Rattle.bfs_auth.specs.declared.authenticators.Authenticator.TheVariants.{Hashes, Signature}
use Rattle.bfs_auth.specs.declared.principals.Principal.{Principal}
use Rattle.bfs_messages.specs.Messages.{Request}
use Rattle.bfs_messages.specs.Signing.{request_is_signed}
use Rattle.bfs_messages.specs.declared.signed.Signed.{Signed}
use Rattle.bfs_pending.specs.Requests.{is_same}

-- all of them are their clients', as the holder of the keys sees it
abbrev pub HavePassed : Keys → List (Signed Request) → Type 0
HavePassed keys requests = list_all (request_is_signed keys) requests ≡ true

abbrev pub are_equal : Option (List ℕ) → Option (List ℕ) → Bool
are_equal (Some one) (Some other) = bytes_eq one other
are_equal (Some _) None = false
are_equal None _ = false

-- in all that a receiver reads of them: its own keyed hash, or the whole signature
abbrev pub is_read_alike : (receiver : Principal) → Authenticator → Authenticator → Bool
is_read_alike receiver (Hashes one) (Hashes other) = are_equal (entry_at receiver one) (entry_at receiver other)
is_read_alike receiver (Signature one) (Signature other) = bytes_eq one other
is_read_alike receiver (Hashes _) (Signature _) = false
is_read_alike receiver (Signature _) (Hashes _) = false

-- in all that a receiver reads to check them: what is asked for, and what it reads of the authenticators
abbrev pub is_alike : (receiver : Principal) → Signed Request → Signed Request → Bool
is_alike receiver one other =
    is_same one other && (bytes_eq one.message.call other.message.call && is_read_alike receiver one.auth other.auth)

abbrev pub later : Option (Signed Request) → Option (Signed Request) → Option (Signed Request)
later None first = first
later (Some last) first = Some last

-- the last one of the same client and timestamp
abbrev pub last_same : Signed Request → List (Signed Request) → Option (Signed Request)
last_same one [] = None
last_same one (other ∷ more) = later (last_same one more) (if is_same other one then Some other else None)

abbrev pub is_alike_to : (receiver : Principal) → Signed Request → Option (Signed Request) → Bool
is_alike_to receiver one None = false
is_alike_to receiver one (Some other) = is_alike receiver other one

-- the last one that waits of the same client and timestamp is alike
abbrev pub waits : (receiver : Principal) → List (Signed Request) → Signed Request → Bool
waits receiver waiting one = is_alike_to receiver one (last_same one waiting)
