-- How many requests of each client are counted.
use Rattle.std.specs.Prelude.{◌≡◌, ℕ, List}
use Rattle.std.specs.Option.{unwrap_or}
use Rattle.std.specs.Ordering.{nat_cmp}
use Rattle.std.specs.BTreeMap.{BTreeMap, get}
use Rattle.bfs_messages.specs.Messages.{Request}
use Rattle.bfs_messages.specs.declared.signed.Signed.{Signed}
use Rattle.bfs_pending.specs.Requests.{count_of}

-- by the number of the client; none where it is not there
abbrev pub counted : BTreeMap ℕ ℕ → (client : ℕ) → ℕ
counted counts client = unwrap_or (get nat_cmp counts client) 0

-- so many of each client wait
abbrev pub AreCounted : BTreeMap ℕ ℕ → List (Signed Request) → Type 0
AreCounted counts waiting = (client : ℕ) → counted counts client ≡ count_of client waiting
