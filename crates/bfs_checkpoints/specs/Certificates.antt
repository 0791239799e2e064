-- The CHECKPOINTs of a log that tell of a checkpoint (OSDI 1999 section 4.3).
use Rattle.std.specs.Prelude.{ℕ, ◌==◌, ◌&&◌, List, Option, Some, None, bytes_eq, if◌then◌else◌}
use Rattle.std.specs.List.{filter_map}
use Rattle.bfs_auth.specs.declared.authenticators.Authenticator.{Authenticator}
use Rattle.bfs_log.specs.Certificates.{StableCheckpoint}
use Rattle.bfs_log.specs.Logs.{Log}
use Rattle.bfs_messages.specs.Messages as model
use Rattle.bfs_messages.specs.declared.signed.Signed.{Signed}
use Rattle.bfs_messages.specs.declared.order_messages.OrderMessage.{OrderMessage}
use Rattle.bfs_messages.specs.declared.order_messages.OrderMessage.TheVariants.{PrePrepare, Prepare, Commit, Checkpoint}

-- a message, if it is a CHECKPOINT of that number and digest
abbrev pub told_as : (number : ℕ) → (digest : List ℕ) → OrderMessage → (auth : Authenticator) → Option (Signed model.Checkpoint)
told_as number digest (Checkpoint c) auth = if (c.number == number) && bytes_eq c.digest digest then Some (record { message = c; auth = auth }) else None
told_as number digest (PrePrepare proposal) auth = None
told_as number digest (Prepare vote) auth = None
told_as number digest (Commit vote) auth = None

abbrev pub checkpoints : (number : ℕ) → (digest : List ℕ) → Log → List (Signed model.Checkpoint)
checkpoints number digest log = filter_map (λ m. told_as number digest m.message m.auth) log

abbrev pub told_checkpoint : (number : ℕ) → (digest : List ℕ) → Log → StableCheckpoint
told_checkpoint number digest log = record { number = number; digest = digest; checkpoints = checkpoints number digest log }
