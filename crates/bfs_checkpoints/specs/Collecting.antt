-- CHECKPOINTs that came from several replicas: those of 2f + 1 that are right make a checkpoint stable (OSDI 1999 section 4.3).
use Rattle.std.specs.Prelude.{ℕ, ◌+◌, ◌*◌, ◌&&◌, not, List, [], ◌∷◌, ◌++◌, length, Option, Some, None, nat_le, if◌then◌else◌}
use Rattle.std.specs.List.{fold}
use Rattle.bfs_auth.specs.Keys.{Keys}
use Rattle.bfs_log.specs.Certificates.{StableCheckpoint, as_checkpoints, has_sender, vouches}
use Rattle.bfs_messages.specs.Messages.{Checkpoint}
use Rattle.bfs_messages.specs.Signing.{as_message}
use Rattle.bfs_messages.specs.declared.signed.Signed.{Signed}
use Rattle.bfs_messages.specs.declared.order_messages.OrderMessage.TheVariants as order

-- one that is right by these keys, where none of its sender is there
abbrev pub with_right : Keys → (f number : ℕ) → (digest : List ℕ) → (found : List (Signed Checkpoint)) → Signed Checkpoint → List (Signed Checkpoint)
with_right keys f number digest found c =
    if not (has_sender (as_checkpoints found) c.message.sender) && vouches keys f number digest (as_message order.Checkpoint c) then found ++ c ∷ [] else found

-- the first right one of each replica, of that number and digest; all others are passed over
abbrev pub right_checkpoints : Keys → (f number : ℕ) → (digest : List ℕ) → List (Signed Checkpoint) → List (Signed Checkpoint)
right_checkpoints keys f number digest told = fold (with_right keys f number digest) [] told

-- those, where they are of 2f + 1 replicas or more
abbrev pub collected : Keys → (f number : ℕ) → (digest : List ℕ) → List (Signed Checkpoint) → Option StableCheckpoint
collected keys f number digest told =
    let right = right_checkpoints keys f number digest told in
    if nat_le (2 * f + 1) (length right) then Some (record { number = number; digest = digest; checkpoints = right }) else None
