-- Each request of a batch gets one reply.
use Rattle.std.proofs.Common.{◌≡◌, ℕ, suc, List, [], ◌∷◌, length, refl, ap}
use Rattle.bfs_model.specs.Server.Tree.{Time, Inodes, FileSystem}
use Rattle.bfs_model.specs.Server.Serial.{Batch, answer, execute, effective_time, ordinal_after, replies_to}

length-replies_to : (m : Inodes) (o : ℕ) (t : Time) (requests : List (List ℕ)) → length (replies_to m o t requests) ≡ length requests
length-replies_to m o t [] = refl
length-replies_to m o t (request ∷ requests) = ap suc (length-replies_to (answer m o t request).0 (ordinal_after o 1) t requests)

pub replies_counted : (files : FileSystem) (batch : Batch) → length (execute files batch).1 ≡ length batch.requests
unfolding execute
replies_counted files batch = length-replies_to files.tree files.next_ordinal (effective_time files.last_time batch.time) batch.requests
