-- What an executor does to a file system that may have failed.
use Rattle.std.specs.Prelude.{◌≡◌, ℕ, List, Option, Some, None}
use Rattle.bfs_model.specs.Server.Tree.{FileSystem}
use Rattle.bfs_model.specs.Server.Serial.{Batch, execute}

-- a live file system went over to the one after the batch, and these are the batch's replies
abbrev pub Executed : Option FileSystem → Batch → Option FileSystem → List (List ℕ) → Type 0
Executed None batch new replies = ⊥
Executed (Some live) batch new replies = (new ≡ Some (execute live batch).0) × (replies ≡ (execute live batch).1)
