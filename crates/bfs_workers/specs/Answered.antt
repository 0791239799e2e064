-- What comes of one request that a gate answers on the whole tree.
use Rattle.std.specs.Prelude.{◌≡◌, ℕ, IsFalse, IsTrue, List}
use Rattle.bfs_model.specs.Server.Tree.{Time, Inodes}
use Rattle.bfs_model.specs.Server.Serial.{answer}
use Rattle.bfs_tree.specs.Slots.{Slots}
use Rattle.bfs_tree.specs.Tree.{at_home, reach_of}
use Rattle.bfs_workers.specs.Alone.{is_alone}

-- inodes and reply are those of the model, no inode is missing, and the gate has run the request, unless it may touch any inode
pub record IsAnswered (ran : ℕ → List ℕ → Type 0) (old new : Slots) (number ordinal : ℕ) (time : Time) (request reply : List ℕ) : Type 0 where
  pub done : ◌≡◌ {A = Inodes × List ℕ} (at_home new, reply) (answer (at_home old) ordinal time request)
  pub whole : IsTrue ((reach_of new).whole)
  pub gated : IsFalse (is_alone request) → ran number reply
