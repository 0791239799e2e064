-- What has come of a part of a batch that was executed on a tree.
use Rattle.std.specs.Prelude.{◌≡◌, ◌<◌, ◌≤◌, ◌+◌, ◌++◌, ◌∷◌, [], ℕ, IsTrue, List, length}
use Rattle.bfs_model.specs.Server.Tree.{Time}
use Rattle.bfs_model.specs.Server.Serial.{inodes_after, replies_to}
use Rattle.bfs_levels.specs.Requests.{requests_from}
use Rattle.bfs_tree.specs.Slots.{Slots}
use Rattle.bfs_tree.specs.Tree.{at_home, reach_of}
use Rattle.bfs_handover.specs.Laws.Carrying.{AreCarriedOut}
use Rattle.bfs_handover.specs.Splitting.{PlannedPart}
use Rattle.bfs_handover.specs.declared.results.NumberedReply.{NumberedReply}
use Rattle.bfs_parallel.specs.Ran.{AllRan}

-- So many requests from a place on were executed, at least one: inodes and replies, which stand behind others, are those of one after
-- another, and each that names what it touches has been run by the gate
pub record IsPartExecuted (ran : ℕ → List ℕ → Type 0) (old new : Slots) (ordinal : ℕ) (time : Time) (batch : List (List ℕ)) (place count : ℕ) (before after : List (List ℕ)) : Type 0 where
  pub some : 0 < count
  pub within : place + count ≤ length batch
  pub inodes : at_home new ≡ inodes_after (at_home old) ordinal time (requests_from place count batch)
  pub whole : IsTrue ((reach_of new).whole)
  pub replies : after ≡ before ++ replies_to (at_home old) ordinal time (requests_from place count batch)
  pub gated : AllRan ran place (requests_from place count batch) (replies_to (at_home old) ordinal time (requests_from place count batch))

-- The request of a number was carried out alone, by the gate
pub record IsCarriedOut (ran : ℕ → List ℕ → Type 0) (old new : Slots) (part : PlannedPart) (number : ℕ) (reply : NumberedReply) : Type 0 where
  pub done : AreCarriedOut (at_home old) (at_home new) part (number ∷ []) (reply ∷ [])
  pub whole : IsTrue ((reach_of new).whole)
  pub gated : ran reply.number reply.bytes.items
