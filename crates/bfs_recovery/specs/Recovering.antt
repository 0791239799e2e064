-- How what a folder holds is read.
use Rattle.std.specs.Prelude.{◌≡◌, ⊤, ℕ, List, fold, Option, Some, None, Result, Ok, Err}
use Rattle.std.specs.Option.{option_map}
use Rattle.bfs_auth.specs.Keys.{Keys}
use Rattle.bfs_node.specs.Nodes.{Node}
use Rattle.bfs_node.specs.Saving.{IsOf, text_of}
use Rattle.bfs_saving.specs.declared.error.SavedError.{SavedError}
use Rattle.bfs_saving.specs.declared.error.SavedError.TheVariants as saved
use Rattle.bfs_steps.specs.Reading.{steps_from}
use Rattle.bfs_steps.specs.Replaying.{after_steps}
use Rattle.bfs_steps.specs.declared.error.ReplayError.{ReplayError}
use Rattle.bfs_steps.specs.declared.error.ReplayError.TheVariants as replay
use Rattle.bfs_recovery.specs.Holding.{Held}
use Rattle.bfs_recovery.specs.declared.error.RecoverError.{RecoverError}
use Rattle.bfs_recovery.specs.declared.error.RecoverError.TheVariants.{Saved, Malformed, Memory}

-- the steps that a body spells are made, if it spells any
abbrev pub after_body : Option Node → List ℕ → Option Node
after_body None body = None
after_body (Some node) body = option_map (after_steps node) (steps_from body)

-- one body's after another
abbrev pub after_bodies : Node → List (List ℕ) → Option Node
after_bodies node bodies = fold after_body (Some node) bodies

-- it made the steps of each body; or one spells none; or memory ran out
abbrev pub ReplaysAll : Node → List (List ℕ) → Result ⊤ ReplayError → Node → Type 0
ReplaysAll node bodies (Ok done) now = after_bodies node bodies ≡ Some now
ReplaysAll node bodies (Err replay.Malformed) now = after_bodies node bodies ≡ None
ReplaysAll node bodies (Err replay.Memory) now = Unit {0}

-- of a saved replica with these keys, and the steps behind it
pub record IsReadFrom (keys : Keys) (held : Held) (node : Node) : Type 0 where
  pub start : Node
  pub text_is : held.text ≡ text_of start
  pub holder : IsOf keys start
  pub steps_are : after_bodies start held.bodies ≡ Some node

-- it was recovered, or memory ran out
abbrev pub IsRecovered : Node → Result Node RecoverError → Type 0
IsRecovered node (Ok found) = found ≡ node
IsRecovered node (Err e) = e ≡ Memory

-- Errors --------------------------------------------------------------------------------------------------------------------

abbrev pub of_saved : SavedError → RecoverError
of_saved saved.Memory = Memory
of_saved error = Saved error

abbrev pub of_replay : ReplayError → RecoverError
of_replay replay.Malformed = Malformed
of_replay replay.Memory = Memory
