-- A replica that keeps what it does, turn by turn.
use Rattle.std.specs.Prelude.{◌≡◌, ◌⊎◌, ℕ, List, [], map}
use Rattle.bfs_auth.specs.Keys.{Keys}
use Rattle.bfs_frames.specs.Parcels.{Told, told_by}
use Rattle.bfs_frames.specs.declared.frames.Turn.{Turn}
use Rattle.bfs_frames.specs.declared.parcels.Parcel.{Parcel}
use Rattle.bfs_node.specs.Nodes.{Node}
use Rattle.bfs_node.specs.Saving.{IsSavable, text_of}
use Rattle.bfs_service.specs.Acting.{Acting}
use Rattle.bfs_service.specs.Turns.{Turned}
use Rattle.bfs_recovery.specs.Holding.{AreDue, Held, IsHeld, saved_as}

-- a process, what its folder holds, and the text of the steps that are due to be kept there
pub record Living : Type 0 where
  pub acting : Acting
  pub held : Held
  pub due : List ℕ

-- a process that has done nothing yet, as that node, which its folder holds
pub record Begins (node : Node) (living : Living) : Type 0 where
  pub savable : IsSavable node
  pub is : living ≡ record { acting = record { node = node; sent = [] }; held = saved_as (text_of node); due = [] }

-- where a folder held the replica, whatever its keys, but for what was due, it holds that node now
abbrev pub Holds : Living → Held → Node → Type 0
Holds old held now = (keys : Keys) (settled : Node) → IsHeld keys old.held settled → AreDue settled old.due old.acting.node → IsHeld keys held now

-- the folder holds what the process is behind the turn; or it holds what it held, the rest is due, and nothing is told
pub data KeepsUp (old : Living) (told : List Told) (new : Living) : Type 0 where
  Settled : Holds old new.held new.acting.node → new.due ≡ [] → KeepsUp old told new
  Waits : told ≡ [] → new.held ≡ old.held → ((settled : Node) → AreDue settled old.due old.acting.node → AreDue settled new.due new.acting.node) → KeepsUp old told new

-- it takes the turn, and its folder holds what it is behind it, before anything is told
pub record IsTaken (old : Living) (turn : Turn) (told : List Told) (new : Living) : Type 0 where
  pub turned : Turned turn old.acting new.acting told
  pub keeps : KeepsUp old told new

-- as a machine of a filter
abbrev pub Takes : Living → Turn → List Parcel → Living → Type 0
Takes old turn parcels new = IsTaken old turn (map told_by parcels) new

-- it took the turn, and its folder holds what it was behind it
pub record IsKeptUntold (old : Living) (turn : Turn) (held : Held) : Type 0 where
  pub acting : Acting
  pub told : List Told
  pub turned : Turned turn old.acting acting told
  pub holds : Holds old held acting.node

-- where the turn is not answered, its folder holds what it held before, or what the replica was behind the turn
abbrev pub IsUntold : Living → Turn → Held → Type 0
IsUntold old turn held = (held ≡ old.held) ⊎ IsKeptUntold old turn held
