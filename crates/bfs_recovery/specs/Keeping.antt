-- What is kept of a turn.
use Rattle.std.specs.Prelude.{◌≡◌, true, ℕ, List, [], ◌++◌}
use Rattle.bfs_frames.specs.declared.parcels.Parcel.{Parcel}
use Rattle.bfs_node.specs.Nodes.{Node}
use Rattle.bfs_node.specs.Saving.{IsSavable, text_of}
use Rattle.bfs_service.specs.Journals.{Doing}
use Rattle.bfs_recovery.specs.Holding.{Held, saved_as, with_body}

-- what a folder holds, and the text of the steps that are due to be kept there
pub record Keeps : Type 0 where
  pub held : Held
  pub due : List ℕ

-- that node, in the place of all that was held
pub record IsSaved (node : Node) (held : Held) : Type 0 where
  pub savable : IsSavable node
  pub is : held ≡ saved_as (text_of node)

-- all that was due, and what was done in the turn
abbrev pub all_due : Keeps → Doing → List ℕ
all_due old doing = old.due ++ doing.body

-- what the folder holds once the turn is kept: the node as it is now, or a record more, or what it held where nothing was done
pub data IsKept (doing : Doing) (old : Keeps) (held : Held) : Type 0 where
  Saved : IsSaved doing.acting.node held → IsKept doing old held
  Appended : doing.is_spelled ≡ true → held ≡ with_body old.held (all_due old doing) → IsKept doing old held
  Unchanged : doing.is_spelled ≡ true → all_due old doing ≡ [] → held ≡ old.held → IsKept doing old held

-- the turn is kept, or, where nothing is to be told of it, what was done in it is due to be kept with what comes
pub data IsKeptOrDue (doing : Doing) (parcels : List Parcel) (old new : Keeps) : Type 0 where
  Kept : IsKept doing old new.held → new.due ≡ [] → IsKeptOrDue doing parcels old new
  Due : parcels ≡ [] → doing.is_spelled ≡ true → new ≡ record old { due = all_due old doing } → IsKeptOrDue doing parcels old new
