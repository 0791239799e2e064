-- How many inodes the slots of a tree hold, and how many are lent out.
use Rattle.std.specs.Prelude.{◌≡◌, ◌≤◌, ℕ, ◌+◌, Option, Some, None}
use Rattle.std.specs.Option.{option_and_then}
use Rattle.std.specs.FinMap.{len}
use Rattle.bfs_tree.specs.declared.slots.Slot.{Slot}
use Rattle.bfs_tree.specs.declared.counts.Counts.{Counts}
use Rattle.bfs_tree.specs.Slots.{Slots, inode_in, loan_in}
use Rattle.bfs_tree.specs.Tree.{at_home, lent}

abbrev pub AreCounted : Slots → Counts → Type 0
AreCounted slots counts = (counts.home ≡ len (at_home slots)) × (counts.lent ≡ len (lent slots))

abbrev pub one_if_some : {X : Type 0} → Option X → ℕ
one_if_some None = 0
one_if_some (Some value) = 1

-- what a slot counts for, where there is one
abbrev pub inodes_in : Option Slot → ℕ
inodes_in slot = one_if_some (option_and_then inode_in slot)

abbrev pub loans_in : Option Slot → ℕ
loans_in slot = one_if_some (option_and_then loan_in slot)

-- the second counts are the first with that slot added
abbrev pub Adds : Counts → Option Slot → Counts → Type 0
Adds fewer slot more = (more.home ≡ fewer.home + inodes_in slot) × (more.lent ≡ fewer.lent + loans_in slot)

-- the slot may be among those that are counted
abbrev pub Includes : Counts → Option Slot → Type 0
Includes counts slot = (inodes_in slot ≤ counts.home) × (loans_in slot ≤ counts.lent)
