-- What a `Tree` stands for.
use Rattle.std.specs.Prelude.{ℕ, not, ◌==◌, ⊤, [], Option, Some, None, is_some}
use Rattle.std.specs.Ordering.{nat_cmp}
use Rattle.std.specs.FinMap.{FinMap, get, len, insert, remove, empty}
use Rattle.bfs_model.specs.Server.Tree.{Inode, Inodes}
use Rattle.bfs_tree.specs.declared.slots.Slot.{Slot}
use Rattle.bfs_tree.specs.declared.slots.Slot.TheVariants.{Home, Free}
use Rattle.bfs_tree.specs.Maps.{picked}
use Rattle.bfs_tree.specs.Reach.{Reach}
use Rattle.bfs_tree.specs.Slots.{Slots, inode_in, loan_in, with_inode}

-- the inodes that are in it
abbrev pub at_home : Slots → Inodes
at_home slots = picked inode_in slots

-- the fileids whose inode is lent out, or of which it is lent out that there is none
abbrev pub lent : Slots → FinMap nat_cmp ⊤
lent slots = picked loan_in slots

-- it knows and owns all fileids but those that are lent out
abbrev pub reach_without : FinMap nat_cmp ⊤ → Reach
reach_without lent = record { known = λ id. not (is_some (get lent id)); owned = λ id. not (is_some (get lent id)); whole = len lent == 0; handed = []; borrowed = empty }

abbrev pub reach_of : Slots → Reach
reach_of slots = reach_without (lent slots)

-- the slots when what was lent out at a fileid has come home
abbrev pub brought : Slots → (id : ℕ) → Option Inode → Slots
brought slots id (Some inode) = insert slots id (Home inode)
brought slots id None = remove slots id

-- with a place for what may come to a fileid
abbrev pub reserved_in : Slots → (id : ℕ) → Option Slot → Slots
reserved_in slots id (Some slot) = slots
reserved_in slots id None = insert slots id Free

abbrev pub reserved : Slots → (id : ℕ) → Slots
reserved slots id = reserved_in slots id (get slots id)

-- with another inode in the place of one that is at home
abbrev pub with_inode_in : Slots → (id : ℕ) → Option Slot → Inode → Slots
with_inode_in slots id (Some slot) left = insert slots id (with_inode slot left)
with_inode_in slots id None left = slots

abbrev pub with_inode_at : Slots → (id : ℕ) → Inode → Slots
with_inode_at slots id = with_inode_in slots id (get slots id)
