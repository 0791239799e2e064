-- What a tree keeps at its fileids: inodes, and the places of those that are lent out.
use Rattle.std.specs.Prelude.{⊤, Option, Some, None}
use Rattle.std.specs.Ordering.{nat_cmp}
use Rattle.std.specs.FinMap.{FinMap}
use Rattle.bfs_model.specs.Server.Tree.{Inode}
use Rattle.bfs_tree.specs.declared.slots.Slot.{Slot}
use Rattle.bfs_tree.specs.declared.slots.Slot.TheVariants.{Home, Free, Lent}

abbrev pub Slots : Type 0
Slots = FinMap nat_cmp Slot

abbrev pub inode_in : Slot → Option Inode
inode_in (Home inode) = Some inode
inode_in Free = None
inode_in Lent = None

abbrev pub loan_in : Slot → Option ⊤
loan_in (Home inode) = None
loan_in Free = None
loan_in Lent = Some tt

-- with another inode in the place of one that it holds
abbrev pub with_inode : Slot → Inode → Slot
with_inode (Home inode) left = Home left
with_inode Free left = Free
with_inode Lent left = Lent
