-- What a store is once the borrow of one of its inodes ends.
use Rattle.std.specs.Prelude.{◌≡◌, ℕ, Option}
use Rattle.std.specs.Option.{ForSome, ForNone}
use Rattle.std.specs.Borrow.{Fml, RattleType, MutBor, LendsSo}
use Rattle.std.specs.FinMap.{insert}
use Rattle.bfs_model.specs.Server.Tree.{Inode, Inodes}
use Rattle.bfs_tree.specs.Reach.{Reach}
use Rattle.bfs_inode.specs.contracts.inodes.Inode.{the_row}

-- the store ends with what was left in the inode of that fileid, and knows what it knew; with no inode lent it stays
abbrev pub LendsInode : (R : RattleType) → (R.Denot → Inodes) → (R.Denot → Reach) → MutBor R.Denot → (id : ℕ) → Option (MutBor Inode) → Fml
LendsInode R inodes reach store id lent =
    LendsSo R the_row store lent
    (λ after inode. ForSome lent (λ _. inodes after ≡ insert (inodes store.now) id inode) × (reach after ≡ reach store.now))
    (λ after. ForNone lent (inodes after ≡ inodes store.now) × (reach after ≡ reach store.now))
