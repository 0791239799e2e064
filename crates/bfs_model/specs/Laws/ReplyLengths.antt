-- What every reply is: bytes, and at most so many.
use Rattle.std.specs.Prelude.{◌≡◌, ℕ, ◌≤◌, List, length, Some}
use Rattle.std.specs.FinMap.{get}
use Rattle.bfs_model.specs.Server.Limits.{most_reply_bytes}
use Rattle.bfs_model.specs.Server.Tree.{Time, Inode, Inodes}
use Rattle.bfs_model.specs.Server.Serial.{answer}
use Rattle.bfs_model.specs.Server.Stored.{AreBytes, AreStorable}
use Rattle.bfs_model.specs.Server.WellFormed.{IsLimited}

-- whatever the bytes of a request, where each inode is within its limits
abbrev pub RepliesAreShort : Type 0
RepliesAreShort = (inodes : Inodes) (ordinal : ℕ) (time : Time) (request : List ℕ)
    → ((id : ℕ) (inode : Inode) → get inodes id ≡ Some inode → IsLimited inode)
    → length (answer inodes ordinal time request).1 ≤ most_reply_bytes

-- whatever the numbers of a request, where each inode can be stored
abbrev pub RepliesAreBytes : Type 0
RepliesAreBytes = (inodes : Inodes) (ordinal : ℕ) (time : Time) (request : List ℕ) → AreStorable inodes → AreBytes (answer inodes ordinal time request).1
