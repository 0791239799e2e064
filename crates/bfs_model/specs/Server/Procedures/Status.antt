-- STATFS (RFC 1094 section 2.2.18).
use Rattle.std.specs.Prelude.{ℕ, ◌-◌, Option, sum_by, Result, Ok}
use Rattle.std.specs.FinMap.{entries}
use Rattle.bfs_model.specs.Bytes.Items.{◌>>=◌}
use Rattle.bfs_model.specs.Server.Tree.{Inodes}
use Rattle.bfs_model.specs.Server.Context.{Context}
use Rattle.bfs_model.specs.Bytes.Attributes.{blocks_of, size_of, total_blocks}
use Rattle.bfs_model.specs.Bytes.Replies.{Status, free_blocks}
use Rattle.bfs_model.specs.Server.Refusals.{Outcome, inode_found}

-- the blocks of all inodes
abbrev pub used_blocks : Inodes → ℕ
used_blocks inodes = sum_by (λ entry. blocks_of (size_of entry.1.body)) (entries inodes)

abbrev pub status_got : Inodes → Context → Option ℕ → Result Outcome Status
status_got inodes context handle = do
  found ← inode_found inodes handle
  Ok (inodes, free_blocks (total_blocks - used_blocks inodes))
