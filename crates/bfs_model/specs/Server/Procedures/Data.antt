-- READ, READLINK and WRITE (RFC 1094 sections 2.2.7, 2.2.6 and 2.2.9).
use Rattle.std.specs.Prelude.{ℕ, ◌+◌, not, List, [], ◌∷◌, length, Option, Some, None, Result, Ok, nat_lt}
use Rattle.std.specs.Option.{ok_or}
use Rattle.std.specs.FinMap.{insert}
use Rattle.bfs_model.specs.Bytes.Items.{◌>>=◌}
use Rattle.bfs_model.specs.Server.Limits.{most_file_bytes}
use Rattle.bfs_model.specs.Server.Tree.{Body, file, directory, link, Inodes}
use Rattle.bfs_model.specs.Server.Context.{Context}
use Rattle.bfs_model.specs.Server.Access.{may_read_file, may_write_file}
use Rattle.bfs_model.specs.Bytes.Attributes.{attributes_of}
use Rattle.bfs_model.specs.Server.FileBytes.{bytes_from}
use Rattle.bfs_model.specs.Server.Changes.{with_bytes}
use Rattle.bfs_model.specs.Bytes.Replies.{Status, perm, acces, fbig, attributes, path, contents}
use Rattle.bfs_model.specs.Server.Refusals.{Outcome, checked, inode_found, file_found}

abbrev pub file_read : Inodes → Context → Option ℕ → (offset count : ℕ) → Result Outcome Status
file_read inodes context handle offset count = do
  read ← file_found inodes handle
  allowed ← checked ((not (may_read_file context.caller read.inode), acces) ∷ [])
  Ok (inodes, contents (attributes_of read.id read.inode) (bytes_from offset count read.bytes))

-- the path of a symbolic link
abbrev pub path_in : Body → Option (List ℕ)
path_in (file bytes) = None
path_in (directory listing) = None
path_in (link target) = Some target

abbrev pub link_read : Inodes → Context → Option ℕ → Result Outcome Status
link_read inodes context handle = do
  read ← inode_found inodes handle
  target ← ok_or (path_in read.inode.body) perm
  Ok (inodes, path target)

abbrev pub file_written : Inodes → Context → Option ℕ → (offset : ℕ) (written : List ℕ) → Result Outcome Status
file_written inodes context handle offset written = do
  old ← file_found inodes handle
  allowed ← checked ((not (may_write_file context.caller old.inode), acces) ∷ (nat_lt most_file_bytes (offset + length written), fbig) ∷ [])
  let inode = with_bytes context.time offset written old.inode in
      Ok (insert inodes old.id inode, attributes (attributes_of old.id inode))
