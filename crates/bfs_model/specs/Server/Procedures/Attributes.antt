-- GETATTR and SETATTR (RFC 1094 sections 2.2.2 and 2.2.3).
use Rattle.std.specs.Prelude.{ℕ, Bool, true, false, not, ◌==◌, ◌&&◌, ◌||◌, List, [], ◌∷◌, ◌++◌, Option, Some, None, is_some, Result, Ok, nat_lt}
use Rattle.std.specs.Option.{option_map_or}
use Rattle.std.specs.FinMap.{insert}
use Rattle.bfs_model.specs.Bytes.Items.{◌>>=◌}
use Rattle.bfs_model.specs.Server.Limits.{most_file_bytes}
use Rattle.bfs_model.specs.Server.Tree.{Body, file, directory, link, Inode, Inodes}
use Rattle.bfs_model.specs.Server.Context.{Context}
use Rattle.bfs_model.specs.Server.Access.{is_superuser, may_write_file, may_set, may_give_to}
use Rattle.bfs_model.specs.Bytes.Call.{Credential}
use Rattle.bfs_model.specs.Bytes.Attributes.{attributes_of}
use Rattle.bfs_model.specs.Bytes.Arguments.{Settings}
use Rattle.bfs_model.specs.Server.Changes.{with_settings}
use Rattle.bfs_model.specs.Bytes.Replies.{Status, perm, acces, isdir, fbig, attributes}
use Rattle.bfs_model.specs.Server.Refusals.{Outcome, checked, inode_found}

abbrev pub attributes_got : Inodes → Context → Option ℕ → Result Outcome Status
attributes_got inodes context handle = do
  found ← inode_found inodes handle
  Ok (inodes, attributes (attributes_of found.id found.inode))

-- mode, group and times are set by the owner, and a group is one that it holds; the user stays, but for the superuser
abbrev pub setting_refusals : Credential → Inode → Settings → List (Bool × Status)
setting_refusals caller inode settings =
    (is_some settings.mode && not (may_set caller inode), perm)
    ∷ (is_some settings.gid && not (may_set caller inode), perm)
    ∷ (is_some settings.atime && not (may_set caller inode), perm)
    ∷ (is_some settings.mtime && not (may_set caller inode), perm)
    ∷ (option_map_or (λ uid. not (uid == inode.uid || is_superuser caller)) settings.uid false, perm)
    ∷ (option_map_or (λ gid. not (gid == inode.gid || may_give_to caller gid)) settings.gid false, perm)
    ∷ []

-- a size is set of files alone, by who may write them, within the limit
abbrev pub size_refusals : Credential → Inode → (size : Option ℕ) → Body → List (Bool × Status)
size_refusals caller inode None body = []
size_refusals caller inode (Some size) (directory listing) = (true, isdir) ∷ []
size_refusals caller inode (Some size) (link target) = (true, perm) ∷ []
size_refusals caller inode (Some size) (file bytes) = (not (may_write_file caller inode), acces) ∷ (nat_lt most_file_bytes size, fbig) ∷ []

abbrev pub set_refusals : Context → Inode → Settings → List (Bool × Status)
set_refusals context inode settings = setting_refusals context.caller inode settings ++ size_refusals context.caller inode settings.size inode.body

abbrev pub attributes_set : Inodes → Context → Option ℕ → Settings → Result Outcome Status
attributes_set inodes context handle settings = do
  found ← inode_found inodes handle
  allowed ← checked (set_refusals context found.inode settings)
  let inode = with_settings context.time settings found.inode in
      Ok (insert inodes found.id inode, attributes (attributes_of found.id inode))
