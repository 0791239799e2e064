-- What procedures do to one inode, and to the inodes by fileid.
use Rattle.std.specs.Prelude.{ℕ, ◌+◌, ◌-◌, ◌%◌, List, [], ◌∷◌, ◌++◌, nat_le, nat_lt, Option, Some, None, unwrap_or, if◌then◌else◌}
use Rattle.std.specs.Option.{option_map_or}
use Rattle.std.specs.FinMap.{get, insert, remove}
use Rattle.bfs_model.specs.Server.Tree.{Time, Entry, Listing, Body, file, directory, link, Inode, Inodes}
use Rattle.bfs_model.specs.Bytes.Call.{Credential}
use Rattle.bfs_model.specs.Bytes.Arguments.{Settings}
use Rattle.bfs_model.specs.Server.FileBytes.{overwritten, resized}
use Rattle.bfs_model.specs.Server.Directories.{without_name}

-- One inode ----------------------------------------------------------------------------------------------------------

-- the twelve low bits
abbrev pub permission_bits : ℕ → ℕ
permission_bits mode = mode % 4096

-- a time that a call sets, of which 1,000,000 useconds or more stand for the batch's time
abbrev pub time_given : (now : Time) → Time → Time
time_given now set = if nat_lt set.useconds 1000000 then set else now

-- a time as a call sets it, or another where it sets none
abbrev pub time_or : (now : Time) → Option Time → Time → Time
time_or now None other = other
time_or now (Some set) other = time_given now set

-- its mtime and ctime are now
abbrev pub touched : Time → Inode → Inode
touched now inode = record inode { mtime = now; ctime = now }

abbrev pub resized_body : ℕ → Body → Body
resized_body size (file bytes) = file (resized size bytes)
resized_body size (directory listing) = directory listing
resized_body size (link path) = link path

abbrev pub with_size : Time → Option ℕ → Inode → Inode
with_size now None inode = inode
with_size now (Some size) inode = record inode { mtime = now; body = resized_body size inode.body }

-- with what SETATTR sets: mode and owners, then the size, then the times
abbrev pub with_settings : Time → Settings → Inode → Inode
with_settings now settings inode =
    let sized = with_size now settings.size inode in
    record sized {
      permissions = option_map_or permission_bits settings.mode inode.permissions;
      uid = unwrap_or settings.uid inode.uid;
      gid = unwrap_or settings.gid inode.gid;
      atime = time_or now settings.atime inode.atime;
      mtime = time_or now settings.mtime sized.mtime;
      ctime = now;
    }

abbrev pub overwritten_body : (offset : ℕ) (written : List ℕ) → Body → Body
overwritten_body offset written (file bytes) = file (overwritten offset written bytes)
overwritten_body offset written (directory listing) = directory listing
overwritten_body offset written (link path) = link path

-- with what WRITE writes
abbrev pub with_bytes : Time → (offset : ℕ) (written : List ℕ) → Inode → Inode
with_bytes now offset written inode = touched now (record inode { body = overwritten_body offset written inode.body })

abbrev pub with_listing : (Listing → Listing) → Body → Body
with_listing change (file bytes) = file bytes
with_listing change (directory listing) = directory (change listing)
with_listing change (link path) = link path

-- with an entry at the end
abbrev pub with_entry : Time → Entry → Inode → Inode
with_entry now entry inode = touched now (record inode { body = with_listing (λ listing. record listing { entries = listing.entries ++ entry ∷ [] }) inode.body })

-- without the entry of that name
abbrev pub without_entry : Time → (name : List ℕ) → Inode → Inode
without_entry now name inode = touched now (record inode { body = with_listing (λ listing. record listing { entries = without_name name listing.entries }) inode.body })

-- below another directory
abbrev pub with_parent : (parent : ℕ) → Inode → Inode
with_parent parent inode = record inode { body = with_listing (λ listing. record listing { parent = parent }) inode.body }

-- with a link more, and with one less
abbrev pub with_link : Time → Inode → Inode
with_link now inode = record inode { links = inode.links + 1; ctime = now }

abbrev pub with_link_less : Time → Inode → Inode
with_link_less now inode = record inode { links = inode.links - 1; ctime = now }

abbrev pub with_ctime : Time → Inode → Inode
with_ctime now inode = record inode { ctime = now }

-- a new inode, of the caller where the call sets no owner
abbrev pub new_inode : Time → Credential → Settings → (permissions links : ℕ) → Body → Inode
new_inode now caller settings permissions links body = record {
  permissions = permissions;
  links = links;
  uid = unwrap_or settings.uid caller.uid;
  gid = unwrap_or settings.gid caller.gid;
  atime = time_or now settings.atime now;
  mtime = time_or now settings.mtime now;
  ctime = now;
  body = body;
}

-- The inodes ---------------------------------------------------------------------------------------------------------

-- with a change of one inode, where it is there
unfoldable pub changed : Inodes → (id : ℕ) → (Inode → Inode) → Inodes
changed inodes id change = option_map_or (λ inode. insert inodes id (change inode)) (get inodes id) inodes

-- with one link less of a file or a symbolic link, which goes with its last
abbrev pub link_lost_of : Inodes → Time → (id : ℕ) → Inode → Inodes
link_lost_of inodes now id inode = if nat_le inode.links 1 then remove inodes id else insert inodes id (with_link_less now inode)

unfoldable pub link_lost : Inodes → Time → (id : ℕ) → Inodes
link_lost inodes now id = option_map_or (link_lost_of inodes now id) (get inodes id) inodes
