-- What can be stored: what the words and bytes of RFC 4506 say of an inode, and of a call.
use Rattle.std.specs.Prelude.{◌≡◌, ℕ, ◌<◌, ◌≤◌, ◌^◌, List, All, Option, Some, IfSome}
use Rattle.std.specs.List.{AllByRecursion}
use Rattle.std.specs.FinMap.{get}
use Rattle.bfs_model.specs.Server.Tree.{Time, Entry, Body, file, directory, link, Inode, Inodes, FileSystem}
use Rattle.bfs_model.specs.Bytes.Call.{Credential, Request}
use Rattle.bfs_model.specs.Bytes.Arguments.{Settings, Call, null, get_attributes, set_attributes, root, look_up, read_link, read, write_cache, write, create, remove, rename, make_link, make_symbolic_link, make_directory, remove_directory, read_directory, file_system_status}
use Rattle.bfs_model.specs.Server.Context.{Context}
use Rattle.bfs_model.specs.Server.WellFormed.{IsWellFormed}

-- an unsigned integer (RFC 4506 section 4.2)
abbrev pub IsWord : ℕ → Type 0
IsWord n = n < 2 ^ 32

-- an unsigned hyper integer (RFC 4506 section 4.5)
abbrev pub IsDouble : ℕ → Type 0
IsDouble n = n < 2 ^ 64

abbrev pub IsByte : ℕ → Type 0
IsByte byte = byte < 256

abbrev pub AreBytes : List ℕ → Type 0
AreBytes bytes = All IsByte bytes

-- a timeval of any two words (RFC 1094 section 2.3.4)
pub record TimeIsSpellable (time : Time) : Type 0 where
  pub seconds : IsWord time.seconds
  pub useconds : IsWord time.useconds

-- Inodes -------------------------------------------------------------------------------------------------------------

-- seconds of 32 bits, and fewer than 1,000,000 microseconds
pub record IsTime (time : Time) : Type 0 where
  pub seconds : IsWord time.seconds
  pub useconds : time.useconds < 1000000

pub record EntryIsStorable (entry : Entry) : Type 0 where
  pub cookie : IsWord entry.cookie
  pub name : AreBytes entry.name
  pub child : IsWord entry.child

abbrev pub BodyIsStorable : Body → Type 0
BodyIsStorable (file bytes) = AreBytes bytes
BodyIsStorable (directory listing) = IsWord listing.parent × AllByRecursion EntryIsStorable listing.entries
BodyIsStorable (link path) = AreBytes path

-- twelve permission bits, words, times and bytes
pub record IsStorable (id : ℕ) (inode : Inode) : Type 0 where
  pub fileid : IsWord id
  pub permissions : inode.permissions ≤ 4095
  pub uid : IsWord inode.uid
  pub gid : IsWord inode.gid
  pub atime : IsTime inode.atime
  pub mtime : IsTime inode.mtime
  pub ctime : IsTime inode.ctime
  pub body : BodyIsStorable inode.body

abbrev pub AreStorable : Inodes → Type 0
AreStorable inodes = (id : ℕ) (inode : Inode) → get inodes id ≡ Some inode → IsStorable id inode

-- what holds of every live file system
pub record IsLive (files : FileSystem) : Type 0 where
  pub formed : IsWellFormed files
  pub storable : AreStorable files.tree
  pub last_time : IsTime files.last_time

-- Calls --------------------------------------------------------------------------------------------------------------

pub record CallerIsStorable (caller : Credential) : Type 0 where
  pub uid : IsWord caller.uid
  pub gid : IsWord caller.gid
  pub gids : All IsWord caller.gids

pub record ContextIsStorable (context : Context) : Type 0 where
  pub time : IsTime context.time
  pub caller : CallerIsStorable context.caller

pub record SettingsAreStorable (settings : Settings) : Type 0 where
  pub mode : IfSome settings.mode IsWord
  pub uid : IfSome settings.uid IsWord
  pub gid : IfSome settings.gid IsWord
  pub size : IfSome settings.size IsWord
  pub atime : IfSome settings.atime TimeIsSpellable
  pub mtime : IfSome settings.mtime TimeIsSpellable

-- a file handle of ours spells a word
abbrev pub HandleIsStorable : Option ℕ → Type 0
HandleIsStorable handle = IfSome handle IsWord

-- a call's arguments are words and bytes
abbrev pub CallIsStorable : Call → Type 0
CallIsStorable null = Unit {0}
CallIsStorable (get_attributes handle) = HandleIsStorable handle
CallIsStorable (set_attributes handle settings) = HandleIsStorable handle × SettingsAreStorable settings
CallIsStorable root = Unit {0}
CallIsStorable (look_up dir name) = HandleIsStorable dir × AreBytes name
CallIsStorable (read_link handle) = HandleIsStorable handle
CallIsStorable (read handle offset count) = HandleIsStorable handle × IsWord offset × IsWord count
CallIsStorable write_cache = Unit {0}
CallIsStorable (write handle offset bytes) = HandleIsStorable handle × IsWord offset × AreBytes bytes
CallIsStorable (create dir name settings) = HandleIsStorable dir × AreBytes name × SettingsAreStorable settings
CallIsStorable (remove dir name) = HandleIsStorable dir × AreBytes name
CallIsStorable (rename from from_name to to_name) = HandleIsStorable from × AreBytes from_name × HandleIsStorable to × AreBytes to_name
CallIsStorable (make_link handle dir name) = HandleIsStorable handle × HandleIsStorable dir × AreBytes name
CallIsStorable (make_symbolic_link dir name path settings) = HandleIsStorable dir × AreBytes name × AreBytes path × SettingsAreStorable settings
CallIsStorable (make_directory dir name settings) = HandleIsStorable dir × AreBytes name × SettingsAreStorable settings
CallIsStorable (remove_directory dir name) = HandleIsStorable dir × AreBytes name
CallIsStorable (read_directory dir cookie count) = HandleIsStorable dir × IsWord cookie × IsWord count
CallIsStorable (file_system_status handle) = HandleIsStorable handle

pub record RequestIsStorable (request : Request) : Type 0 where
  pub xid : IsWord request.xid
  pub caller : CallerIsStorable request.credential
  pub arguments : AreBytes request.arguments
