-- Who may do what: the class of a caller at an inode, and what the bits of its mode let that class do (RFC 1094 sections 2.3.5 and
-- 3.3).
use Rattle.std.specs.Prelude.{ℕ, Bool, false, not, ◌==◌, ◌&&◌, ◌||◌, List, [], ◌∷◌, bit_and, if◌then◌else◌}
use Rattle.std.specs.List.{list_any}
use Rattle.std.specs.Option.{option_map_or}
use Rattle.bfs_model.specs.Server.Tree.{Inode}
use Rattle.bfs_model.specs.Bytes.Call.{Credential}
use Rattle.bfs_model.specs.Bytes.Arguments.{Settings}
use Rattle.bfs_model.specs.Bytes.Replies.{Status, perm}

-- Callers ------------------------------------------------------------------------------------------------------------

-- uid 0, which passes each test below
abbrev pub is_superuser : Credential → Bool
is_superuser caller = caller.uid == 0

-- whether a caller belongs to a group
abbrev pub holds : Credential → (gid : ℕ) → Bool
holds caller gid = caller.gid == gid || list_any (λ other. other == gid) caller.gids

abbrev pub is_owner : Credential → Inode → Bool
is_owner caller inode = caller.uid == inode.uid

pub data Class : Type 0 where
  owner : Class
  group : Class
  others : Class

-- which of the three a caller is at an inode; its owner is not asked for the group
abbrev pub class_of : Credential → Inode → Class
class_of caller inode = if is_owner caller inode then owner else (if holds caller inode.gid then group else others)

-- Bits of a mode (RFC 1094 section 2.3.5) ----------------------------------------------------------------------------

abbrev pub read_bit : Class → ℕ
read_bit owner = 0o400
read_bit group = 0o040
read_bit others = 0o004

abbrev pub write_bit : Class → ℕ
write_bit owner = 0o200
write_bit group = 0o020
write_bit others = 0o002

-- to execute a file, or to search a directory
abbrev pub search_bit : Class → ℕ
search_bit owner = 0o100
search_bit group = 0o010
search_bit others = 0o001

-- whether a caller is the superuser, or an inode has the bit of its class
abbrev pub is_granted : (bit_of : Class → ℕ) → Credential → Inode → Bool
is_granted bit_of caller inode = is_superuser caller || not (bit_and inode.permissions (bit_of (class_of caller inode)) == 0)

abbrev pub may_read : Credential → Inode → Bool
may_read caller inode = is_granted read_bit caller inode

abbrev pub may_write : Credential → Inode → Bool
may_write caller inode = is_granted write_bit caller inode

abbrev pub may_search : Credential → Inode → Bool
may_search caller inode = is_granted search_bit caller inode

-- What calls ask -----------------------------------------------------------------------------------------------------

-- a directory's entries are made, renamed and removed by who may write and search it
abbrev pub may_change_entries : Credential → Inode → Bool
may_change_entries caller dir = may_write caller dir && may_search caller dir

-- a file is read by its owner whatever its mode, and by who may execute it too, since a client reads what it executes
abbrev pub may_read_file : Credential → Inode → Bool
may_read_file caller file = is_owner caller file || may_read caller file || may_search caller file

-- and written by its owner whatever its mode
abbrev pub may_write_file : Credential → Inode → Bool
may_write_file caller file = is_owner caller file || may_write caller file

-- mode, group and times are set by the owner
abbrev pub may_set : Credential → Inode → Bool
may_set caller inode = is_superuser caller || is_owner caller inode

-- what is made gets the caller for its owner, and a group that the caller holds
abbrev pub may_make_for : Credential → (uid : ℕ) → Bool
may_make_for caller uid = is_superuser caller || caller.uid == uid

abbrev pub may_give_to : Credential → (gid : ℕ) → Bool
may_give_to caller gid = is_superuser caller || holds caller gid

-- whether the owner and the group that a call sets of what it makes are others
abbrev pub owner_refusals : Credential → Settings → List (Bool × Status)
owner_refusals caller settings =
    (option_map_or (λ uid. not (may_make_for caller uid)) settings.uid false, perm)
    ∷ (option_map_or (λ gid. not (may_give_to caller gid)) settings.gid false, perm)
    ∷ []
