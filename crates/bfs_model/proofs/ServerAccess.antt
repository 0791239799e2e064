-- Worked examples of access checks: a directory that is its owner's alone, a file that its group reads, and the superuser.
use Rattle.std.proofs.Common.{◌≡◌, ℕ, List, [], ◌∷◌, ◌++◌, Some, None, refl, codes}
use Rattle.bfs_model.specs.Bytes.Items.{word, words, word_at, bytes_at, fixed_at, opaque_at, fixed, counted}
use Rattle.bfs_model.specs.Server.Tree.{Entry, Inode, Inodes, file, directory, new_tree, new_file_system}
use Rattle.bfs_model.specs.Server.Context.{Context}
use Rattle.bfs_model.specs.Bytes.Call.{Credential, call_of, header_of, opaque_auth_at, credential_of, system_credential_of, words_at}
use Rattle.bfs_model.specs.Bytes.Arguments.{Settings, create, make_directory, look_up, read, write, set_attributes, rename, handle, handle_id, handle_at, named_at, named_with_settings_at, settings_at, fields_at, arguments_of}
use Rattle.bfs_model.specs.Bytes.Replies.{found, contents, refused, perm, acces, results, success}
use Rattle.bfs_model.specs.Bytes.Attributes.{attributes_of}
use Rattle.bfs_model.specs.Server.Procedures.{procedure}
use Rattle.bfs_model.specs.Server.Footprints.{known, footprint}
use Rattle.bfs_model.specs.Server.Serial.{execute}
use Rattle.bfs_model.proofs.Maps.{inode_gets, inode_entries, same}
use Rattle.bfs_model.proofs.Runs.{of_file, unset, unset_words, succeeds, told, at, the_root, entry, holding, ends, next, executed}

-- Callers ------------------------------------------------------------------------------------------------------------

abbrev caller : (uid gid : ℕ) (gids : List ℕ) → Credential
caller uid gid gids = record { uid = uid; gid = gid; gids = gids }

abbrev by_caller : Credential → (ordinal seconds : ℕ) → Context
by_caller credential ordinal seconds = record { ordinal = ordinal; time = at seconds; caller = credential }

-- two users of one group, and the superuser
abbrev first_user : Credential
first_user = caller 1000 100 []

abbrev second_user : Credential
second_user = caller 1001 100 []

abbrev superuser : Credential
superuser = caller 0 0 []

-- a call with a credential of AUTH_SYS: a stamp of 0, a machine of no name, uid, gid, and no further gids
abbrev calls_by : (uid gid xid procedure : ℕ) (arguments : List ℕ) → List ℕ
calls_by uid gid xid procedure arguments = words ((xid ∷ 0 ∷ 2 ∷ 100003 ∷ 2 ∷ procedure ∷ 1 ∷ 20 ∷ 0 ∷ 0 ∷ uid ∷ gid ∷ 0 ∷ 0 ∷ 0 ∷ []) ++ arguments)

-- A directory of mode 0700 -------------------------------------------------------------------------------------------

abbrev owners_alone : Settings
owners_alone = record unset { mode = Some 0o700 }

abbrev closed : (m c : ℕ) (entries : List Entry) → Inode
closed m c entries = record { permissions = 0o700; links = 2; uid = 1000; gid = 100; atime = at 1; mtime = at m; ctime = at c; body = directory (record { parent = 2; entries = entries }) }

abbrev with_closed : Inodes
with_closed = holding ((2, the_root 3 1 1 (entry 3 (codes "d") 3 ∷ [])) ∷ (3, closed 1 1 []) ∷ [])

abbrev roots_file : Inode
roots_file = record { permissions = 0o644; links = 1; uid = 0; gid = 0; atime = at 2; mtime = at 2; ctime = at 2; body = file [] }

d_made : procedure new_tree (by_caller first_user 3 1) (make_directory (Some 2) (codes "d") owners_alone) ≡ (with_closed, found 3 (attributes_of 3 (closed 1 1 [])))
d_made = simp inode_gets (same (simp inode_entries) refl)

not_searched : procedure with_closed (by_caller second_user 4 1) (look_up (Some 3) (codes "x")) ≡ (with_closed, refused acces)
not_searched = simp inode_gets

not_written : procedure with_closed (by_caller second_user 5 1) (create (Some 3) (codes "a") unset) ≡ (with_closed, refused acces)
not_written = simp inode_gets

made_by_the_superuser : procedure with_closed (by_caller superuser 6 2) (create (Some 3) (codes "a") unset)
    ≡ (holding ((2, the_root 3 1 1 (entry 3 (codes "d") 3 ∷ [])) ∷ (3, closed 2 2 (entry 6 (codes "a") 6 ∷ [])) ∷ (6, roots_file) ∷ []), found 6 (attributes_of 6 roots_file))
made_by_the_superuser = simp inode_gets (same (simp inode_entries) refl)

-- RENAME of `x` from there is refused so, and reads both directories
refused_renaming : footprint with_closed (by_caller second_user 4 1) (rename (Some 3) (codes "x") (Some 2) (codes "y")) ≡ known (3 ∷ 2 ∷ []) []
refused_renaming = simp inode_gets refl

let_in : execute new_file_system (record {
  time = at 1;
  requests =
      calls_by 1000 100 1 14 (of_file 2 ++ 1 ∷ 0x64000000 ∷ 0o700 ∷ 0xffffffff ∷ 0xffffffff ∷ 0xffffffff ∷ 0xffffffff ∷ 0xffffffff ∷ 0xffffffff ∷ 0xffffffff ∷ [])
      ∷ calls_by 1001 100 1 4 (of_file 3 ++ 1 ∷ 0x78000000 ∷ [])
      ∷ calls_by 1001 100 2 9 (of_file 3 ++ (1 ∷ 0x61000000 ∷ []) ++ unset_words)
      ∷ [];
})
    ≡ (
      record { tree = with_closed; next_ordinal = 6; last_time = at 1 },
      succeeds 1 (0 ∷ of_file 3 ++ told 2 0x41c0 2 1000 100 64 1 3 1 1 1) ∷ succeeds 1 (13 ∷ []) ∷ succeeds 2 (13 ∷ []) ∷ [],
    )
unfolding call_of header_of opaque_auth_at credential_of system_credential_of words_at opaque_at fixed_at bytes_at word_at word handle arguments_of fields_at named_at named_with_settings_at settings_at handle_at handle_id success results
let_in = executed new_file_system _ (next refl refl d_made (next refl refl not_searched (next refl refl not_written (ends _ _ _))))

-- A file of mode 040 -------------------------------------------------------------------------------------------------

abbrev groups_file : Inode
groups_file = record { permissions = 0o040; links = 1; uid = 1000; gid = 100; atime = at 1; mtime = at 1; ctime = at 1; body = file [] }

abbrev with_groups_file : Inodes
with_groups_file = holding ((2, the_root 2 1 1 (entry 3 (codes "a") 3 ∷ [])) ∷ (3, groups_file) ∷ [])

-- its owner, who has no bit, a caller of its group, and one that holds its group further
read_by_its_owner : procedure with_groups_file (by_caller first_user 4 2) (read (Some 3) 0 8) ≡ (with_groups_file, contents (attributes_of 3 groups_file) [])
read_by_its_owner = simp inode_gets

read_by_its_group : procedure with_groups_file (by_caller second_user 5 2) (read (Some 3) 0 8) ≡ (with_groups_file, contents (attributes_of 3 groups_file) [])
read_by_its_group = simp inode_gets

not_read_by_others : procedure with_groups_file (by_caller (caller 1001 7 []) 6 2) (read (Some 3) 0 8) ≡ (with_groups_file, refused acces)
not_read_by_others = simp inode_gets

read_by_who_holds_its_group : procedure with_groups_file (by_caller (caller 1001 7 (100 ∷ [])) 7 2) (read (Some 3) 0 8) ≡ (with_groups_file, contents (attributes_of 3 groups_file) [])
read_by_who_holds_its_group = simp inode_gets

not_written_by_its_group : procedure with_groups_file (by_caller (caller 1001 7 (100 ∷ [])) 8 2) (write (Some 3) 0 (codes "x")) ≡ (with_groups_file, refused acces)
not_written_by_its_group = simp inode_gets

-- its owner gives it to nobody else
not_given_away : procedure with_groups_file (by_caller first_user 9 2) (set_attributes (Some 3) (record unset { uid = Some 5 })) ≡ (with_groups_file, refused perm)
not_given_away = simp inode_gets
