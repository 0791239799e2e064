-- Worked examples of settings: those of a new file, and SETATTR.
use Rattle.std.proofs.Common.{◌≡◌, ℕ, List, [], ◌∷◌, ◌++◌, Some, refl, codes}
use Rattle.bfs_model.specs.Bytes.Items.{word, words, word_at, bytes_at, fixed_at, opaque_at, fixed, counted}
use Rattle.bfs_model.specs.Server.Tree.{Time, Inode, Inodes, file, new_tree, new_file_system}
use Rattle.bfs_model.specs.Bytes.Call.{Credential, call_of, header_of, opaque_auth_at, credential_of, system_credential_of, words_at}
use Rattle.bfs_model.specs.Server.Context.{Context}
use Rattle.bfs_model.specs.Bytes.Arguments.{Settings, create, set_attributes, read, handle, handle_id, handle_at, set_attributes_at, read_at, settings_at, named_with_settings_at, fields_at, arguments_of}
use Rattle.bfs_model.specs.Bytes.Replies.{found, attributes, contents, refused, isdir, results, success}
use Rattle.bfs_model.specs.Bytes.Attributes.{attributes_of}
use Rattle.bfs_model.specs.Server.Procedures.{procedure}
use Rattle.bfs_model.specs.Server.Serial.{execute}
use Rattle.bfs_model.proofs.Maps.{inode_gets, inode_entries, same}
use Rattle.bfs_model.proofs.Runs.{of_file, unset, succeeds, at, the_root, entry, holding, ends, next, executed}

-- the owner of what is made, with no further groups
abbrev owner : Credential
owner = record { uid = 7; gid = 8; gids = [] }

abbrev by_owner : (ordinal : ℕ) → Time → Context
by_owner ordinal time = record { ordinal = ordinal; time = time; caller = owner }

-- its calls have a credential of AUTH_SYS: a stamp of 0, a machine of no name, uid, gid, and no further gids
abbrev owner_calls : (xid procedure : ℕ) (arguments : List ℕ) → List ℕ
owner_calls xid procedure arguments = words ((xid ∷ 0 ∷ 2 ∷ 100003 ∷ 2 ∷ procedure ∷ 1 ∷ 20 ∷ 0 ∷ 0 ∷ 7 ∷ 8 ∷ 0 ∷ 0 ∷ 0 ∷ []) ++ arguments)

-- mode 0100600, owner 7:8, five bytes, atime 100.000005, and as mtime the time of the batch
abbrev all_set : Settings
all_set = record { mode = Some 0o100600; uid = Some 7; gid = Some 8; size = Some 5; atime = Some (record { seconds = 100; useconds = 5 }); mtime = Some (record { seconds = 0; useconds = 1000000 }) }

abbrev set_file : (permissions : ℕ) (mtime ctime : Time) (bytes : List ℕ) → Inode
set_file permissions mtime ctime bytes = record { permissions = permissions; links = 1; uid = 7; gid = 8; atime = record { seconds = 100; useconds = 5 }; mtime = mtime; ctime = ctime; body = file bytes }

abbrev with_a : Inode → Inodes
with_a inode = holding ((2, the_root 2 9 9 (entry 3 (codes "a") 3 ∷ [])) ∷ (3, inode) ∷ [])

abbrev five_zeros : List ℕ
five_zeros = 0 ∷ 0 ∷ 0 ∷ 0 ∷ 0 ∷ []

abbrev of_five : Inode
of_five = set_file 0o600 (at 9) (at 9) five_zeros

abbrev of_two : Inode
of_two = set_file 0o600 (at 10) (at 10) (0 ∷ 0 ∷ [])

abbrev of_four : Inode
of_four = set_file 0o777 (at 50) (at 10) (0 ∷ 0 ∷ 0 ∷ 0 ∷ [])

abbrev size_set : ℕ → Settings
size_set size = record unset { size = Some size }

abbrev mode_size_and_mtime_set : Settings
mode_size_and_mtime_set = record unset { mode = Some 0x41ff; size = Some 4; mtime = Some (at 50) }

made_as_set : procedure new_tree (by_owner 3 (at 9)) (create (Some 2) (codes "a") all_set) ≡ (with_a of_five, found 3 (attributes_of 3 of_five))
made_as_set = simp inode_gets (same (simp inode_entries) refl)

cut : procedure (with_a of_five) (by_owner 4 (at 10)) (set_attributes (Some 3) (size_set 2)) ≡ (with_a of_two, attributes (attributes_of 3 of_two))
cut = simp inode_gets (same (simp inode_entries) refl)

set_again : procedure (with_a of_two) (by_owner 5 (at 10)) (set_attributes (Some 3) mode_size_and_mtime_set) ≡ (with_a of_four, attributes (attributes_of 3 of_four))
set_again = simp inode_gets (same (simp inode_entries) refl)

directory_not_cut : procedure (with_a of_four) (by_owner 6 (at 10)) (set_attributes (Some 2) (size_set 0)) ≡ (with_a of_four, refused isdir)
directory_not_cut = simp inode_gets

filled_read : procedure (with_a of_four) (by_owner 7 (at 10)) (read (Some 3) 1 8) ≡ (with_a of_four, contents (attributes_of 3 of_four) (0 ∷ 0 ∷ 0 ∷ []))
filled_read = simp inode_gets

-- the word that says "not set"
abbrev not_set : ℕ
not_set = 0xffffffff

file_made_as_set : execute new_file_system (record { time = at 9; requests = owner_calls 1 9 (of_file 2 ++ 1 ∷ 0x61000000 ∷ 0x8180 ∷ 7 ∷ 8 ∷ 5 ∷ 100 ∷ 5 ∷ 0 ∷ 1000000 ∷ []) ∷ [] })
    ≡ (record { tree = with_a of_five; next_ordinal = 4; last_time = at 9 }, succeeds 1 (0 ∷ of_file 3 ++ 1 ∷ 0x8180 ∷ 1 ∷ 7 ∷ 8 ∷ 5 ∷ 4096 ∷ 0 ∷ 1 ∷ 1 ∷ 3 ∷ 100 ∷ 5 ∷ 9 ∷ 0 ∷ 9 ∷ 0 ∷ []) ∷ [])
unfolding call_of header_of opaque_auth_at credential_of system_credential_of words_at opaque_at fixed_at bytes_at word_at word handle arguments_of fields_at named_with_settings_at settings_at handle_at handle_id success results
file_made_as_set = executed _ _ (next refl refl made_as_set (ends _ _ _))

attributes_set_one_by_one : execute (record { tree = with_a of_five; next_ordinal = 4; last_time = at 9 }) (record {
  time = at 10;
  requests =
      owner_calls 1 2 (of_file 3 ++ not_set ∷ not_set ∷ not_set ∷ 2 ∷ not_set ∷ not_set ∷ not_set ∷ not_set ∷ [])
      ∷ owner_calls 2 2 (of_file 3 ++ 0x41ff ∷ not_set ∷ not_set ∷ 4 ∷ 60 ∷ not_set ∷ 50 ∷ 0 ∷ [])
      ∷ owner_calls 3 2 (of_file 2 ++ not_set ∷ not_set ∷ not_set ∷ 0 ∷ not_set ∷ not_set ∷ not_set ∷ not_set ∷ [])
      ∷ owner_calls 4 6 (of_file 3 ++ 1 ∷ 8 ∷ 0 ∷ [])
      ∷ [];
})
    ≡ (
      record { tree = with_a of_four; next_ordinal = 8; last_time = at 10 },
      succeeds 1 (0 ∷ 1 ∷ 0x8180 ∷ 1 ∷ 7 ∷ 8 ∷ 2 ∷ 4096 ∷ 0 ∷ 1 ∷ 1 ∷ 3 ∷ 100 ∷ 5 ∷ 10 ∷ 0 ∷ 10 ∷ 0 ∷ [])
          ∷ succeeds 2 (0 ∷ 1 ∷ 0x81ff ∷ 1 ∷ 7 ∷ 8 ∷ 4 ∷ 4096 ∷ 0 ∷ 1 ∷ 1 ∷ 3 ∷ 100 ∷ 5 ∷ 50 ∷ 0 ∷ 10 ∷ 0 ∷ [])
          ∷ succeeds 3 (21 ∷ [])
          ∷ succeeds 4 (0 ∷ 1 ∷ 0x81ff ∷ 1 ∷ 7 ∷ 8 ∷ 4 ∷ 4096 ∷ 0 ∷ 1 ∷ 1 ∷ 3 ∷ 100 ∷ 5 ∷ 50 ∷ 0 ∷ 10 ∷ 0 ∷ 3 ∷ 0 ∷ [])
          ∷ [],
    )
unfolding call_of header_of opaque_auth_at credential_of system_credential_of words_at opaque_at fixed_at bytes_at word_at word handle arguments_of fields_at set_attributes_at read_at settings_at handle_at handle_id success results fixed counted
attributes_set_one_by_one = executed _ _ (next refl refl cut (next refl refl set_again (next refl refl directory_not_cut (next refl refl filled_read (ends _ _ _)))))
