-- Worked examples of files: made, read, written and removed.
use Rattle.std.proofs.Common.{◌≡◌, ℕ, List, [], ◌∷◌, ◌++◌, Some, refl, codes}
use Rattle.std.specs.FinMap.{empty, insert}
use Rattle.bfs_model.specs.Bytes.Items.{words, word, word_at, bytes_at, fixed_at, opaque_at, fixed, counted}
use Rattle.bfs_model.specs.Server.Tree.{Inode, Inodes, new_tree, new_file_system}
use Rattle.bfs_model.specs.Bytes.Call.{Credential, call_of, header_of, opaque_auth_at, credential_of, system_credential_of, words_at}
use Rattle.bfs_model.specs.Bytes.Arguments.{create, get_attributes, look_up, read, write, remove, handle, handle_id, handle_at, file_at, named_at, read_at, write_at, settings_at, named_with_settings_at, fields_at, arguments_of}
use Rattle.bfs_model.specs.Bytes.Replies.{found, attributes, contents, done, refused, stale, results, success}
use Rattle.bfs_model.specs.Bytes.Attributes.{attributes_of}
use Rattle.bfs_model.specs.Server.Changes.{link_lost}
use Rattle.bfs_model.specs.Server.Procedures.{procedure}
use Rattle.bfs_model.specs.Server.Serial.{execute}
use Rattle.bfs_model.proofs.Maps.{inode_gets, inode_entries, same}
use Rattle.bfs_model.proofs.Runs.{under, calls, of_file, unset_words, unset, succeeds, told, at, a_file, the_root, entry, ends, next, executed}

-- One file -----------------------------------------------------------------------------------------------------------

-- the requests: CREATE of `a` in the root, GETATTR, READ, WRITE, and REMOVE and LOOKUP of `a` in the root
abbrev create_a : (xid : ℕ) → List ℕ
create_a xid = calls xid 9 (of_file 2 ++ (1 ∷ 0x61000000 ∷ []) ++ unset_words)

abbrev get_attributes_of : (xid id : ℕ) → List ℕ
get_attributes_of xid id = calls xid 1 (of_file id)

abbrev read_of : (xid id offset count : ℕ) → List ℕ
read_of xid id offset count = calls xid 6 (of_file id ++ offset ∷ count ∷ 0 ∷ [])

abbrev write_of : (xid id offset length bytes : ℕ) → List ℕ
write_of xid id offset length bytes = calls xid 8 (of_file id ++ 0 ∷ offset ∷ 0 ∷ length ∷ bytes ∷ [])

abbrev remove_a : (xid : ℕ) → List ℕ
remove_a xid = calls xid 10 (of_file 2 ++ 1 ∷ 0x61000000 ∷ [])

abbrev look_up_a : (xid : ℕ) → List ℕ
look_up_a xid = calls xid 4 (of_file 2 ++ 1 ∷ 0x61000000 ∷ [])

-- a root that holds `a` alone, made at so many seconds
abbrev with_a : (id seconds : ℕ) → Inode → Inodes
with_a id seconds inode = insert (insert empty 2 (the_root 2 seconds seconds (entry id (codes "a") id ∷ []))) id inode

a_created : procedure new_tree (under 3 (at 1)) (create (Some 2) (codes "a") unset) ≡ (with_a 3 1 (a_file 1 1 1 1 []), found 3 (attributes_of 3 (a_file 1 1 1 1 [])))
a_created = simp inode_gets (same (simp inode_entries) refl)

a_told : procedure (with_a 3 1 (a_file 1 1 1 1 [])) (under 4 (at 1)) (get_attributes (Some 3)) ≡ (with_a 3 1 (a_file 1 1 1 1 []), attributes (attributes_of 3 (a_file 1 1 1 1 [])))
a_told = simp inode_gets

created_and_told : execute new_file_system (record { time = at 1; requests = create_a 1 ∷ get_attributes_of 2 3 ∷ [] })
    ≡ (
      record { tree = with_a 3 1 (a_file 1 1 1 1 []); next_ordinal = 5; last_time = at 1 },
      succeeds 1 (0 ∷ of_file 3 ++ told 1 0x81a4 1 65534 65534 0 0 3 1 1 1) ∷ succeeds 2 (0 ∷ told 1 0x81a4 1 65534 65534 0 0 3 1 1 1) ∷ [],
    )
unfolding call_of header_of opaque_auth_at credential_of opaque_at fixed_at bytes_at word_at word handle arguments_of fields_at named_with_settings_at settings_at file_at handle_at handle_id success results
created_and_told = executed new_file_system _ (next refl refl a_created (next refl refl a_told (ends _ _ _)))

-- A fileid that leads nowhere does not keep the next call from making its file -----------------------------------------

nothing_told : procedure new_tree (under 3 (at 1)) (get_attributes (Some 4)) ≡ (new_tree, refused stale)
nothing_told = simp inode_gets

a_created_second : procedure new_tree (under 4 (at 1)) (create (Some 2) (codes "a") unset) ≡ (with_a 4 1 (a_file 1 1 1 1 []), found 4 (attributes_of 4 (a_file 1 1 1 1 [])))
a_created_second = simp inode_gets (same (simp inode_entries) refl)

asked_for_and_then_created : execute new_file_system (record { time = at 1; requests = get_attributes_of 1 4 ∷ create_a 2 ∷ [] })
    ≡ (
      record { tree = with_a 4 1 (a_file 1 1 1 1 []); next_ordinal = 5; last_time = at 1 },
      succeeds 1 (70 ∷ []) ∷ succeeds 2 (0 ∷ of_file 4 ++ told 1 0x81a4 1 65534 65534 0 0 4 1 1 1) ∷ [],
    )
unfolding call_of header_of opaque_auth_at credential_of opaque_at fixed_at bytes_at word_at word handle arguments_of fields_at named_with_settings_at settings_at file_at handle_at handle_id success results
asked_for_and_then_created = executed new_file_system _ (next refl refl nothing_told (next refl refl a_created_second (ends _ _ _)))

-- What is written is read ----------------------------------------------------------------------------------------------

old_written : procedure (with_a 3 1 (a_file 1 1 1 1 [])) (under 4 (at 1)) (write (Some 3) 0 (codes "old"))
    ≡ (with_a 3 1 (a_file 1 1 1 1 (codes "old")), attributes (attributes_of 3 (a_file 1 1 1 1 (codes "old"))))
old_written = simp inode_gets (same (simp inode_entries) refl)

created_and_written : execute new_file_system (record { time = at 1; requests = create_a 1 ∷ write_of 2 3 0 3 0x6f6c6400 ∷ [] })
    ≡ (
      record { tree = with_a 3 1 (a_file 1 1 1 1 (codes "old")); next_ordinal = 5; last_time = at 1 },
      succeeds 1 (0 ∷ of_file 3 ++ told 1 0x81a4 1 65534 65534 0 0 3 1 1 1) ∷ succeeds 2 (0 ∷ told 1 0x81a4 1 65534 65534 3 1 3 1 1 1) ∷ [],
    )
unfolding call_of header_of opaque_auth_at credential_of opaque_at fixed_at bytes_at word_at word handle arguments_of fields_at named_with_settings_at settings_at write_at handle_at handle_id success results
created_and_written = executed new_file_system _ (next refl refl a_created (next refl refl old_written (ends _ _ _)))

old_read : procedure (with_a 3 1 (a_file 1 1 1 1 (codes "old"))) (under 5 (at 2)) (read (Some 3) 0 8)
    ≡ (with_a 3 1 (a_file 1 1 1 1 (codes "old")), contents (attributes_of 3 (a_file 1 1 1 1 (codes "old"))) (codes "old"))
old_read = simp inode_gets

new_written : procedure (with_a 3 1 (a_file 1 1 1 1 (codes "old"))) (under 6 (at 2)) (write (Some 3) 0 (codes "new"))
    ≡ (with_a 3 1 (a_file 1 1 2 2 (codes "new")), attributes (attributes_of 3 (a_file 1 1 2 2 (codes "new"))))
new_written = simp inode_gets (same (simp inode_entries) refl)

new_read : procedure (with_a 3 1 (a_file 1 1 2 2 (codes "new"))) (under 7 (at 2)) (read (Some 3) 0 8)
    ≡ (with_a 3 1 (a_file 1 1 2 2 (codes "new")), contents (attributes_of 3 (a_file 1 1 2 2 (codes "new"))) (codes "new"))
new_read = simp inode_gets

read_written_and_read_again : execute (record { tree = with_a 3 1 (a_file 1 1 1 1 (codes "old")); next_ordinal = 5; last_time = at 1 }) (record { time = at 2; requests = read_of 1 3 0 8 ∷ write_of 2 3 0 3 0x6e657700 ∷ read_of 3 3 0 8 ∷ [] })
    ≡ (
      record { tree = with_a 3 1 (a_file 1 1 2 2 (codes "new")); next_ordinal = 8; last_time = at 2 },
      succeeds 1 (0 ∷ told 1 0x81a4 1 65534 65534 3 1 3 1 1 1 ++ 3 ∷ 0x6f6c6400 ∷ [])
          ∷ succeeds 2 (0 ∷ told 1 0x81a4 1 65534 65534 3 1 3 1 2 2)
          ∷ succeeds 3 (0 ∷ told 1 0x81a4 1 65534 65534 3 1 3 1 2 2 ++ 3 ∷ 0x6e657700 ∷ [])
          ∷ [],
    )
unfolding call_of header_of opaque_auth_at credential_of opaque_at fixed_at bytes_at word_at word handle arguments_of fields_at read_at write_at handle_at handle_id success results fixed counted
read_written_and_read_again = executed _ _ (next refl refl old_read (next refl refl new_written (next refl refl new_read (ends _ _ _))))

-- A name that is used again names another inode -------------------------------------------------------------------------

a_made : execute new_file_system (record { time = at 1; requests = create_a 1 ∷ [] })
    ≡ (record { tree = with_a 3 1 (a_file 1 1 1 1 []); next_ordinal = 4; last_time = at 1 }, succeeds 1 (0 ∷ of_file 3 ++ told 1 0x81a4 1 65534 65534 0 0 3 1 1 1) ∷ [])
unfolding call_of header_of opaque_auth_at credential_of opaque_at fixed_at bytes_at word_at word handle arguments_of fields_at named_with_settings_at settings_at handle_at handle_id success results
a_made = executed new_file_system _ (next refl refl a_created (ends _ _ _))

a_removed : procedure (with_a 3 1 (a_file 1 1 1 1 [])) (under 4 (at 2)) (remove (Some 2) (codes "a")) ≡ (insert empty 2 (the_root 2 2 2 []), done)
unfolding link_lost
a_removed = simp inode_gets (same (simp inode_entries) refl)

a_created_again : procedure (insert empty 2 (the_root 2 2 2 [])) (under 5 (at 2)) (create (Some 2) (codes "a") unset) ≡ (with_a 5 2 (a_file 1 2 2 2 []), found 5 (attributes_of 5 (a_file 1 2 2 2 [])))
a_created_again = simp inode_gets (same (simp inode_entries) refl)

a_found : procedure (with_a 5 2 (a_file 1 2 2 2 [])) (under 6 (at 2)) (look_up (Some 2) (codes "a")) ≡ (with_a 5 2 (a_file 1 2 2 2 []), found 5 (attributes_of 5 (a_file 1 2 2 2 [])))
a_found = simp inode_gets

removed_and_created_again : execute (record { tree = with_a 3 1 (a_file 1 1 1 1 []); next_ordinal = 4; last_time = at 1 }) (record { time = at 2; requests = remove_a 1 ∷ create_a 2 ∷ look_up_a 3 ∷ [] })
    ≡ (
      record { tree = with_a 5 2 (a_file 1 2 2 2 []); next_ordinal = 7; last_time = at 2 },
      succeeds 1 (0 ∷ [])
          ∷ succeeds 2 (0 ∷ of_file 5 ++ told 1 0x81a4 1 65534 65534 0 0 5 2 2 2)
          ∷ succeeds 3 (0 ∷ of_file 5 ++ told 1 0x81a4 1 65534 65534 0 0 5 2 2 2)
          ∷ [],
    )
unfolding call_of header_of opaque_auth_at credential_of opaque_at fixed_at bytes_at word_at word handle arguments_of fields_at named_with_settings_at settings_at named_at handle_at handle_id success results
removed_and_created_again = executed _ _ (next refl refl a_removed (next refl refl a_created_again (next refl refl a_found (ends _ _ _))))

-- A file is its caller's ---------------------------------------------------------------------------------------------------

-- uid 1000 and gid 100, and two further groups
abbrev caller : Credential
caller = record { uid = 1000; gid = 100; gids = 11 ∷ 12 ∷ [] }

abbrev callers_file : Inode
callers_file = record (a_file 1 1 1 1 []) { uid = 1000; gid = 100 }

callers_file_made : procedure new_tree (record { ordinal = 3; time = at 1; caller = caller }) (create (Some 2) (codes "a") unset) ≡ (with_a 3 1 callers_file, found 3 (attributes_of 3 callers_file))
callers_file_made = simp inode_gets (same (simp inode_entries) refl)

-- CREATE with a credential of AUTH_SYS: a stamp, a machine of no name, uid, gid, and two further gids
created_by_a_caller : execute new_file_system (record { time = at 1; requests = words ((5 ∷ 0 ∷ 2 ∷ 100003 ∷ 2 ∷ 9 ∷ 1 ∷ 28 ∷ 77 ∷ 0 ∷ 1000 ∷ 100 ∷ 2 ∷ 11 ∷ 12 ∷ 0 ∷ 0 ∷ []) ++ of_file 2 ++ (1 ∷ 0x61000000 ∷ []) ++ unset_words) ∷ [] })
    ≡ (record { tree = with_a 3 1 callers_file; next_ordinal = 4; last_time = at 1 }, succeeds 5 (0 ∷ of_file 3 ++ told 1 0x81a4 1 1000 100 0 0 3 1 1 1) ∷ [])
unfolding call_of header_of opaque_auth_at credential_of system_credential_of words_at opaque_at fixed_at bytes_at word_at word handle arguments_of fields_at named_with_settings_at settings_at handle_at handle_id success results
created_by_a_caller = executed new_file_system _ (next refl refl callers_file_made (ends _ _ _))
