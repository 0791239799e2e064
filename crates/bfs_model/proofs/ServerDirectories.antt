-- Worked examples of directories: links, listings and renames.
use Rattle.std.proofs.Common.{◌≡◌, [], ◌∷◌, ◌++◌, Some, refl, codes}
use Rattle.bfs_model.specs.Bytes.Items.{word, word_at, bytes_at, fixed_at, opaque_at}
use Rattle.bfs_model.specs.Server.Tree.{Inode, Inodes, new_tree, new_file_system}
use Rattle.bfs_model.specs.Bytes.Call.{call_of, header_of, opaque_auth_at, credential_of}
use Rattle.bfs_model.specs.Bytes.Arguments.{create, write, rename, make_directory, handle, handle_id, handle_at, write_at, rename_at, settings_at, named_with_settings_at, fields_at, arguments_of}
use Rattle.bfs_model.specs.Bytes.Replies.{found, attributes, refused, perm, results, success}
use Rattle.bfs_model.specs.Bytes.Attributes.{attributes_of}
use Rattle.bfs_model.specs.Server.Procedures.{procedure}
use Rattle.bfs_model.specs.Server.Procedures.Renaming.{is_within}
use Rattle.bfs_model.specs.Server.Serial.{execute}
use Rattle.bfs_model.proofs.Maps.{inode_gets, inode_entries, same}
use Rattle.bfs_model.proofs.Runs.{under, of_file, names_unset, writes, renames, unset, succeeds, told, at, a_file, a_directory, the_root, entry, holding, ends, next, executed}

-- A directory does not come below itself --------------------------------------------------------------------------------

abbrev root_with_d : Inode
root_with_d = the_root 3 1 1 (entry 3 (codes "d") 3 ∷ [])

abbrev d_alone : Inodes
d_alone = holding ((2, root_with_d) ∷ (3, a_directory 2 1 1 1 2 []) ∷ [])

abbrev d_with_e : Inode
d_with_e = a_directory 3 1 1 1 2 (entry 4 (codes "e") 4 ∷ [])

abbrev e : Inode
e = a_directory 2 1 1 1 3 []

abbrev root_with_d_a : Inode
root_with_d_a = the_root 3 1 1 (entry 3 (codes "d") 3 ∷ entry 5 (codes "a") 5 ∷ [])

abbrev root_with_d_a_b : Inode
root_with_d_a_b = the_root 3 1 1 (entry 3 (codes "d") 3 ∷ entry 5 (codes "a") 5 ∷ entry 6 (codes "b") 6 ∷ [])

-- `d` with `e` in it, beside two files
abbrev d_e_and_files : (a b : Inode) → Inodes
d_e_and_files a b = holding ((2, root_with_d_a_b) ∷ (3, d_with_e) ∷ (4, e) ∷ (5, a) ∷ (6, b) ∷ [])

d_made : procedure new_tree (under 3 (at 1)) (make_directory (Some 2) (codes "d") unset) ≡ (d_alone, found 3 (attributes_of 3 (a_directory 2 1 1 1 2 [])))
d_made = simp inode_gets (same (simp inode_entries) refl)

e_made : procedure d_alone (under 4 (at 1)) (make_directory (Some 3) (codes "e") unset)
    ≡ (holding ((2, root_with_d) ∷ (3, d_with_e) ∷ (4, e) ∷ []), found 4 (attributes_of 4 e))
e_made = simp inode_gets (same (simp inode_entries) refl)

a_made : procedure (holding ((2, root_with_d) ∷ (3, d_with_e) ∷ (4, e) ∷ [])) (under 5 (at 1)) (create (Some 2) (codes "a") unset)
    ≡ (holding ((2, root_with_d_a) ∷ (3, d_with_e) ∷ (4, e) ∷ (5, a_file 1 1 1 1 []) ∷ []), found 5 (attributes_of 5 (a_file 1 1 1 1 [])))
a_made = simp inode_gets (same (simp inode_entries) refl)

b_made : procedure (holding ((2, root_with_d_a) ∷ (3, d_with_e) ∷ (4, e) ∷ (5, a_file 1 1 1 1 []) ∷ [])) (under 6 (at 1)) (create (Some 2) (codes "b") unset)
    ≡ (d_e_and_files (a_file 1 1 1 1 []) (a_file 1 1 1 1 []), found 6 (attributes_of 6 (a_file 1 1 1 1 [])))
b_made = simp inode_gets (same (simp inode_entries) refl)

nested_made : execute new_file_system (record { time = at 1; requests = names_unset 1 14 2 0x64000000 ∷ names_unset 2 14 3 0x65000000 ∷ names_unset 3 9 2 0x61000000 ∷ names_unset 4 9 2 0x62000000 ∷ [] })
    ≡ (
      record { tree = d_e_and_files (a_file 1 1 1 1 []) (a_file 1 1 1 1 []); next_ordinal = 7; last_time = at 1 },
      succeeds 1 (0 ∷ of_file 3 ++ told 2 0x41ed 2 65534 65534 64 1 3 1 1 1)
          ∷ succeeds 2 (0 ∷ of_file 4 ++ told 2 0x41ed 2 65534 65534 64 1 4 1 1 1)
          ∷ succeeds 3 (0 ∷ of_file 5 ++ told 1 0x81a4 1 65534 65534 0 0 5 1 1 1)
          ∷ succeeds 4 (0 ∷ of_file 6 ++ told 1 0x81a4 1 65534 65534 0 0 6 1 1 1)
          ∷ [],
    )
unfolding call_of header_of opaque_auth_at credential_of opaque_at fixed_at bytes_at word_at word handle arguments_of fields_at named_with_settings_at settings_at handle_at handle_id success results
nested_made = executed new_file_system _ (next refl refl d_made (next refl refl e_made (next refl refl a_made (next refl refl b_made (ends _ _ _)))))

a_written : procedure (d_e_and_files (a_file 1 1 1 1 []) (a_file 1 1 1 1 [])) (under 7 (at 2)) (write (Some 5) 0 (codes "x"))
    ≡ (d_e_and_files (a_file 1 1 2 2 (codes "x")) (a_file 1 1 1 1 []), attributes (attributes_of 5 (a_file 1 1 2 2 (codes "x"))))
a_written = simp inode_gets (same (simp inode_entries) refl)

d_kept : procedure (d_e_and_files (a_file 1 1 2 2 (codes "x")) (a_file 1 1 1 1 [])) (under 8 (at 2)) (rename (Some 2) (codes "d") (Some 4) (codes "x"))
    ≡ (d_e_and_files (a_file 1 1 2 2 (codes "x")) (a_file 1 1 1 1 []), refused perm)
unfolding is_within
d_kept = simp inode_gets

b_written : procedure (d_e_and_files (a_file 1 1 2 2 (codes "x")) (a_file 1 1 1 1 [])) (under 9 (at 2)) (write (Some 6) 0 (codes "y"))
    ≡ (d_e_and_files (a_file 1 1 2 2 (codes "x")) (a_file 1 1 2 2 (codes "y")), attributes (attributes_of 6 (a_file 1 1 2 2 (codes "y"))))
b_written = simp inode_gets (same (simp inode_entries) refl)

not_moved_below_itself : execute (record { tree = d_e_and_files (a_file 1 1 1 1 []) (a_file 1 1 1 1 []); next_ordinal = 7; last_time = at 1 })
    (record { time = at 2; requests = writes 1 5 0 1 0x78000000 ∷ renames 2 2 0x64000000 4 0x78000000 ∷ writes 3 6 0 1 0x79000000 ∷ [] })
    ≡ (
      record { tree = d_e_and_files (a_file 1 1 2 2 (codes "x")) (a_file 1 1 2 2 (codes "y")); next_ordinal = 10; last_time = at 2 },
      succeeds 1 (0 ∷ told 1 0x81a4 1 65534 65534 1 1 5 1 2 2) ∷ succeeds 2 (1 ∷ []) ∷ succeeds 3 (0 ∷ told 1 0x81a4 1 65534 65534 1 1 6 1 2 2) ∷ [],
    )
unfolding call_of header_of opaque_auth_at credential_of opaque_at fixed_at bytes_at word_at word handle arguments_of fields_at write_at rename_at handle_at handle_id success results
not_moved_below_itself = executed _ _ (next refl refl a_written (next refl refl d_kept (next refl refl b_written (ends _ _ _))))
