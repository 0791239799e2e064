-- Worked examples of RENAME from one directory to another, and of RMDIR.
use Rattle.std.proofs.Common.{◌≡◌, List, [], ◌∷◌, ◌++◌, Some, refl, codes}
use Rattle.bfs_model.specs.Bytes.Items.{word, word_at, bytes_at, fixed_at, opaque_at}
use Rattle.bfs_model.specs.Server.Tree.{Entry, Inode, Inodes, new_tree, new_file_system}
use Rattle.bfs_model.specs.Bytes.Call.{call_of, header_of, opaque_auth_at, credential_of}
use Rattle.bfs_model.specs.Bytes.Arguments.{create, look_up, rename, make_directory, remove_directory, handle, handle_id, handle_at, named_at, rename_at, settings_at, named_with_settings_at, fields_at, arguments_of}
use Rattle.bfs_model.specs.Bytes.Replies.{found, done, refused, notempty, results, success}
use Rattle.bfs_model.specs.Bytes.Attributes.{attributes_of}
use Rattle.bfs_model.specs.Server.Changes.{changed, link_lost}
use Rattle.bfs_model.specs.Server.Procedures.{procedure}
use Rattle.bfs_model.specs.Server.Procedures.Renaming.{is_within}
use Rattle.bfs_model.specs.Server.Serial.{execute}
use Rattle.bfs_model.proofs.Maps.{inode_gets, inode_entries, same}
use Rattle.bfs_model.proofs.Runs.{under, calls, of_file, names, names_unset, renames, unset, succeeds, told, at, a_file, a_directory, the_root, entry, holding, ends, next, executed}

-- Two directories, and a file in the first -----------------------------------------------------------------------------------

abbrev d_e : List Entry
d_e = entry 3 (codes "d") 3 ∷ entry 4 (codes "e") 4 ∷ []

abbrev empty_directory : Inode
empty_directory = a_directory 2 1 1 1 2 []

abbrev beginning : Inodes
beginning = holding ((2, the_root 4 1 1 d_e) ∷ (3, a_directory 2 1 1 1 2 (entry 5 (codes "f") 5 ∷ [])) ∷ (4, empty_directory) ∷ (5, a_file 1 1 1 1 []) ∷ [])

d_made : procedure new_tree (under 3 (at 1)) (make_directory (Some 2) (codes "d") unset)
    ≡ (holding ((2, the_root 3 1 1 (entry 3 (codes "d") 3 ∷ [])) ∷ (3, empty_directory) ∷ []), found 3 (attributes_of 3 empty_directory))
d_made = simp inode_gets (same (simp inode_entries) refl)

e_made : procedure (holding ((2, the_root 3 1 1 (entry 3 (codes "d") 3 ∷ [])) ∷ (3, empty_directory) ∷ [])) (under 4 (at 1)) (make_directory (Some 2) (codes "e") unset)
    ≡ (holding ((2, the_root 4 1 1 d_e) ∷ (3, empty_directory) ∷ (4, empty_directory) ∷ []), found 4 (attributes_of 4 empty_directory))
e_made = simp inode_gets (same (simp inode_entries) refl)

f_made : procedure (holding ((2, the_root 4 1 1 d_e) ∷ (3, empty_directory) ∷ (4, empty_directory) ∷ [])) (under 5 (at 1)) (create (Some 3) (codes "f") unset)
    ≡ (beginning, found 5 (attributes_of 5 (a_file 1 1 1 1 [])))
f_made = simp inode_gets (same (simp inode_entries) refl)

directories_made : execute new_file_system (record { time = at 1; requests = names_unset 1 14 2 0x64000000 ∷ names_unset 2 14 2 0x65000000 ∷ names_unset 3 9 3 0x66000000 ∷ [] })
    ≡ (
      record { tree = beginning; next_ordinal = 6; last_time = at 1 },
      succeeds 1 (0 ∷ of_file 3 ++ told 2 0x41ed 2 65534 65534 64 1 3 1 1 1)
          ∷ succeeds 2 (0 ∷ of_file 4 ++ told 2 0x41ed 2 65534 65534 64 1 4 1 1 1)
          ∷ succeeds 3 (0 ∷ of_file 5 ++ told 1 0x81a4 1 65534 65534 0 0 5 1 1 1)
          ∷ [],
    )
unfolding call_of header_of opaque_auth_at credential_of opaque_at fixed_at bytes_at word_at word handle arguments_of fields_at named_with_settings_at settings_at handle_at handle_id success results
directories_made = executed _ _ (next refl refl d_made (next refl refl e_made (next refl refl f_made (ends _ _ _))))

-- The first comes into the second; its file takes the name of another; and then it goes ---------------------------------------

abbrev e_with_x : Inode
e_with_x = a_directory 3 1 2 2 2 (entry 6 (codes "x") 3 ∷ [])

abbrev x_with_f : Inode
x_with_f = a_directory 2 1 1 2 4 (entry 5 (codes "f") 5 ∷ [])

abbrev moved : Inodes
moved = holding ((2, the_root 3 2 2 (entry 4 (codes "e") 4 ∷ [])) ∷ (3, x_with_f) ∷ (4, e_with_x) ∷ (5, a_file 1 1 1 1 []) ∷ [])

abbrev moved_and_g : Inodes
moved_and_g = holding ((2, the_root 3 2 2 (entry 4 (codes "e") 4 ∷ entry 9 (codes "g") 9 ∷ [])) ∷ (3, x_with_f) ∷ (4, e_with_x) ∷ (5, a_file 1 1 1 1 []) ∷ (9, a_file 1 2 2 2 []) ∷ [])

abbrev f_as_g : Inodes
f_as_g = holding ((2, the_root 3 2 2 (entry 4 (codes "e") 4 ∷ entry 10 (codes "g") 5 ∷ [])) ∷ (3, a_directory 2 1 2 2 4 []) ∷ (4, e_with_x) ∷ (5, a_file 1 1 1 2 []) ∷ [])

abbrev x_gone : Inodes
x_gone = holding ((2, the_root 3 2 2 (entry 4 (codes "e") 4 ∷ entry 10 (codes "g") 5 ∷ [])) ∷ (4, a_directory 2 1 2 2 2 []) ∷ (5, a_file 1 1 1 2 []) ∷ [])

d_moved : procedure beginning (under 6 (at 2)) (rename (Some 2) (codes "d") (Some 4) (codes "x")) ≡ (moved, done)
unfolding is_within changed
d_moved = simp inode_gets (same (simp inode_entries) refl)

above_found : procedure moved (under 7 (at 2)) (look_up (Some 3) (codes "..")) ≡ (moved, found 4 (attributes_of 4 e_with_x))
above_found = simp inode_gets

not_empty : procedure moved (under 8 (at 2)) (remove_directory (Some 4) (codes "x")) ≡ (moved, refused notempty)
not_empty = simp inode_gets

g_made : procedure moved (under 9 (at 2)) (create (Some 2) (codes "g") unset) ≡ (moved_and_g, found 9 (attributes_of 9 (a_file 1 2 2 2 [])))
g_made = simp inode_gets (same (simp inode_entries) refl)

g_replaced : procedure moved_and_g (under 10 (at 2)) (rename (Some 3) (codes "f") (Some 2) (codes "g")) ≡ (f_as_g, done)
unfolding is_within changed link_lost
g_replaced = simp inode_gets (same (simp inode_entries) refl)

x_removed : procedure f_as_g (under 11 (at 2)) (remove_directory (Some 4) (codes "x")) ≡ (x_gone, done)
unfolding changed
x_removed = simp inode_gets (same (simp inode_entries) refl)

g_found : procedure x_gone (under 12 (at 2)) (look_up (Some 2) (codes "g")) ≡ (x_gone, found 5 (attributes_of 5 (a_file 1 1 1 2 [])))
g_found = simp inode_gets

moved_replaced_and_removed : execute (record { tree = beginning; next_ordinal = 6; last_time = at 1 }) (record {
  time = at 2;
  requests =
      renames 1 2 0x64000000 4 0x78000000
      ∷ calls 2 4 (of_file 3 ++ 2 ∷ 0x2e2e0000 ∷ [])
      ∷ names 3 15 4 0x78000000
      ∷ names_unset 4 9 2 0x67000000
      ∷ renames 5 3 0x66000000 2 0x67000000
      ∷ names 6 15 4 0x78000000
      ∷ names 7 4 2 0x67000000
      ∷ [];
})
    ≡ (
      record { tree = x_gone; next_ordinal = 13; last_time = at 2 },
      succeeds 1 (0 ∷ [])
          ∷ succeeds 2 (0 ∷ of_file 4 ++ told 2 0x41ed 3 65534 65534 96 1 4 1 2 2)
          ∷ succeeds 3 (66 ∷ [])
          ∷ succeeds 4 (0 ∷ of_file 9 ++ told 1 0x81a4 1 65534 65534 0 0 9 2 2 2)
          ∷ succeeds 5 (0 ∷ [])
          ∷ succeeds 6 (0 ∷ [])
          ∷ succeeds 7 (0 ∷ of_file 5 ++ told 1 0x81a4 1 65534 65534 0 0 5 1 1 2)
          ∷ [],
    )
unfolding call_of header_of opaque_auth_at credential_of opaque_at fixed_at bytes_at word_at word handle arguments_of fields_at named_with_settings_at settings_at rename_at named_at handle_at handle_id success results
moved_replaced_and_removed = executed _ _ (next refl refl d_moved (next refl refl above_found (next refl refl not_empty (next refl refl g_made (next refl refl g_replaced (next refl refl x_removed (next refl refl g_found (ends _ _ _))))))))
