-- Worked examples of READDIR and of STATFS, and of names that a directory has already.
use Rattle.std.proofs.Common.{◌≡◌, List, [], ◌∷◌, ◌++◌, Some, true, false, refl, codes}
use Rattle.bfs_model.specs.Bytes.Items.{word, word_at, bytes_at, fixed_at, opaque_at, fixed, counted, boolean}
use Rattle.bfs_model.specs.Server.Tree.{Inode, Inodes, Entry, new_tree, new_file_system}
use Rattle.bfs_model.specs.Bytes.Call.{call_of, header_of, opaque_auth_at, credential_of}
use Rattle.bfs_model.specs.Bytes.Arguments.{create, look_up, remove, rename, make_link, make_directory, read_directory, file_system_status, handle, handle_id, handle_at, file_at, named_at, rename_at, link_at, read_directory_at, settings_at, named_with_settings_at, fields_at, arguments_of}
use Rattle.bfs_model.specs.Bytes.Replies.{found, done, refused, perm, isdir, notdir, listed, free_blocks, results, success}
use Rattle.bfs_model.specs.Bytes.Attributes.{attributes_of}
use Rattle.bfs_model.specs.Server.Changes.{changed, link_lost}
use Rattle.bfs_model.specs.Server.Procedures.{procedure}
use Rattle.bfs_model.specs.Server.Procedures.Renaming.{is_within}
use Rattle.bfs_model.specs.Server.Serial.{execute}
use Rattle.bfs_model.proofs.Maps.{inode_gets, inode_entries, same}
use Rattle.bfs_model.proofs.Runs.{under, calls, of_file, names, names_unset, renames, lists, unset, succeeds, told, at, a_file, a_directory, the_root, entry, holding, ends, next, executed}

-- READDIR, page by page ----------------------------------------------------------------------------------------------------

abbrev a_b : List Entry
a_b = entry 3 (codes "a") 3 ∷ entry 4 (codes "b") 4 ∷ []

abbrev a_b_c : List Entry
a_b_c = entry 3 (codes "a") 3 ∷ entry 4 (codes "b") 4 ∷ entry 5 (codes "c") 5 ∷ []

abbrev new : Inode
new = a_file 1 1 1 1 []

abbrev three : Inodes
three = holding ((2, the_root 2 1 1 a_b_c) ∷ (3, new) ∷ (4, new) ∷ (5, new) ∷ [])

abbrev two : Inodes
two = holding ((2, the_root 2 2 2 (entry 4 (codes "b") 4 ∷ entry 5 (codes "c") 5 ∷ [])) ∷ (4, new) ∷ (5, new) ∷ [])

a_made : procedure new_tree (under 3 (at 1)) (create (Some 2) (codes "a") unset) ≡ (holding ((2, the_root 2 1 1 (entry 3 (codes "a") 3 ∷ [])) ∷ (3, new) ∷ []), found 3 (attributes_of 3 new))
a_made = simp inode_gets (same (simp inode_entries) refl)

b_made : procedure (holding ((2, the_root 2 1 1 (entry 3 (codes "a") 3 ∷ [])) ∷ (3, new) ∷ [])) (under 4 (at 1)) (create (Some 2) (codes "b") unset)
    ≡ (holding ((2, the_root 2 1 1 a_b) ∷ (3, new) ∷ (4, new) ∷ []), found 4 (attributes_of 4 new))
b_made = simp inode_gets (same (simp inode_entries) refl)

c_made : procedure (holding ((2, the_root 2 1 1 a_b) ∷ (3, new) ∷ (4, new) ∷ [])) (under 5 (at 1)) (create (Some 2) (codes "c") unset) ≡ (three, found 5 (attributes_of 5 new))
c_made = simp inode_gets (same (simp inode_entries) refl)

three_made : execute new_file_system (record { time = at 1; requests = names_unset 1 9 2 0x61000000 ∷ names_unset 2 9 2 0x62000000 ∷ names_unset 3 9 2 0x63000000 ∷ [] })
    ≡ (
      record { tree = three; next_ordinal = 6; last_time = at 1 },
      succeeds 1 (0 ∷ of_file 3 ++ told 1 0x81a4 1 65534 65534 0 0 3 1 1 1) ∷ succeeds 2 (0 ∷ of_file 4 ++ told 1 0x81a4 1 65534 65534 0 0 4 1 1 1) ∷ succeeds 3 (0 ∷ of_file 5 ++ told 1 0x81a4 1 65534 65534 0 0 5 1 1 1) ∷ [],
    )
unfolding call_of header_of opaque_auth_at credential_of opaque_at fixed_at bytes_at word_at word handle arguments_of fields_at named_with_settings_at settings_at handle_at handle_id success results
three_made = executed new_file_system _ (next refl refl a_made (next refl refl b_made (next refl refl c_made (ends _ _ _))))

none_listed : procedure three (under 6 (at 2)) (read_directory (Some 2) 0 12) ≡ (three, listed [] false)
none_listed = simp inode_gets

first_listed : procedure three (under 7 (at 2)) (read_directory (Some 2) 0 72) ≡ (three, listed (entry 1 (codes ".") 2 ∷ entry 2 (codes "..") 2 ∷ entry 3 (codes "a") 3 ∷ []) false)
first_listed = simp inode_gets

a_removed : procedure three (under 8 (at 2)) (remove (Some 2) (codes "a")) ≡ (two, done)
unfolding link_lost
a_removed = simp inode_gets (same (simp inode_entries) refl)

last_listed : procedure two (under 9 (at 2)) (read_directory (Some 2) 3 8192) ≡ (two, listed (entry 4 (codes "b") 4 ∷ entry 5 (codes "c") 5 ∷ []) true)
last_listed = simp inode_gets

listed_by_pages : execute (record { tree = three; next_ordinal = 6; last_time = at 1 }) (record { time = at 2; requests = lists 1 2 0 12 ∷ lists 2 2 0 72 ∷ names 3 10 2 0x61000000 ∷ lists 4 2 3 8192 ∷ [] })
    ≡ (
      record { tree = two; next_ordinal = 10; last_time = at 2 },
      succeeds 1 (0 ∷ 0 ∷ 0 ∷ [])
          ∷ succeeds 2 (0 ∷ 1 ∷ 2 ∷ 1 ∷ 0x2e000000 ∷ 1 ∷ 1 ∷ 2 ∷ 2 ∷ 0x2e2e0000 ∷ 2 ∷ 1 ∷ 3 ∷ 1 ∷ 0x61000000 ∷ 3 ∷ 0 ∷ 0 ∷ [])
          ∷ succeeds 3 (0 ∷ [])
          ∷ succeeds 4 (0 ∷ 1 ∷ 4 ∷ 1 ∷ 0x62000000 ∷ 4 ∷ 1 ∷ 5 ∷ 1 ∷ 0x63000000 ∷ 5 ∷ 0 ∷ 1 ∷ [])
          ∷ [],
    )
unfolding call_of header_of opaque_auth_at credential_of opaque_at fixed_at bytes_at word_at word handle arguments_of fields_at named_at read_directory_at handle_at handle_id success results fixed counted boolean
listed_by_pages = executed _ _ (next refl refl none_listed (next refl refl first_listed (next refl refl a_removed (next refl refl last_listed (ends _ _ _)))))

-- a page ends before the entry that it does not hold whole, and begins behind the cookie
short_of_one : procedure three (under 6 (at 2)) (read_directory (Some 2) 0 31) ≡ (three, listed [] false)
short_of_one = simp inode_gets

one_listed : procedure three (under 6 (at 2)) (read_directory (Some 2) 0 32) ≡ (three, listed (entry 1 (codes ".") 2 ∷ []) false)
one_listed = simp inode_gets

short_of_all : procedure three (under 6 (at 2)) (read_directory (Some 2) 0 111) ≡ (three, listed (entry 1 (codes ".") 2 ∷ entry 2 (codes "..") 2 ∷ a_b) false)
short_of_all = simp inode_gets

behind_a : procedure three (under 6 (at 2)) (read_directory (Some 2) 3 8192) ≡ (three, listed (entry 4 (codes "b") 4 ∷ entry 5 (codes "c") 5 ∷ []) true)
behind_a = simp inode_gets

behind_all : procedure three (under 6 (at 2)) (read_directory (Some 2) 5 0) ≡ (three, listed [] true)
behind_all = simp inode_gets

-- STATFS -------------------------------------------------------------------------------------------------------------------

root_counted : procedure new_tree (under 3 (at 1)) (file_system_status (Some 2)) ≡ (new_tree, free_blocks 262143)
root_counted = simp (inode_gets, inode_entries)

blocks_told : execute new_file_system (record { time = at 1; requests = calls 1 17 (of_file 2) ∷ [] })
    ≡ (record new_file_system { next_ordinal = 4; last_time = at 1 }, succeeds 1 (0 ∷ 8192 ∷ 4096 ∷ 262144 ∷ 262143 ∷ 262143 ∷ []) ∷ [])
unfolding call_of header_of opaque_auth_at credential_of opaque_at fixed_at bytes_at word_at word handle arguments_of fields_at file_at handle_at handle_id success results
blocks_told = executed new_file_system _ (next refl refl root_counted (ends _ _ _))

-- a file of three bytes takes a block
file_counted : procedure (holding ((2, the_root 2 1 1 (entry 3 (codes "a") 3 ∷ [])) ∷ (3, a_file 1 1 1 1 (codes "old")) ∷ [])) (under 4 (at 1)) (file_system_status (Some 3))
    ≡ (holding ((2, the_root 2 1 1 (entry 3 (codes "a") 3 ∷ [])) ∷ (3, a_file 1 1 1 1 (codes "old")) ∷ []), free_blocks 262142)
file_counted = simp (inode_gets, inode_entries)

-- Names that are there already -----------------------------------------------------------------------------------------------

abbrev d : Inode
d = a_directory 2 2 2 2 2 []

abbrev with_d_a : Inodes
with_d_a = holding ((2, the_root 3 2 2 (entry 4 (codes "d") 4 ∷ entry 5 (codes "a") 5 ∷ [])) ∷ (4, d) ∷ (5, a_file 1 2 2 2 []) ∷ [])

abbrev with_d_a_b : Inodes
with_d_a_b = holding ((2, the_root 3 2 2 (entry 4 (codes "d") 4 ∷ entry 5 (codes "a") 5 ∷ entry 6 (codes "b") 5 ∷ [])) ∷ (4, d) ∷ (5, a_file 2 2 2 2 []) ∷ [])

later_d_made : procedure new_tree (under 4 (at 2)) (make_directory (Some 2) (codes "d") unset) ≡ (holding ((2, the_root 3 2 2 (entry 4 (codes "d") 4 ∷ [])) ∷ (4, d) ∷ []), found 4 (attributes_of 4 d))
later_d_made = simp inode_gets (same (simp inode_entries) refl)

later_a_made : procedure (holding ((2, the_root 3 2 2 (entry 4 (codes "d") 4 ∷ [])) ∷ (4, d) ∷ [])) (under 5 (at 2)) (create (Some 2) (codes "a") unset) ≡ (with_d_a, found 5 (attributes_of 5 (a_file 1 2 2 2 [])))
later_a_made = simp inode_gets (same (simp inode_entries) refl)

b_linked : procedure with_d_a (under 6 (at 2)) (make_link (Some 5) (Some 2) (codes "b")) ≡ (with_d_a_b, done)
unfolding changed
b_linked = simp inode_gets (same (simp inode_entries) refl)

onto_the_same_file : procedure with_d_a_b (under 7 (at 2)) (rename (Some 2) (codes "a") (Some 2) (codes "b")) ≡ (with_d_a_b, done)
onto_the_same_file = simp inode_gets

file_onto_directory : procedure with_d_a_b (under 8 (at 2)) (rename (Some 2) (codes "a") (Some 2) (codes "d")) ≡ (with_d_a_b, refused isdir)
unfolding is_within
file_onto_directory = simp inode_gets

directory_onto_file : procedure with_d_a_b (under 9 (at 2)) (rename (Some 2) (codes "d") (Some 2) (codes "a")) ≡ (with_d_a_b, refused notdir)
unfolding is_within
directory_onto_file = simp inode_gets

above_not_removed : procedure with_d_a_b (under 10 (at 2)) (remove (Some 2) (codes "..")) ≡ (with_d_a_b, refused perm)
above_not_removed = simp inode_gets

above_found : procedure with_d_a_b (under 11 (at 2)) (look_up (Some 2) (codes "..")) ≡ (with_d_a_b, found 2 (attributes_of 2 (the_root 3 2 2 (entry 4 (codes "d") 4 ∷ entry 5 (codes "a") 5 ∷ entry 6 (codes "b") 5 ∷ []))))
above_found = simp inode_gets

names_there_already : execute (record new_file_system { next_ordinal = 4; last_time = at 1 }) (record {
  time = at 2;
  requests =
      names_unset 1 14 2 0x64000000
      ∷ names_unset 2 9 2 0x61000000
      ∷ calls 3 12 (of_file 5 ++ of_file 2 ++ 1 ∷ 0x62000000 ∷ [])
      ∷ renames 4 2 0x61000000 2 0x62000000
      ∷ renames 5 2 0x61000000 2 0x64000000
      ∷ renames 6 2 0x64000000 2 0x61000000
      ∷ calls 7 10 (of_file 2 ++ 2 ∷ 0x2e2e0000 ∷ [])
      ∷ calls 8 4 (of_file 2 ++ 2 ∷ 0x2e2e0000 ∷ [])
      ∷ [];
})
    ≡ (
      record { tree = with_d_a_b; next_ordinal = 12; last_time = at 2 },
      succeeds 1 (0 ∷ of_file 4 ++ told 2 0x41ed 2 65534 65534 64 1 4 2 2 2)
          ∷ succeeds 2 (0 ∷ of_file 5 ++ told 1 0x81a4 1 65534 65534 0 0 5 2 2 2)
          ∷ succeeds 3 (0 ∷ [])
          ∷ succeeds 4 (0 ∷ [])
          ∷ succeeds 5 (21 ∷ [])
          ∷ succeeds 6 (20 ∷ [])
          ∷ succeeds 7 (1 ∷ [])
          ∷ succeeds 8 (0 ∷ of_file 2 ++ told 2 0x41ff 3 0 0 160 1 2 0 2 2)
          ∷ [],
    )
unfolding call_of header_of opaque_auth_at credential_of opaque_at fixed_at bytes_at word_at word handle arguments_of fields_at named_with_settings_at settings_at link_at rename_at named_at handle_at handle_id success results
names_there_already = executed _ _ (next refl refl later_d_made (next refl refl later_a_made (next refl refl b_linked (next refl refl onto_the_same_file (next refl refl file_onto_directory (next refl refl directory_onto_file (next refl refl above_not_removed (next refl refl above_found (ends _ _ _)))))))))
