-- Worked examples of names: hard links, symbolic links, listings, and the names that directories have of themselves.
use Rattle.std.proofs.Common.{◌≡◌, [], ◌∷◌, ◌++◌, Some, refl, codes}
use Rattle.bfs_model.specs.Bytes.Items.{word, word_at, bytes_at, fixed_at, opaque_at, fixed, counted}
use Rattle.bfs_model.specs.Server.Tree.{Inodes, link, new_tree, new_file_system}
use Rattle.bfs_model.specs.Bytes.Call.{call_of, header_of, opaque_auth_at, credential_of}
use Rattle.bfs_model.specs.Bytes.Arguments.{create, get_attributes, set_attributes, remove, read_link, make_link, make_symbolic_link, make_directory, remove_directory, handle, handle_id, handle_at, file_at, named_at, set_attributes_at, link_at, symbolic_link_at, settings_at, named_with_settings_at, fields_at, arguments_of}
use Rattle.bfs_model.specs.Bytes.Replies.{found, done, path, refused, stale, perm, notdir, results, success}
use Rattle.bfs_model.specs.Bytes.Attributes.{attributes_of}
use Rattle.bfs_model.specs.Server.Changes.{changed, link_lost}
use Rattle.bfs_model.specs.Server.Procedures.{procedure}
use Rattle.bfs_model.specs.Server.Serial.{execute}
use Rattle.bfs_model.proofs.Maps.{inode_gets, inode_entries, same}
use Rattle.bfs_model.proofs.Runs.{under, calls, of_file, names, names_unset, unset_words, unset, succeeds, told, at, a_file, a_directory, the_root, entry, holding, ends, next, executed}

-- A file goes with its last link -----------------------------------------------------------------------------------------

abbrev linked : Inodes
linked = holding ((2, the_root 3 1 1 (entry 3 (codes "d") 3 ∷ entry 4 (codes "a") 4 ∷ [])) ∷ (3, a_directory 2 1 1 1 2 (entry 5 (codes "b") 4 ∷ [])) ∷ (4, a_file 2 1 1 1 []) ∷ [])

abbrev named_b_alone : Inodes
named_b_alone = holding ((2, the_root 3 2 2 (entry 3 (codes "d") 3 ∷ [])) ∷ (3, a_directory 2 1 1 1 2 (entry 5 (codes "b") 4 ∷ [])) ∷ (4, a_file 1 1 1 2 []) ∷ [])

abbrev unnamed : Inodes
unnamed = holding ((2, the_root 3 2 2 (entry 3 (codes "d") 3 ∷ [])) ∷ (3, a_directory 2 1 2 2 2 []) ∷ [])

d_made : procedure new_tree (under 3 (at 1)) (make_directory (Some 2) (codes "d") unset)
    ≡ (holding ((2, the_root 3 1 1 (entry 3 (codes "d") 3 ∷ [])) ∷ (3, a_directory 2 1 1 1 2 []) ∷ []), found 3 (attributes_of 3 (a_directory 2 1 1 1 2 [])))
d_made = simp inode_gets (same (simp inode_entries) refl)

a_made : procedure (holding ((2, the_root 3 1 1 (entry 3 (codes "d") 3 ∷ [])) ∷ (3, a_directory 2 1 1 1 2 []) ∷ [])) (under 4 (at 1)) (create (Some 2) (codes "a") unset)
    ≡ (holding ((2, the_root 3 1 1 (entry 3 (codes "d") 3 ∷ entry 4 (codes "a") 4 ∷ [])) ∷ (3, a_directory 2 1 1 1 2 []) ∷ (4, a_file 1 1 1 1 []) ∷ []), found 4 (attributes_of 4 (a_file 1 1 1 1 [])))
a_made = simp inode_gets (same (simp inode_entries) refl)

b_linked : procedure (holding ((2, the_root 3 1 1 (entry 3 (codes "d") 3 ∷ entry 4 (codes "a") 4 ∷ [])) ∷ (3, a_directory 2 1 1 1 2 []) ∷ (4, a_file 1 1 1 1 []) ∷ [])) (under 5 (at 1)) (make_link (Some 4) (Some 3) (codes "b"))
    ≡ (linked, done)
unfolding changed
b_linked = simp inode_gets (same (simp inode_entries) refl)

made_and_linked : execute new_file_system (record { time = at 1; requests = names_unset 1 14 2 0x64000000 ∷ names_unset 2 9 2 0x61000000 ∷ calls 3 12 (of_file 4 ++ of_file 3 ++ 1 ∷ 0x62000000 ∷ []) ∷ [] })
    ≡ (
      record { tree = linked; next_ordinal = 6; last_time = at 1 },
      succeeds 1 (0 ∷ of_file 3 ++ told 2 0x41ed 2 65534 65534 64 1 3 1 1 1) ∷ succeeds 2 (0 ∷ of_file 4 ++ told 1 0x81a4 1 65534 65534 0 0 4 1 1 1) ∷ succeeds 3 (0 ∷ []) ∷ [],
    )
unfolding call_of header_of opaque_auth_at credential_of opaque_at fixed_at bytes_at word_at word handle arguments_of fields_at named_with_settings_at settings_at link_at handle_at handle_id success results
made_and_linked = executed new_file_system _ (next refl refl d_made (next refl refl a_made (next refl refl b_linked (ends _ _ _))))

a_removed : procedure linked (under 6 (at 2)) (remove (Some 2) (codes "a")) ≡ (named_b_alone, done)
unfolding link_lost
a_removed = simp inode_gets (same (simp inode_entries) refl)

b_removed : procedure named_b_alone (under 7 (at 2)) (remove (Some 3) (codes "b")) ≡ (unnamed, done)
unfolding link_lost
b_removed = simp inode_gets (same (simp inode_entries) refl)

gone : procedure unnamed (under 8 (at 2)) (get_attributes (Some 4)) ≡ (unnamed, refused stale)
gone = simp inode_gets

unlinked_and_gone : execute (record { tree = linked; next_ordinal = 6; last_time = at 1 }) (record { time = at 2; requests = names 1 10 2 0x61000000 ∷ names 2 10 3 0x62000000 ∷ calls 3 1 (of_file 4) ∷ [] })
    ≡ (record { tree = unnamed; next_ordinal = 9; last_time = at 2 }, succeeds 1 (0 ∷ []) ∷ succeeds 2 (0 ∷ []) ∷ succeeds 3 (70 ∷ []) ∷ [])
unfolding call_of header_of opaque_auth_at credential_of opaque_at fixed_at bytes_at word_at word handle arguments_of fields_at named_at file_at handle_at handle_id success results
unlinked_and_gone = executed _ _ (next refl refl a_removed (next refl refl b_removed (next refl refl gone (ends _ _ _))))

-- A symbolic link ----------------------------------------------------------------------------------------------------------

abbrev with_l : Inodes
with_l = holding ((2, the_root 2 1 1 (entry 3 (codes "l") 3 ∷ [])) ∷ (3, record { permissions = 0o777; links = 1; uid = 65534; gid = 65534; atime = at 1; mtime = at 1; ctime = at 1; body = link (codes "a/b") }) ∷ [])

l_made : procedure new_tree (under 3 (at 1)) (make_symbolic_link (Some 2) (codes "l") (codes "a/b") unset) ≡ (with_l, done)
l_made = simp inode_gets (same (simp inode_entries) refl)

l_read : procedure with_l (under 4 (at 1)) (read_link (Some 3)) ≡ (with_l, path (codes "a/b"))
l_read = simp inode_gets

l_not_cut : procedure with_l (under 5 (at 1)) (set_attributes (Some 3) (record unset { size = Some 0 })) ≡ (with_l, refused perm)
l_not_cut = simp inode_gets

l_no_directory : procedure with_l (under 6 (at 1)) (remove_directory (Some 2) (codes "l")) ≡ (with_l, refused notdir)
l_no_directory = simp inode_gets

symbolically_linked : execute new_file_system (record {
  time = at 1;
  requests =
      calls 1 13 (of_file 2 ++ (1 ∷ 0x6c000000 ∷ 3 ∷ 0x612f6200 ∷ []) ++ unset_words)
      ∷ calls 2 5 (of_file 3)
      ∷ calls 3 2 (of_file 3 ++ 0xffffffff ∷ 0xffffffff ∷ 0xffffffff ∷ 0 ∷ 0xffffffff ∷ 0xffffffff ∷ 0xffffffff ∷ 0xffffffff ∷ [])
      ∷ names 4 15 2 0x6c000000
      ∷ [];
})
    ≡ (record { tree = with_l; next_ordinal = 7; last_time = at 1 }, succeeds 1 (0 ∷ []) ∷ succeeds 2 (0 ∷ 3 ∷ 0x612f6200 ∷ []) ∷ succeeds 3 (1 ∷ []) ∷ succeeds 4 (20 ∷ []) ∷ [])
unfolding call_of header_of opaque_auth_at credential_of opaque_at fixed_at bytes_at word_at word handle arguments_of fields_at symbolic_link_at set_attributes_at settings_at file_at named_at handle_at handle_id success results fixed counted
symbolically_linked = executed new_file_system _ (next refl refl l_made (next refl refl l_read (next refl refl l_not_cut (next refl refl l_no_directory (ends _ _ _)))))
