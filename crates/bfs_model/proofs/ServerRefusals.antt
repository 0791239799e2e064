-- Worked examples of refusals, and of a new name in the same directory.
use Rattle.std.proofs.Common.{◌≡◌, [], ◌∷◌, ◌++◌, Some, refl, codes}
use Rattle.bfs_model.specs.Bytes.Items.{word, word_at, bytes_at, fixed_at, opaque_at}
use Rattle.bfs_model.specs.Server.Tree.{Inodes}
use Rattle.bfs_model.specs.Bytes.Call.{call_of, header_of, opaque_auth_at, credential_of}
use Rattle.bfs_model.specs.Bytes.Arguments.{create, look_up, read, read_link, rename, handle, handle_id, handle_at, file_at, named_at, read_at, rename_at, settings_at, named_with_settings_at, fields_at, arguments_of}
use Rattle.bfs_model.specs.Bytes.Replies.{found, done, refused, exist, notdir, isdir, noent, perm, results, success}
use Rattle.bfs_model.specs.Bytes.Attributes.{attributes_of}
use Rattle.bfs_model.specs.Server.Changes.{changed}
use Rattle.bfs_model.specs.Server.Procedures.{procedure}
use Rattle.bfs_model.specs.Server.Procedures.Renaming.{is_within}
use Rattle.bfs_model.specs.Server.Serial.{execute}
use Rattle.bfs_model.proofs.Maps.{inode_gets, inode_entries, same}
use Rattle.bfs_model.proofs.Runs.{under, calls, of_file, names, names_unset, renames, unset, succeeds, told, at, a_file, a_directory, the_root, entry, holding, ends, next, executed}

-- a file `a`, and a directory `d` that holds an empty directory `e`
abbrev before : Inodes
before = holding ((2, the_root 3 1 1 (entry 3 (codes "a") 3 ∷ entry 4 (codes "d") 4 ∷ [])) ∷ (3, a_file 1 1 1 1 []) ∷ (4, a_directory 3 1 1 1 2 (entry 5 (codes "e") 5 ∷ [])) ∷ (5, a_directory 2 1 1 1 4 []) ∷ [])

there_already : procedure before (under 6 (at 2)) (create (Some 2) (codes "a") unset) ≡ (before, refused exist)
there_already = simp inode_gets

no_directory : procedure before (under 7 (at 2)) (create (Some 3) (codes "b") unset) ≡ (before, refused notdir)
no_directory = simp inode_gets

no_file : procedure before (under 8 (at 2)) (read (Some 4) 0 8) ≡ (before, refused isdir)
no_file = simp inode_gets

no_link : procedure before (under 9 (at 2)) (read_link (Some 3)) ≡ (before, refused perm)
no_link = simp inode_gets

no_such_name : procedure before (under 10 (at 2)) (look_up (Some 2) (codes "b")) ≡ (before, refused noent)
no_such_name = simp inode_gets

directory_itself : procedure before (under 11 (at 2)) (look_up (Some 4) (codes ".")) ≡ (before, found 4 (attributes_of 4 (a_directory 3 1 1 1 2 (entry 5 (codes "e") 5 ∷ []))))
directory_itself = simp inode_gets

-- a directory beside an empty one, whose place it takes
abbrev beside : Inodes
beside = holding ((2, the_root 4 1 1 (entry 3 (codes "d") 3 ∷ entry 4 (codes "e") 4 ∷ [])) ∷ (3, a_directory 2 1 1 1 2 []) ∷ (4, a_directory 2 1 1 1 2 []) ∷ [])

directory_replaced : procedure beside (under 6 (at 2)) (rename (Some 2) (codes "d") (Some 2) (codes "e"))
    ≡ (holding ((2, the_root 3 2 2 (entry 6 (codes "e") 3 ∷ [])) ∷ (3, a_directory 2 1 1 2 2 []) ∷ []), done)
unfolding is_within changed
directory_replaced = simp inode_gets (same (simp inode_entries) refl)

-- `a` is renamed to `b`, beside it
abbrev renamed : Inodes
renamed = holding ((2, the_root 3 2 2 (entry 4 (codes "d") 4 ∷ entry 12 (codes "b") 3 ∷ [])) ∷ (3, a_file 1 1 1 2 []) ∷ (4, a_directory 3 1 1 1 2 (entry 5 (codes "e") 5 ∷ [])) ∷ (5, a_directory 2 1 1 1 4 []) ∷ [])

a_renamed : procedure before (under 12 (at 2)) (rename (Some 2) (codes "a") (Some 2) (codes "b")) ≡ (renamed, done)
unfolding is_within changed
a_renamed = simp inode_gets (same (simp inode_entries) refl)

refused_and_renamed : execute (record { tree = before; next_ordinal = 6; last_time = at 1 }) (record {
  time = at 2;
  requests =
      names_unset 1 9 2 0x61000000 ∷ names_unset 2 9 3 0x62000000 ∷ calls 3 6 (of_file 4 ++ 0 ∷ 8 ∷ 0 ∷ []) ∷ calls 4 5 (of_file 3) ∷ names 5 4 2 0x62000000 ∷ names 6 4 4 0x2e000000 ∷ renames 7 2 0x61000000 2 0x62000000 ∷ [];
})
    ≡ (
      record { tree = renamed; next_ordinal = 13; last_time = at 2 },
      succeeds 1 (17 ∷ []) ∷ succeeds 2 (20 ∷ []) ∷ succeeds 3 (21 ∷ []) ∷ succeeds 4 (1 ∷ []) ∷ succeeds 5 (2 ∷ []) ∷ succeeds 6 (0 ∷ of_file 4 ++ told 2 0x41ed 3 65534 65534 96 1 4 1 1 1) ∷ succeeds 7 (0 ∷ []) ∷ [],
    )
unfolding call_of header_of opaque_auth_at credential_of opaque_at fixed_at bytes_at word_at word handle arguments_of fields_at named_with_settings_at settings_at read_at file_at rename_at named_at handle_at handle_id success results
refused_and_renamed = executed _ _ (next refl refl there_already (next refl refl no_directory (next refl refl no_file (next refl refl no_link (next refl refl no_such_name (next refl refl directory_itself (next refl refl a_renamed (ends _ _ _))))))))
