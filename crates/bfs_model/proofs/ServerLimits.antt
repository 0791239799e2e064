-- Worked examples of limits: the last ordinal, and the longest file.
use Rattle.std.proofs.Common.{◌≡◌, ℕ, zero, suc, ◌+◌, ◌-◌, true, false, nat_lt, List, [], ◌∷◌, ◌++◌, length, take, drop, replicate, Some, refl, ap, ◌∙◌, append_assoc, arith, codes}
use Rattle.std.proofs.lemmas.List.{length-append, length-replicate}
use Rattle.bfs_model.specs.Bytes.Items.{word, word_at, bytes_at, fixed_at, opaque_at, fixed, counted}
use Rattle.bfs_model.specs.Server.Tree.{Inode, Inodes, new_tree, new_file_system}
use Rattle.bfs_model.specs.Bytes.Call.{call_of, header_of, opaque_auth_at, credential_of}
use Rattle.bfs_model.specs.Bytes.Arguments.{create, get_attributes, read, write, handle, handle_id, handle_at, file_at, read_at, write_at, settings_at, named_with_settings_at, fields_at, arguments_of}
use Rattle.bfs_model.specs.Bytes.Replies.{found, attributes, contents, refused, nospc, fbig, results, success}
use Rattle.bfs_model.specs.Bytes.Attributes.{Attributes, attributes_of, blocks_of}
use Rattle.bfs_model.specs.Server.Limits.{most_file_bytes}
use Rattle.bfs_model.specs.Server.FileBytes.{overwritten}
use Rattle.bfs_model.specs.Server.Procedures.{procedure}
use Rattle.bfs_model.specs.Server.Serial.{execute}
use Rattle.bfs_model.proofs.Maps.{inode_gets, inode_entries, same}
use Rattle.bfs_model.proofs.Runs.{under, calls, of_file, names_unset, writes, unset, succeeds, told, at, a_file, the_root, entry, holding, ends, next, executed}

-- The last ordinal ---------------------------------------------------------------------------------------------------------

abbrev with_last : Inodes
with_last = holding ((2, the_root 2 7 7 (entry 4294967295 (codes "a") 4294967295 ∷ [])) ∷ (4294967295, a_file 1 7 7 7 []) ∷ [])

last_made : procedure new_tree (under 4294967295 (at 7)) (create (Some 2) (codes "a") unset) ≡ (with_last, found 4294967295 (attributes_of 4294967295 (a_file 1 7 7 7 [])))
last_made = simp inode_gets (same (simp inode_entries) refl)

none_made : procedure with_last (under 4294967296 (at 7)) (create (Some 2) (codes "b") unset) ≡ (with_last, refused nospc)
none_made = simp inode_gets

root_told : procedure with_last (under 4294967296 (at 7)) (get_attributes (Some 2)) ≡ (with_last, attributes (attributes_of 2 (the_root 2 7 7 (entry 4294967295 (codes "a") 4294967295 ∷ []))))
root_told = simp inode_gets

ordinals_spent : execute (record new_file_system { next_ordinal = 4294967295 }) (record { time = at 7; requests = names_unset 1 9 2 0x61000000 ∷ names_unset 2 9 2 0x62000000 ∷ calls 3 1 (of_file 2) ∷ [] })
    ≡ (
      record { tree = with_last; next_ordinal = 4294967296; last_time = at 7 },
      succeeds 1 (0 ∷ of_file 4294967295 ++ told 1 0x81a4 1 65534 65534 0 0 4294967295 7 7 7) ∷ succeeds 2 (28 ∷ []) ∷ succeeds 3 (0 ∷ told 2 0x41ff 2 0 0 96 1 2 0 7 7) ∷ [],
    )
unfolding call_of header_of opaque_auth_at credential_of opaque_at fixed_at bytes_at word_at word handle arguments_of fields_at named_with_settings_at settings_at file_at handle_at handle_id success results
ordinals_spent = executed _ _ (next refl refl last_made (next refl refl none_made (next refl refl root_told (ends _ _ _))))

-- no call makes a file at a spent ordinal
not_made_at_spent_ordinal : procedure new_tree (under 4294967296 (at 1)) (create (Some 2) (codes "a") unset) ≡ (new_tree, refused nospc)
not_made_at_spent_ordinal = simp inode_gets

-- The longest file -----------------------------------------------------------------------------------------------------------

not_made_so_long : (size : ℕ) → size ≡ most_file_bytes + 1 → procedure new_tree (under 3 (at 1)) (create (Some 2) (codes "a") (record unset { size = Some size })) ≡ (new_tree, refused fbig)
not_made_so_long size is = let past : nat_lt most_file_bytes size ≡ true = rw is refl in simp (inode_gets, past)

-- the place of the last byte of the longest file
abbrev last_place : ℕ
last_place = most_file_bytes - 1

-- so many zeros and an `a`
pub zeros_and_a : ℕ → List ℕ
zeros_and_a n = replicate n 0 ++ 0x61 ∷ []

length-zeros_and_a : (n : ℕ) → length (zeros_and_a n) ≡ n + 1
unfolding zeros_and_a
length-zeros_and_a n = length-append (replicate n 0) (0x61 ∷ []) ∙ ap (λ k. k + 1) (length-replicate n 0)

drop-zeros_and_a : (n : ℕ) → drop n (zeros_and_a (suc n)) ≡ 0 ∷ 0x61 ∷ []
unfolding zeros_and_a
drop-zeros_and_a zero = refl
drop-zeros_and_a (suc n) = drop-zeros_and_a n

take_all : (n : ℕ) → take {A = ℕ} n (replicate n 0) ≡ replicate n 0
take_all zero = refl
take_all (suc n) = ap (λ bytes. 0 ∷ bytes) (take_all n)

drop_of_none : (n : ℕ) → drop {A = ℕ} n [] ≡ []
drop_of_none zero = refl
drop_of_none (suc n) = refl

a_written_at : (n : ℕ) → overwritten n (codes "a") [] ≡ zeros_and_a n
unfolding zeros_and_a
a_written_at n = let whole : n - 0 ≡ n = omega arith in simp (whole, take_all, drop_of_none, append_assoc)

abbrev with_a : Inode → Inodes
with_a inode = holding ((2, the_root 2 1 1 (entry 3 (codes "a") 3 ∷ [])) ∷ (3, inode) ∷ [])

a_made : procedure new_tree (under 3 (at 1)) (create (Some 2) (codes "a") unset) ≡ (with_a (a_file 1 1 1 1 []), found 3 (attributes_of 3 (a_file 1 1 1 1 [])))
a_made = simp inode_gets (same (simp inode_entries) refl)

too_long : (offset : ℕ) → offset ≡ last_place → procedure (with_a (a_file 1 1 1 1 [])) (under 4 (at 2)) (write (Some 3) offset (codes "aa")) ≡ (with_a (a_file 1 1 1 1 []), refused fbig)
too_long offset is = let past : nat_lt most_file_bytes (offset + 2) ≡ true = rw is refl in simp (inode_gets, past)

-- the attributes of the longest file
abbrev of_longest : Attributes
of_longest = record (attributes_of 3 (a_file 1 1 2 2 [])) { size = most_file_bytes }

longest_told : (n : ℕ) → n ≡ last_place → attributes_of 3 (a_file 1 1 2 2 (zeros_and_a n)) ≡ of_longest
longest_told n is = rw (length-zeros_and_a n, is) refl

long_enough : (offset : ℕ) → offset ≡ last_place → procedure (with_a (a_file 1 1 1 1 [])) (under 5 (at 2)) (write (Some 3) offset (codes "a")) ≡ (with_a (a_file 1 1 2 2 (zeros_and_a offset)), attributes of_longest)
long_enough offset is =
    let fits : nat_lt most_file_bytes (offset + 1) ≡ false = rw is refl in
    simp (inode_gets, fits, a_written_at) (same (simp inode_entries) (ap attributes (longest_told offset is)))

end_read : (n : ℕ) → suc n ≡ last_place → procedure (with_a (a_file 1 1 2 2 (zeros_and_a (suc n)))) (under 6 (at 2)) (read (Some 3) n 8) ≡ (with_a (a_file 1 1 2 2 (zeros_and_a (suc n))), contents of_longest (0 ∷ 0x61 ∷ []))
end_read n is = simp (inode_gets, drop-zeros_and_a, longest_told (suc n) is)

file_of_the_limit : execute (record { tree = with_a (a_file 1 1 1 1 []); next_ordinal = 4; last_time = at 1 }) (record { time = at 2; requests = writes 1 3 last_place 2 0x61610000 ∷ writes 2 3 last_place 1 0x61000000 ∷ calls 3 6 (of_file 3 ++ (last_place - 1) ∷ 8 ∷ 0 ∷ []) ∷ [] })
    ≡ (
      record { tree = with_a (a_file 1 1 2 2 (zeros_and_a last_place)); next_ordinal = 7; last_time = at 2 },
      succeeds 1 (27 ∷ [])
          ∷ succeeds 2 (0 ∷ told 1 0x81a4 1 65534 65534 most_file_bytes (blocks_of most_file_bytes) 3 1 2 2)
          ∷ succeeds 3 (0 ∷ told 1 0x81a4 1 65534 65534 most_file_bytes (blocks_of most_file_bytes) 3 1 2 2 ++ 2 ∷ 0x00610000 ∷ [])
          ∷ [],
    )
unfolding call_of header_of opaque_auth_at credential_of opaque_at fixed_at bytes_at word_at word handle arguments_of fields_at write_at read_at handle_at handle_id success results fixed counted
file_of_the_limit = executed _ _ (next refl refl (too_long last_place refl) (next refl refl (long_enough last_place refl) (next refl refl (end_read (last_place - 1) refl) (ends _ _ _))))
