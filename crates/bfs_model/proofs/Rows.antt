-- Worked examples of the definitions, each with values from outside.
use Rattle.std.proofs.Common.{◌≡◌, ℕ, List, [], ◌∷◌, ◌++◌, take, Ok, Err, Some, true, false, refl, ap}
use Rattle.std.specs.Cmp.{nat_cmp_total}
use Rattle.std.specs.FinMap.{get, empty, get-insert}
use Rattle.bfs_model.specs.Bytes.Items.{short, too_long, bad_boolean, bad_padding, word_at, boolean_at, bytes_at, fixed_at, opaque_at, word, words}
use Rattle.bfs_model.specs.Server.Tree.{Time, Inodes, FileSystem, root_id, new_root, new_tree, new_file_system}
use Rattle.bfs_model.specs.Bytes.Attributes.{attributes_of}
use Rattle.bfs_model.specs.Bytes.Call.{call_of, header_of, opaque_auth_at, credential_of, nobody}
use Rattle.bfs_model.specs.Bytes.Arguments.{handle, handle_id, handle_at, file_at, fields_at, arguments_of}
use Rattle.bfs_model.specs.Bytes.Replies.{attributes, results, success, garbage, refusal}
use Rattle.bfs_model.specs.Server.Procedures.{procedure}
use Rattle.bfs_model.specs.Server.Procedures.Attributes.{attributes_got}
use Rattle.bfs_model.specs.Server.Context.{Context}
use Rattle.bfs_model.specs.Server.Serial.{answer, execute}

-- Items ---------------------------------------------------------------------------------------------------------

word_of_three_bytes : word_at (0 ∷ 0 ∷ 0 ∷ []) ≡ Err short
unfolding word_at
word_of_three_bytes = refl

boolean_of_two : boolean_at (0 ∷ 0 ∷ 0 ∷ 2 ∷ []) ≡ Err bad_boolean
unfolding boolean_at word_at
boolean_of_two = refl

opaque_of_two_bytes_where_one_is_most : opaque_at false 1 (0 ∷ 0 ∷ 0 ∷ 2 ∷ 0x61 ∷ 0x62 ∷ 0 ∷ 0 ∷ []) ≡ Err too_long
unfolding opaque_at word_at
opaque_of_two_bytes_where_one_is_most = refl

opaque_with_padding_that_is_no_zeros : opaque_at false 1 (0 ∷ 0 ∷ 0 ∷ 1 ∷ 0x61 ∷ 0 ∷ 0 ∷ 1 ∷ []) ≡ Ok (0x61 ∷ [], [])
unfolding opaque_at fixed_at bytes_at word_at
opaque_with_padding_that_is_no_zeros = refl

strictly_read_opaque_with_such_padding : opaque_at true 1 (0 ∷ 0 ∷ 0 ∷ 1 ∷ 0x61 ∷ 0 ∷ 0 ∷ 1 ∷ []) ≡ Err bad_padding
unfolding opaque_at fixed_at bytes_at word_at
strictly_read_opaque_with_such_padding = refl

-- GETATTR of the root ---------------------------------------------------------------------------------------------

-- the words after the xid and the type, from the RPC version to the file handle of the root
abbrev pub root_asked : List ℕ
root_asked = words (2 ∷ 100003 ∷ 2 ∷ 1 ∷ 0 ∷ 0 ∷ 0 ∷ 0 ∷ 0x42465332 ∷ 1 ∷ 2 ∷ 0 ∷ 0 ∷ 0 ∷ 0 ∷ 0 ∷ [])

abbrev pub root_request : List ℕ
root_request = words (1 ∷ 0 ∷ []) ++ root_asked

abbrev pub root_reply : List ℕ
root_reply = words (1 ∷ 1 ∷ 0 ∷ 0 ∷ 0 ∷ 0 ∷ 0 ∷ 2 ∷ 0x41ff ∷ 2 ∷ 0 ∷ 0 ∷ 0x40 ∷ 0x1000 ∷ 0 ∷ 1 ∷ 1 ∷ 2 ∷ 0 ∷ 0 ∷ 0 ∷ 0 ∷ 0 ∷ 0 ∷ [])

root_found : get new_tree root_id ≡ Some new_root
root_found = get-insert nat_cmp_total empty root_id new_root root_id

root_spelled : call_of root_request ≡ Ok (record { xid = 1; procedure = 1; credential = nobody; arguments = handle 2 })
unfolding call_of header_of opaque_auth_at credential_of opaque_at fixed_at bytes_at word_at word handle
root_spelled = refl

root_attributes_got : (context : Context) → attributes_got new_tree context (Some 2) ≡ Ok (new_tree, attributes (attributes_of 2 new_root))
root_attributes_got context = rw root_found refl

root_answered : (ordinal : ℕ) (time : Time) → answer new_tree ordinal time root_request ≡ (new_tree, root_reply)
unfolding answer call_of header_of opaque_auth_at credential_of opaque_at fixed_at bytes_at word_at word handle arguments_of fields_at file_at handle_at handle_id success results
root_answered ordinal time = rw root_found refl

-- a batch with this request alone, at a second, on a new file system
root_executed : execute new_file_system (record { time = record { seconds = 1; useconds = 0 }; requests = root_request ∷ [] }) ≡ (record new_file_system { next_ordinal = 4; last_time = record { seconds = 1; useconds = 0 } }, root_reply ∷ [])
unfolding execute
root_executed = ap (λ (done : Inodes × List ℕ). (record new_file_system { tree = done.0; next_ordinal = 4; last_time = record { seconds = 1; useconds = 0 } }, done.1 ∷ [])) (root_answered 3 (record { seconds = 1; useconds = 0 }))

-- What gets no reply: no bytes, a call that is cut, a message that is no call -----------------------------------------

abbrev pub silent_requests : List (List ℕ)
silent_requests = [] ∷ take 3 root_request ∷ take 39 root_request ∷ (words (1 ∷ 1 ∷ []) ++ root_asked) ∷ []

silently_executed : execute new_file_system (record { time = record { seconds = 1; useconds = 0 }; requests = silent_requests }) ≡ (record new_file_system { next_ordinal = 7; last_time = record { seconds = 1; useconds = 0 } }, [] ∷ [] ∷ [] ∷ [] ∷ [])
unfolding execute answer call_of header_of opaque_auth_at opaque_at fixed_at bytes_at word_at word refusal
silently_executed = refl

-- An empty batch proposed before the last time moves the time alone ----------------------------------------------------

empty_batch_executed : (files : FileSystem) → files.last_time ≡ record { seconds = 5; useconds = 0 } → files.next_ordinal ≡ 3
    → execute files (record { time = record { seconds = 3; useconds = 0 }; requests = [] }) ≡ (record files { last_time = record { seconds = 5; useconds = 1 } }, [])
unfolding execute
empty_batch_executed files at_five at_first = rw (at_five, at_first) refl

-- Refusals, in their order ---------------------------------------------------------------------------------------------

-- GETATTR of the root with xid 9, of these words and with bytes after the handle
abbrev pub asked : (rpc_version program program_version procedure flavor : ℕ) (after : List ℕ) → List ℕ
asked rpc_version program program_version procedure flavor after = words (9 ∷ 0 ∷ rpc_version ∷ program ∷ program_version ∷ procedure ∷ flavor ∷ 0 ∷ 0 ∷ 0 ∷ 0x42465332 ∷ 1 ∷ 2 ∷ 0 ∷ 0 ∷ 0 ∷ 0 ∷ 0 ∷ []) ++ after

third_rpc_version : (m : Inodes) (o : ℕ) (t : Time) → answer m o t (asked 3 100003 2 1 0 []) ≡ (m, words (9 ∷ 1 ∷ 1 ∷ 0 ∷ 2 ∷ 2 ∷ []))
unfolding answer call_of header_of opaque_auth_at credential_of opaque_at fixed_at bytes_at word_at word refusal
third_rpc_version m o t = refl

sixth_flavor : (m : Inodes) (o : ℕ) (t : Time) → answer m o t (asked 2 100003 2 1 6 []) ≡ (m, words (9 ∷ 1 ∷ 1 ∷ 1 ∷ 1 ∷ []))
unfolding answer call_of header_of opaque_auth_at credential_of opaque_at fixed_at bytes_at word_at word refusal
sixth_flavor m o t = refl

other_program : (m : Inodes) (o : ℕ) (t : Time) → answer m o t (asked 2 100004 2 1 0 []) ≡ (m, words (9 ∷ 1 ∷ 0 ∷ 0 ∷ 0 ∷ 1 ∷ []))
unfolding answer call_of header_of opaque_auth_at credential_of opaque_at fixed_at bytes_at word_at word refusal
other_program m o t = refl

third_version : (m : Inodes) (o : ℕ) (t : Time) → answer m o t (asked 2 100003 3 1 0 []) ≡ (m, words (9 ∷ 1 ∷ 0 ∷ 0 ∷ 0 ∷ 2 ∷ 2 ∷ 2 ∷ []))
unfolding answer call_of header_of opaque_auth_at credential_of opaque_at fixed_at bytes_at word_at word refusal
third_version m o t = refl

eighteenth_procedure : (m : Inodes) (o : ℕ) (t : Time) → answer m o t (asked 2 100003 2 18 0 []) ≡ (m, words (9 ∷ 1 ∷ 0 ∷ 0 ∷ 0 ∷ 3 ∷ []))
unfolding answer call_of header_of opaque_auth_at credential_of opaque_at fixed_at bytes_at word_at word refusal
eighteenth_procedure m o t = refl

byte_after_the_handle : (m : Inodes) (o : ℕ) (t : Time) → answer m o t (asked 2 100003 2 1 0 (0 ∷ [])) ≡ (m, words (9 ∷ 1 ∷ 0 ∷ 0 ∷ 0 ∷ 4 ∷ []))
unfolding answer call_of header_of opaque_auth_at credential_of opaque_at fixed_at bytes_at word_at word arguments_of fields_at file_at handle_at handle_id handle garbage
byte_after_the_handle m o t = refl

all_six_at_once : (m : Inodes) (o : ℕ) (t : Time) → answer m o t (asked 3 100004 3 18 6 (0 ∷ [])) ≡ (m, words (9 ∷ 1 ∷ 1 ∷ 0 ∷ 2 ∷ 2 ∷ []))
unfolding answer call_of header_of opaque_auth_at credential_of opaque_at fixed_at bytes_at word_at word refusal
all_six_at_once m o t = refl
