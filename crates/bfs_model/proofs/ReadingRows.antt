-- Worked examples of reading replies, each with values from outside.
use Rattle.std.proofs.Common.{◌≡◌, [], ◌∷◌, drop, Ok, Err, true, refl, codes}
use Rattle.bfs_model.specs.Bytes.Items.{short, bad_boolean, bad_padding, too_long, word_at, boolean_at, bytes_at, fixed_at, opaque_at, word, words}
use Rattle.bfs_model.specs.Server.Tree.{epoch}
use Rattle.bfs_model.specs.Bytes.Attributes.{Attributes, directory_type}
use Rattle.bfs_model.specs.Bytes.Arguments.{handle, handle_id}
use Rattle.bfs_model.specs.Bytes.Replies.{noent, void, refused, attributes, found, path, listed, free_blocks}
use Rattle.bfs_model.specs.Bytes.ReplyReading.{misspelled, unknown, left_over, after_number, at_end, succeeded, program_versions, rpc_versions, refused_credential, after_no_verifier, versions_of, accepted_of, bad_credential_of, denied_of, reply_body_of, reply_of, handle_told_at, time_told_at, attributes_told_at, by_status, attributes_arm, found_arm, path_arm, entry_told_at, chain_at, listed_arm, blocks_arm, results_of}
use Rattle.bfs_model.proofs.Rows.{root_reply}

-- Messages -----------------------------------------------------------------------------------------------------------

root_message : reply_of root_reply ≡ Ok (1, succeeded (drop 24 root_reply))
unfolding reply_of reply_body_of accepted_of after_no_verifier after_number opaque_at fixed_at bytes_at word_at word
root_message = refl

third_rpc_version : reply_of (words (9 ∷ 1 ∷ 1 ∷ 0 ∷ 2 ∷ 2 ∷ [])) ≡ Ok (9, rpc_versions 2 2)
unfolding reply_of reply_body_of denied_of versions_of after_number at_end word_at word
third_rpc_version = refl

other_credential : reply_of (words (9 ∷ 1 ∷ 1 ∷ 1 ∷ 1 ∷ [])) ≡ Ok (9, refused_credential)
unfolding reply_of reply_body_of denied_of bad_credential_of after_number at_end word_at word
other_credential = refl

other_version : reply_of (words (9 ∷ 1 ∷ 0 ∷ 0 ∷ 0 ∷ 2 ∷ 2 ∷ 2 ∷ [])) ≡ Ok (9, program_versions 2 2)
unfolding reply_of reply_body_of accepted_of after_no_verifier versions_of after_number at_end opaque_at fixed_at bytes_at word_at word
other_version = refl

-- a call is no reply, and neither is a message that says too little, too much, or what RFC 5531 does not know
call : reply_of (words (9 ∷ 0 ∷ 2 ∷ 100003 ∷ 2 ∷ 0 ∷ 0 ∷ 0 ∷ 0 ∷ 0 ∷ [])) ≡ Err unknown
unfolding reply_of after_number word_at word
call = refl

cut_message : reply_of (words (9 ∷ 1 ∷ 0 ∷ 0 ∷ 0 ∷ [])) ≡ Err (misspelled short)
unfolding reply_of reply_body_of accepted_of after_no_verifier after_number opaque_at fixed_at bytes_at word_at word
cut_message = refl

message_with_more : reply_of (words (9 ∷ 1 ∷ 0 ∷ 0 ∷ 0 ∷ 1 ∷ 0 ∷ [])) ≡ Err left_over
unfolding reply_of reply_body_of accepted_of after_no_verifier after_number at_end opaque_at fixed_at bytes_at word_at word
message_with_more = refl

message_of_no_kind : reply_of (words (9 ∷ 1 ∷ 0 ∷ 0 ∷ 0 ∷ 6 ∷ [])) ≡ Err unknown
unfolding reply_of reply_body_of accepted_of after_no_verifier after_number opaque_at fixed_at bytes_at word_at word
message_of_no_kind = refl

message_with_verifier : reply_of (words (9 ∷ 1 ∷ 0 ∷ 0 ∷ 4 ∷ 7 ∷ 0 ∷ [])) ≡ Err unknown
unfolding reply_of reply_body_of accepted_of after_no_verifier after_number opaque_at fixed_at bytes_at word_at word
message_with_verifier = refl

-- Results ------------------------------------------------------------------------------------------------------------

abbrev root_attributes : Attributes
root_attributes = record { file_type = directory_type; permissions = 0o777; links = 2; uid = 0; gid = 0; size = 64; fileid = 2; atime = epoch; mtime = epoch; ctime = epoch }

root_results : results_of 1 (drop 24 root_reply) ≡ Ok (attributes root_attributes)
unfolding results_of by_status attributes_arm attributes_told_at time_told_at after_number at_end word_at word
root_results = refl

nothing_of_null : results_of 0 [] ≡ Ok void
unfolding results_of at_end
nothing_of_null = refl

something_of_null : results_of 0 (0 ∷ []) ≡ Err left_over
unfolding results_of at_end
something_of_null = refl

no_entry : results_of 10 (words (2 ∷ [])) ≡ Ok (refused noent)
unfolding results_of by_status at_end word_at word
no_entry = refl

status_of_no_name : results_of 10 (words (3 ∷ [])) ≡ Err unknown
unfolding results_of by_status at_end word_at word
status_of_no_name = refl

eighteenth_procedure : results_of 18 (words (0 ∷ [])) ≡ Err unknown
unfolding results_of
eighteenth_procedure = refl

-- a file of a directory's mode
other_type : results_of 1 (words (0 ∷ 1 ∷ 0x41ed ∷ 2 ∷ 0 ∷ 0 ∷ 64 ∷ 4096 ∷ 0 ∷ 1 ∷ 1 ∷ 2 ∷ 0 ∷ 0 ∷ 0 ∷ 0 ∷ 0 ∷ 0 ∷ [])) ≡ Err unknown
unfolding results_of by_status attributes_arm attributes_told_at time_told_at after_number at_end word_at word
other_type = refl

-- 64 bytes in two blocks
other_blocks : results_of 1 (words (0 ∷ 2 ∷ 0x41ed ∷ 2 ∷ 0 ∷ 0 ∷ 64 ∷ 4096 ∷ 0 ∷ 2 ∷ 1 ∷ 2 ∷ 0 ∷ 0 ∷ 0 ∷ 0 ∷ 0 ∷ 0 ∷ [])) ≡ Err unknown
unfolding results_of by_status attributes_arm attributes_told_at time_told_at after_number at_end word_at word
other_blocks = refl

root_found : results_of 4 (words (0 ∷ 0x42465332 ∷ 1 ∷ 2 ∷ 0 ∷ 0 ∷ 0 ∷ 0 ∷ 0 ∷ 2 ∷ 0x41ff ∷ 2 ∷ 0 ∷ 0 ∷ 64 ∷ 4096 ∷ 0 ∷ 1 ∷ 1 ∷ 2 ∷ 0 ∷ 0 ∷ 0 ∷ 0 ∷ 0 ∷ 0 ∷ [])) ≡ Ok (found 2 root_attributes)
unfolding results_of by_status found_arm handle_told_at handle_id handle attributes_told_at time_told_at after_number at_end fixed_at bytes_at word_at word
root_found = refl

path_told : results_of 5 (words (0 ∷ 2 ∷ 0x2e2e0000 ∷ [])) ≡ Ok (path (codes ".."))
unfolding results_of by_status path_arm at_end opaque_at fixed_at bytes_at word_at word
path_told = refl

path_with_padding_that_is_no_zeros : results_of 5 (words (0 ∷ 2 ∷ 0x2e2e0001 ∷ [])) ≡ Err (misspelled bad_padding)
unfolding results_of by_status path_arm at_end opaque_at fixed_at bytes_at word_at word
path_with_padding_that_is_no_zeros = refl

path_too_long : results_of 5 (words (0 ∷ 1025 ∷ [])) ≡ Err (misspelled too_long)
unfolding results_of by_status path_arm at_end opaque_at fixed_at bytes_at word_at word
path_too_long = refl

page_told : results_of 16 (words (0 ∷ 1 ∷ 2 ∷ 1 ∷ 0x2e000000 ∷ 1 ∷ 1 ∷ 2 ∷ 2 ∷ 0x2e2e0000 ∷ 2 ∷ 0 ∷ 1 ∷ []))
    ≡ Ok (listed (record { cookie = 1; name = codes "."; child = 2 } ∷ record { cookie = 2; name = codes ".."; child = 2 } ∷ []) true)
unfolding results_of by_status listed_arm chain_at entry_told_at at_end boolean_at opaque_at fixed_at bytes_at word_at word
page_told = refl

page_with_no_eof : results_of 16 (words (0 ∷ 0 ∷ 2 ∷ [])) ≡ Err (misspelled bad_boolean)
unfolding results_of by_status listed_arm chain_at entry_told_at at_end boolean_at word_at word
page_with_no_eof = refl

blocks_told : results_of 17 (words (0 ∷ 8192 ∷ 4096 ∷ 262144 ∷ 262143 ∷ 262143 ∷ [])) ≡ Ok (free_blocks 262143)
unfolding results_of by_status blocks_arm after_number at_end word_at word
blocks_told = refl
