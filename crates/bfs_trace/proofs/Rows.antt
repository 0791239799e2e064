-- Traces that are written out, and what they say.
use Rattle.std.proofs.Common.{◌≡◌, ◌++◌, ℕ, List, [], ◌∷◌, Ok, Err, codes, refl, true}
use Rattle.std.specs.Prelude.{⊤, replicate, is_ok}
use Rattle.std.specs.List.{flat_map}
use Rattle.hex.proofs.OnLiterals.{hex_on_literals}
use Rattle.bfs_model.specs.Bytes.Arguments.{handle}
use Rattle.bfs_model.specs.Bytes.Call.{Credential}
use Rattle.bfs_model.specs.Bytes.Items.{counted, fixed, word}
use Rattle.bfs_trace.specs.Callers.{first_callers, gids_spelled}
use Rattle.bfs_trace.specs.Events.{Request}
use Rattle.bfs_trace.specs.Lines.{call_spelled, line_spelled}
use Rattle.bfs_trace.specs.Operands.{file_spelled, mode_in, number_setting_in, set_time_spelled, settings_in, time_setting_in, time_spelled}
use Rattle.bfs_trace.specs.Messages.{arguments, call_header, credential_body, settings_item}
use Rattle.bfs_trace.specs.Trace.{is_passed_over, read_lines, trace_spelled}
use Rattle.bfs_trace.specs.Population.{Population}
use Rattle.bfs_trace.specs.Texts.{data_spelled, escape_spelled, text_after, text_spelled}
use Rattle.bfs_trace.specs.Verbs.{call_in_words, file_words, named_with_settings_words, named_words, procedure_named, rename_words, set_attributes_words, symbolic_link_words, write_words}
use Rattle.bfs_trace.specs.Words.{digits_spelled, parts}
use Rattle.bfs_trace.specs.declared.events.TraceEvent.{TraceEvent}
use Rattle.bfs_trace.specs.declared.events.TraceEvent.TheVariants as event

-- what computes what a text says
unfoldable pub read_on_literals : ⊤
unfolding hex_on_literals parts digits_spelled time_spelled procedure_named call_spelled line_spelled is_passed_over read_lines first_callers gids_spelled
read_on_literals = tt

-- one replica
abbrev pub sixteen_clients : Population
sixteen_clients = record { clients = 16; replicas = 1 }

-- whom no line has named
abbrev pub sixteen_callers : List Credential
sixteen_callers = first_callers 16

abbrev pub block_at : (seconds useconds : ℕ) → List Request → TraceEvent
block_at s u requests = event.Block (record { time = record { seconds = s; useconds = u }; requests = requests })

abbrev pub request_by : (client timestamp : ℕ) → (call : List ℕ) → Request
request_by c t bytes = record { client = c; timestamp = t; call = bytes }

-- comments and empty lines, leading zeros, both cases of digits, and a last line with no newline
pub row-two_requests : trace_spelled sixteen_clients (codes "# a\n\nbatch 01.000000\n0 1 raw 00Ff\n15 007 raw aB")
    ≡ Ok (block_at 1 0 (request_by 0 1 (0 ∷ 255 ∷ []) ∷ request_by 15 7 (171 ∷ []) ∷ []) ∷ [])
unfolding read_on_literals
row-two_requests = refl

-- the ends of what numbers may be
pub row-last_numbers : trace_spelled sixteen_clients (codes "batch 4294967295.999999\n15 18446744073709551615 raw 00\n")
    ≡ Ok (block_at 4294967295 999999 (request_by 15 18446744073709551615 (0 ∷ []) ∷ []) ∷ [])
unfolding read_on_literals
row-last_numbers = refl

pub row-nothing : trace_spelled sixteen_clients [] ≡ Ok []
unfolding read_on_literals
row-nothing = refl

-- Lines that break the grammar -------------------------------------------------------------------------------------

pub row-no_block : trace_spelled sixteen_clients (codes "# a\n0 1 raw 00\n") ≡ Err 2
unfolding read_on_literals
row-no_block = refl

pub row-other_verb : trace_spelled sixteen_clients (codes "batch 1.000000\n0 1 raw 00\n0 2 Raw 00\n") ≡ Err 3
unfolding read_on_literals
row-other_verb = refl

pub row-carriage_return : trace_spelled sixteen_clients (codes "batch 1.000000\r\n") ≡ Err 1
unfolding read_on_literals
row-carriage_return = refl

pub row-carriage_return_behind_call : trace_spelled sixteen_clients (codes "batch 1.000000\n0 1 raw 00\r\n") ≡ Err 2
unfolding read_on_literals
row-carriage_return_behind_call = refl

pub row-carriage_return_alone : trace_spelled sixteen_clients (codes "# a comment\r\n\r\n") ≡ Err 2
unfolding read_on_literals
row-carriage_return_alone = refl

pub row-two_spaces : trace_spelled sixteen_clients (codes "batch  1.000000\n") ≡ Err 1
unfolding read_on_literals
row-two_spaces = refl

pub row-last_space : trace_spelled sixteen_clients (codes "batch 1.000000 \n") ≡ Err 1
unfolding read_on_literals
row-last_space = refl

pub row-five_digits : trace_spelled sixteen_clients (codes "batch 1.00000\n") ≡ Err 1
unfolding read_on_literals
row-five_digits = refl

pub row-sign : trace_spelled sixteen_clients (codes "batch +1.000000\n") ≡ Err 1
unfolding read_on_literals
row-sign = refl

pub row-late_time : trace_spelled sixteen_clients (codes "batch 4294967296.000000\n") ≡ Err 1
unfolding read_on_literals
row-late_time = refl

pub row-other_client : trace_spelled sixteen_clients (codes "batch 1.000000\n16 1 raw 00") ≡ Err 2
unfolding read_on_literals
row-other_client = refl

pub row-odd_digits : trace_spelled sixteen_clients (codes "batch 1.000000\n0 1 raw 000") ≡ Err 2
unfolding read_on_literals
row-odd_digits = refl

pub row-no_bytes : trace_spelled sixteen_clients (codes "batch 1.000000\n0 1 raw ") ≡ Err 2
unfolding read_on_literals
row-no_bytes = refl

abbrev pub requests_behind_batch : ℕ → List ℕ
requests_behind_batch count = codes "batch 1.000000\n" ++ flat_map (λ line. line) (replicate count (codes "0 1 raw 00\n"))

-- a block has room for 1,024 requests
pub row-full_block : is_ok (trace_spelled sixteen_clients (requests_behind_batch 1024)) ≡ true
unfolding read_on_literals
row-full_block = refl

pub row-request_too_many : trace_spelled sixteen_clients (requests_behind_batch 1025) ≡ Err 1026
unfolding read_on_literals
row-request_too_many = refl

-- Callers --------------------------------------------------------------------------------------------------------------

-- 16 groups behind the first, and the ends of what numbers may be
pub row-most_gids : is_ok (trace_spelled sixteen_clients (codes "as 15 4294967295 0 1 2 3 4 5 6 7 8 9 10 11 12 13 14 15 4294967295")) ≡ true
unfolding read_on_literals
row-most_gids = refl

pub row-gid_too_many : trace_spelled sixteen_clients (codes "as 0 1 2 1 2 3 4 5 6 7 8 9 10 11 12 13 14 15 16 17") ≡ Err 1
unfolding read_on_literals
row-gid_too_many = refl

pub row-no_gid : trace_spelled sixteen_clients (codes "as 0 1") ≡ Err 1
unfolding read_on_literals
row-no_gid = refl

pub row-large_gid : trace_spelled sixteen_clients (codes "as 0 1 2 4294967296") ≡ Err 1
unfolding read_on_literals
row-large_gid = refl

pub row-signed_uid : trace_spelled sixteen_clients (codes "as 0 +1 2") ≡ Err 1
unfolding read_on_literals
row-signed_uid = refl

pub row-space_behind_gid : trace_spelled sixteen_clients (codes "as 0 1 2 ") ≡ Err 1
unfolding read_on_literals
row-space_behind_gid = refl

pub row-other_caller : trace_spelled sixteen_clients (codes "as 16 1 2") ≡ Err 1
unfolding read_on_literals
row-other_caller = refl

-- it is no event, and ends a block
pub row-caller_is_no_event : trace_spelled sixteen_clients (codes "as 0 1 2\nbatch 1.000000\nas 1 2 3\n") ≡ Ok (block_at 1 0 [] ∷ [])
unfolding read_on_literals
row-caller_is_no_event = refl

pub row-caller_ends_a_block : trace_spelled sixteen_clients (codes "batch 1.000000\n0 1 raw 00\nas 0 1 2\n0 2 raw 00\n") ≡ Err 4
unfolding read_on_literals
row-caller_ends_a_block = refl

-- Verbs, by the bytes that the encoders of `rpcgen` and libtirpc write of their calls ----------------------------------

-- what computes the call that words spell
unfoldable pub calls_on_literals : ⊤
unfolding read_on_literals call_in_words digits_spelled file_spelled text_spelled escape_spelled text_after data_spelled settings_in mode_in number_setting_in time_setting_in set_time_spelled named_words named_with_settings_words set_attributes_words write_words rename_words symbolic_link_words arguments settings_item call_header credential_body handle counted fixed word
calls_on_literals = tt

-- octal digits, and both kinds of time
pub row-set_attributes : line_spelled sixteen_clients sixteen_callers (codes "0 3 setattr #3 644 1001 0 4294967294 now 7.250000")
    ≡ line_spelled sixteen_clients sixteen_callers (codes "0 3 raw 000000030000000000000002000186a30000000200000002000000010000001c00000000000000067265706c61790000000003e8000000640000000000000000000000004246533200000001000000030000000000000000000000000000000000000000000001a4000003e900000000fffffffe00000000000f4240000000070003d090")
unfolding calls_on_literals
row-set_attributes = refl

-- a name with bytes by their digits
pub row-look_up : line_spelled sixteen_clients sixteen_callers (codes "0 4 lookup #02 a%20b%25%fF~!")
    ≡ line_spelled sixteen_clients sixteen_callers (codes "0 4 raw 000000040000000000000002000186a30000000200000004000000010000001c00000000000000067265706c61790000000003e80000006400000000000000000000000042465332000000010000000200000000000000000000000000000000000000000000000761206225ff7e2100")
unfolding calls_on_literals
row-look_up = refl

-- bytes of a file, with their padding
pub row-write : line_spelled sixteen_clients sixteen_callers (codes "0 8 write #3 1048576 x00aBCdEF10")
    ≡ line_spelled sixteen_clients sixteen_callers (codes "0 8 raw 000000080000000000000002000186a30000000200000008000000010000001c00000000000000067265706c61790000000003e80000006400000000000000000000000042465332000000010000000300000000000000000000000000000000000000000000000000100000000000000000000500abcdef10000000")
unfolding calls_on_literals
row-write = refl

-- two names
pub row-rename : line_spelled sixteen_clients sixteen_callers (codes "0 11 rename #2 f #4 gamma")
    ≡ line_spelled sixteen_clients sixteen_callers (codes "0 11 raw 0000000b0000000000000002000186a3000000020000000b000000010000001c00000000000000067265706c61790000000003e8000000640000000000000000000000004246533200000001000000020000000000000000000000000000000000000000000000016600000042465332000000010000000400000000000000000000000000000000000000000000000567616d6d61000000")
unfolding calls_on_literals
row-rename = refl

-- what is not set
pub row-make_symbolic_link : line_spelled sixteen_clients sixteen_callers (codes "0 13 symlink #2 s d/b%20c - - - - 1.000002 -")
    ≡ line_spelled sixteen_clients sixteen_callers (codes "0 13 raw 0000000d0000000000000002000186a3000000020000000d000000010000001c00000000000000067265706c61790000000003e8000000640000000000000000000000004246533200000001000000020000000000000000000000000000000000000000000000017300000000000005642f622063000000ffffffffffffffffffffffffffffffff0000000100000002ffffffffffffffff")
unfolding calls_on_literals
row-make_symbolic_link = refl

-- a client's calls are by another from its line on, until another names it; those of other clients stay
pub row-callers : trace_spelled sixteen_clients (codes "batch 1.000000\n1 1 getattr #2\nas 1 7 8 9 10\nbatch 2.000000\n1 2 getattr #2\n0 3 null\nbatch 3.000000\n1 4 null\nas 1 0 0\nbatch 4.000000\n1 5 null\n")
    ≡ trace_spelled sixteen_clients (codes "batch 1.000000\n1 1 raw 000000010000000000000002000186a30000000200000001000000010000001c00000000000000067265706c61790000000003e9000000640000000000000000000000004246533200000001000000020000000000000000000000000000000000000000\nbatch 2.000000\n1 2 raw 000000020000000000000002000186a30000000200000001000000010000002400000000000000067265706c61790000000000070000000800000002000000090000000a00000000000000004246533200000001000000020000000000000000000000000000000000000000\n0 3 raw 000000030000000000000002000186a30000000200000000000000010000001c00000000000000067265706c61790000000003e800000064000000000000000000000000\nbatch 3.000000\n1 4 raw 000000040000000000000002000186a30000000200000000000000010000002400000000000000067265706c61790000000000070000000800000002000000090000000a0000000000000000\nbatch 4.000000\n1 5 raw 000000050000000000000002000186a30000000200000000000000010000001c00000000000000067265706c617900000000000000000000000000000000000000000000\n")
unfolding calls_on_literals file_words
row-callers = refl

-- Events --------------------------------------------------------------------------------------------------------------

pub row-blocks : trace_spelled sixteen_clients (codes "batch 1.000000\n0 1 raw 00\n3 1 raw 01\nbatch 2.000000\n# a comment\r\nbatch 3.000000\n0 2 raw 02\n")
    ≡ Ok (block_at 1 0 (request_by 0 1 (0 ∷ []) ∷ request_by 3 1 (1 ∷ []) ∷ []) ∷ block_at 2 0 [] ∷ block_at 3 0 (request_by 0 2 (2 ∷ []) ∷ []) ∷ [])
unfolding read_on_literals
row-blocks = refl

-- a replica falls silent and is heard again
abbrev pub four_replicas : Population
four_replicas = record { clients = 16; replicas = 4 }

pub row-silence : trace_spelled four_replicas (codes "silent 3\nbatch 1.000000\n0 1 raw 00\nheard 03\n")
    ≡ Ok (event.Silent 3 ∷ block_at 1 0 (request_by 0 1 (0 ∷ []) ∷ []) ∷ event.Heard 3 ∷ [])
unfolding read_on_literals
row-silence = refl

pub row-silence_ends_a_block : trace_spelled four_replicas (codes "batch 1.000000\nsilent 0\n0 1 raw 00\n") ≡ Err 3
unfolding read_on_literals
row-silence_ends_a_block = refl

pub row-no_such_replica : trace_spelled four_replicas (codes "silent 3\nsilent 4\n") ≡ Err 2
unfolding read_on_literals
row-no_such_replica = refl

pub row-the_only_replica : trace_spelled sixteen_clients (codes "silent 0\nheard 1\n") ≡ Err 2
unfolding read_on_literals
row-the_only_replica = refl

-- a timeout ends a block, and nothing stands behind its word
pub row-timeout : trace_spelled sixteen_clients (codes "timeout\nbatch 1.000000\ntimeout\n") ≡ Ok (event.Timeout ∷ block_at 1 0 [] ∷ event.Timeout ∷ [])
unfolding read_on_literals
row-timeout = refl

pub row-timeout_ends_a_block : trace_spelled sixteen_clients (codes "batch 1.000000\ntimeout\n0 1 raw 00\n") ≡ Err 3
unfolding read_on_literals
row-timeout_ends_a_block = refl

pub row-timeout_of_one : trace_spelled four_replicas (codes "timeout 0\n") ≡ Err 1
unfolding read_on_literals
row-timeout_of_one = refl
