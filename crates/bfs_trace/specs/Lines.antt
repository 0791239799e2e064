-- The grammar of a line: words, with one space between two words.
use Rattle.std.specs.Prelude.{ℕ, ◌-◌, ◌*◌, ◌==◌, ◌||◌, List, [], ◌∷◌, length, Option, Some, None, nat_lt, bytes_eq, codes, slice_get, if◌then◌else◌}
use Rattle.std.specs.Result.{result_ok}
use Rattle.hex.specs.Hex.{decode_of}
use Rattle.bfs_model.specs.Bytes.Call.{Credential, ◌>>=◌}
use Rattle.bfs_model.specs.Server.Limits.{most_request_bytes}
use Rattle.bfs_trace.specs.Callers.{caller_spelled}
use Rattle.bfs_trace.specs.Messages.{message}
use Rattle.bfs_trace.specs.Operands.{time_spelled}
use Rattle.bfs_trace.specs.Population.{Population}
use Rattle.bfs_trace.specs.Texts.{within_request}
use Rattle.bfs_trace.specs.Verbs.{call_in_words, procedure_named}
use Rattle.bfs_trace.specs.Words.{number_spelled, only_word, parts}
use Rattle.bfs_trace.specs.declared.events.TraceEvent.TheVariants as event
use Rattle.bfs_trace.specs.declared.lines.Line.{Line}
use Rattle.bfs_trace.specs.declared.lines.Line.TheVariants as line

-- `HEX`: from 1 to 16,384 bytes by two hexadecimal digits each, of both cases
unfoldable pub call_spelled : List ℕ → Option (List ℕ)
call_spelled word = if length word == 0 || nat_lt (2 * most_request_bytes) (length word) then None else result_ok (decode_of word)

-- what stands behind `raw`: `HEX`, the whole call
abbrev pub raw_call : List (List ℕ) → Option (List ℕ)
raw_call words = only_word words >>= call_spelled

-- what stands behind another verb: the words of its call
abbrev pub verb_call : Credential → (timestamp : ℕ) → (verb : List ℕ) → List (List ℕ) → Option (List ℕ)
verb_call caller timestamp verb words = do
  procedure ← procedure_named verb
  call ← call_in_words procedure words
  within_request (message caller timestamp procedure call)

-- the bytes of the call that a verb and the words behind it spell
abbrev pub call_by_verb : Credential → (timestamp : ℕ) → List (List ℕ) → Option (List ℕ)
call_by_verb caller timestamp [] = None
call_by_verb caller timestamp (verb ∷ words) = if bytes_eq verb (codes "raw") then raw_call words else verb_call caller timestamp verb words

-- what stands behind `batch`: `S.UUUUUU`, the time of a block, which has no requests yet
abbrev pub batch_line : List (List ℕ) → Option Line
batch_line words = do
  word ← only_word words
  time ← time_spelled word
  Some (line.Event (event.Block (record { time = time; requests = [] })))

-- what stands behind `silent` and `heard`: a replica below the number of replicas
abbrev pub replica_named : Population → List (List ℕ) → Option ℕ
replica_named population words = do
  word ← only_word words
  number_spelled (population.replicas - 1) word

abbrev pub silent_line : Population → List (List ℕ) → Option Line
silent_line population words = do
  replica ← replica_named population words
  Some (line.Event (event.Silent replica))

abbrev pub heard_line : Population → List (List ℕ) → Option Line
heard_line population words = do
  replica ← replica_named population words
  Some (line.Event (event.Heard replica))

-- nothing stands behind `timeout`
abbrev pub timeout_line : List (List ℕ) → Option Line
timeout_line [] = Some (line.Event event.Timeout)
timeout_line (word ∷ words) = None

-- what stands behind `as`: a client, and the credential of its later calls
abbrev pub caller_line : Population → List (List ℕ) → Option Line
caller_line population words = do
  caller ← caller_spelled population words
  Some (line.Caller caller)

-- `CLIENT T VERB ..`: a client below the number of clients, a timestamp below 2^64, and a call
abbrev pub request_line : Population → (callers : List Credential) → (client : List ℕ) → List (List ℕ) → Option Line
request_line population callers client [] = None
request_line population callers client (timestamp ∷ words) = do
  c ← number_spelled (population.clients - 1) client
  t ← number_spelled 18446744073709551615 timestamp
  caller ← slice_get callers c
  call ← call_by_verb caller t words
  Some (line.Request (record { client = c; timestamp = t; call = call }))

abbrev pub line_in : Population → (callers : List Credential) → List (List ℕ) → Option Line
line_in population callers [] = None
line_in population callers (first ∷ words) =
    if bytes_eq first (codes "batch") then batch_line words else (
    if bytes_eq first (codes "silent") then silent_line population words else (
    if bytes_eq first (codes "heard") then heard_line population words else (
    if bytes_eq first (codes "timeout") then timeout_line words else (
    if bytes_eq first (codes "as") then caller_line population words else request_line population callers first words))))

-- what a line says, where clients have these credentials, or None where it breaks the grammar
unfoldable pub line_spelled : Population → (callers : List Credential) → List ℕ → Option Line
line_spelled population callers text = line_in population callers (parts 32 text)
