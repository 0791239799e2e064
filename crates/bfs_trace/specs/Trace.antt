-- A trace: what its lines say, one after another.
use Rattle.std.specs.Prelude.{ℕ, ◌+◌, ◌-◌, ◌==◌, ◌++◌, Bool, true, false, List, [], ◌∷◌, length, Option, Some, None, Result, Ok, Err, option_map, slice_get, slice_set, if◌then◌else◌}
use Rattle.std.specs.Option.{option_map_or}
use Rattle.bfs_model.specs.Bytes.Call.{Credential, ◌>>=◌}
use Rattle.bfs_model.specs.Server.Limits.{most_requests}
use Rattle.bfs_trace.specs.Callers.{first_callers, with_caller}
use Rattle.bfs_trace.specs.Events.{Block, Request}
use Rattle.bfs_trace.specs.Lines.{line_spelled}
use Rattle.bfs_trace.specs.Population.{Population}
use Rattle.bfs_trace.specs.Words.{parts}
use Rattle.bfs_trace.specs.declared.events.TraceEvent.{TraceEvent}
use Rattle.bfs_trace.specs.declared.events.TraceEvent.TheVariants as event
use Rattle.bfs_trace.specs.declared.lines.Line.{Line}
use Rattle.bfs_trace.specs.declared.lines.Line.TheVariants as line

-- an empty line, or a comment, whatever it holds
unfoldable pub is_passed_over : List ℕ → Bool
is_passed_over [] = true
is_passed_over (byte ∷ bytes) = byte == 35

-- events with one more
abbrev pub with_event : List TraceEvent → TraceEvent → Option (List TraceEvent)
with_event events one = Some (events ++ one ∷ [])

-- a block with a request more, where it has room for one
abbrev pub block_with : Request → Block → Option Block
block_with request block =
    if length block.requests == most_requests then None
    else Some (record { time = block.time; requests = block.requests ++ request ∷ [] })

-- requests belong to a block
abbrev pub event_with : Request → TraceEvent → Option TraceEvent
event_with request (event.Block block) = option_map (λ more. event.Block more) (block_with request block)
event_with request _ = None

-- events of which the last has a request more
abbrev pub with_request : List TraceEvent → Request → Option (List TraceEvent)
with_request events request =
    option_map (slice_set events (length events - 1)) (slice_get events (length events - 1) >>= event_with request)

-- what the lines up to a place say: the events, whether the last has ended so that no request joins it, and each client's credential
pub record Reading : Type 0 where
  pub events : List TraceEvent
  pub has_ended : Bool
  pub callers : List Credential

abbrev pub first_reading : Population → Reading
first_reading population = record { events = []; has_ended = false; callers = first_callers population.clients }

-- with what a line says: one more event, another credential, or a request more of the last event
abbrev pub with_line : Reading → Line → Option Reading
with_line reading (line.Event one) =
    option_map (λ events. record { events = events; has_ended = false; callers = reading.callers }) (with_event reading.events one)
with_line reading (line.Caller caller) =
    Some (record { events = reading.events; has_ended = true; callers = with_caller reading.callers caller })
with_line reading (line.Request request) =
    if reading.has_ended then None
    else option_map (λ events. record { events = events; has_ended = false; callers = reading.callers }) (with_request reading.events request)

-- with a line of text, or None where it breaks the grammar
abbrev pub with_text : Population → Reading → List ℕ → Option Reading
with_text population reading text =
    if is_passed_over text then Some reading else (line_spelled population reading.callers text >>= with_line reading)

-- the events of the lines from line `number` on, behind what those before them say, or the number of the first that breaks the grammar
unfoldable pub read_lines : Population → List (List ℕ) → (number : ℕ) → Reading → Result (List TraceEvent) ℕ
read_lines population [] number reading = Ok reading.events
read_lines population (text ∷ texts) number reading =
    option_map_or (read_lines population texts (number + 1)) (with_text population reading text) (Err number)

-- the events of a trace of so many clients and replicas, or the number of the first line that breaks the grammar, counted from 1
abbrev pub trace_spelled : Population → List ℕ → Result (List TraceEvent) ℕ
trace_spelled population text = read_lines population (parts 10 text) 1 (first_reading population)
