-- Which lines may follow the lines of a trace, whatever these say beside.
use Rattle.std.specs.Prelude.{ℕ, ◌+◌, ◌-◌, ◌==◌, List, [], ◌∷◌, length, Option, Some, None, slice_get, if◌then◌else◌}
use Rattle.std.specs.Option.{option_map_or}
use Rattle.bfs_model.specs.Bytes.Call.{Credential, ◌>>=◌}
use Rattle.bfs_model.specs.Server.Limits.{most_requests}
use Rattle.bfs_trace.specs.Callers.{first_callers, with_caller}
use Rattle.bfs_trace.specs.Lines.{line_spelled}
use Rattle.bfs_trace.specs.Population.{Population}
use Rattle.bfs_trace.specs.Trace.{Reading, is_passed_over}
use Rattle.bfs_trace.specs.declared.events.TraceEvent.{TraceEvent}
use Rattle.bfs_trace.specs.declared.events.TraceEvent.TheVariants as event
use Rattle.bfs_trace.specs.declared.lines.Line.{Line}
use Rattle.bfs_trace.specs.declared.lines.Line.TheVariants as line

-- how many requests the last event has, where requests may join it, and each client's credential
pub record Place : Type 0 where
  pub requests : Option ℕ
  pub callers : List Credential

abbrev pub requests_of : TraceEvent → Option ℕ
requests_of (event.Block block) = Some (length block.requests)
requests_of _ = None

-- the place behind what lines say
abbrev pub place_of : Reading → Place
place_of reading = record {
  requests = if reading.has_ended then None else (slice_get reading.events (length reading.events - 1) >>= requests_of);
  callers = reading.callers;
}

abbrev pub first_place : Population → Place
first_place population = record { requests = None; callers = first_callers population.clients }

-- behind a request more
abbrev pub place_with_request : Place → Option Place
place_with_request place = do
  count ← place.requests
  if count == most_requests then None else Some (record { requests = Some (count + 1); callers = place.callers })

abbrev pub place_with_line : Place → Line → Option Place
place_with_line place (line.Event one) = Some (record { requests = requests_of one; callers = place.callers })
place_with_line place (line.Caller caller) = Some (record { requests = None; callers = with_caller place.callers caller })
place_with_line place (line.Request request) = place_with_request place

-- behind a line of text, or None where it breaks the grammar
abbrev pub place_with_text : Population → Place → List ℕ → Option Place
place_with_text population place text =
    if is_passed_over text then Some place else (line_spelled population place.callers text >>= place_with_line place)

-- the number of the first line that breaks the grammar, of those from line `number` on, if one does
unfoldable pub first_fault : Population → List (List ℕ) → (number : ℕ) → Place → Option ℕ
first_fault population [] number place = None
first_fault population (text ∷ texts) number place =
    option_map_or (first_fault population texts (number + 1)) (place_with_text population place text) (Some number)
