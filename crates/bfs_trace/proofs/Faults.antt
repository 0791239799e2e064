-- The first fault of a text is that of its trace.
use Rattle.std.proofs.Common.{◌≡◌, ◌<◌, ◌+◌, ◌-◌, ℕ, Bool, true, false, cond, eqb, set, List, [], ◌∷◌, ◌++◌, length, length-append, Option, Some, None, option_map, Result, Ok, Err, refl, sym, ap, ◌∙◌, arith}
use Rattle.std.specs.Prelude.{slice_get, IsOk}
use Rattle.std.specs.Option.{option_map_or}
use Rattle.std.proofs.Math.Seq.{get_or-append_seam}
use Rattle.std.proofs.lemmas.List.{get_or-set_same, length-set, length_push}
use Rattle.std.proofs.lemmas.Option.{slice_get-get_or, slice_get_within}
use Rattle.bfs_model.specs.Bytes.Call.{Credential, ◌>>=◌}
use Rattle.bfs_model.specs.Server.Limits.{most_requests}
use Rattle.bfs_trace.specs.Events.{Request}
use Rattle.bfs_trace.specs.Inside.Places.{Place, first_fault, first_place, place_of, place_with_line, place_with_request, place_with_text, requests_of}
use Rattle.bfs_trace.specs.Lines.{line_spelled}
use Rattle.bfs_trace.specs.Population.{Population}
use Rattle.bfs_trace.specs.Trace.{Reading, event_with, first_reading, is_passed_over, read_lines, trace_spelled, with_line, with_request, with_text}
use Rattle.bfs_trace.specs.Words.{parts}
use Rattle.bfs_trace.specs.declared.events.TraceEvent.{TraceEvent}
use Rattle.bfs_trace.specs.declared.events.TraceEvent.TheVariants as event
use Rattle.bfs_trace.specs.declared.lines.Line.{Line}
use Rattle.bfs_trace.specs.declared.lines.Line.TheVariants as line

abbrev fault_of : {A : Type 0} → Result A ℕ → Option ℕ
fault_of (Ok x) = None
fault_of (Err number) = Some number

last_pushed : {A : Type 0} (xs : List A) (x : A) → slice_get (xs ++ x ∷ []) (length (xs ++ x ∷ []) - 1) ≡ Some x
last_pushed xs x =
    let count : length (xs ++ x ∷ []) ≡ length xs + 1 = omega (arith, length-append xs (x ∷ [])) in
    let at : length (xs ++ x ∷ []) - 1 ≡ length xs = omega (arith, count) in
    rw at (slice_get-get_or (xs ++ x ∷ []) (length xs) x (omega (arith, count)) ∙ ap (λ y. Some y) (get_or-append_seam xs x [] x))

last_set : {A : Type 0} (xs : List A) (x : A) → length xs - 1 < length xs → slice_get (set xs (length xs - 1) x) (length (set xs (length xs - 1) x) - 1) ≡ Some x
last_set xs x some =
    let i : ℕ = length xs - 1 in
    rw (length-set xs i x) (slice_get-get_or (set xs i x) i x (rw (length-set xs i x) some) ∙ ap (λ y. Some y) (get_or-set_same xs i x x some))

-- what a request makes of the last event
joined : (one : TraceEvent) (request : Request) → (option_map requests_of (event_with request one)) ≡ (requests_of one >>= λ count. cond (eqb count most_requests) None (Some (Some (count + 1))))
joined (event.Block block) request = go (eqb (length block.requests) most_requests)
  where
    go : (full : Bool) → option_map requests_of (option_map (λ more. event.Block more) (cond full None (Some (record { time = block.time; requests = block.requests ++ request ∷ [] }))))
        ≡ cond full None (Some (Some (length block.requests + 1)))
    go true = refl
    go false = ap (λ count. Some (Some count)) (length_push block.requests request)
joined (event.Silent replica) request = refl
joined (event.Heard replica) request = refl
joined event.Timeout request = refl

module _ (callers : List Credential) where
  abbrev place_with : Option ℕ → Place
  place_with requests = record { requests = requests; callers = callers }

  abbrev reading_of : List TraceEvent → Reading
  reading_of events = record { events = events; has_ended = false; callers = callers }

  counted : (count : Option ℕ) → option_map place_with (count >>= λ n. cond (eqb n most_requests) None (Some (Some (n + 1)))) ≡ place_with_request (place_with count)
  counted None = refl
  counted (Some n) = go (eqb n most_requests)
    where
      go : (full : Bool) → option_map place_with (cond full None (Some (Some (n + 1)))) ≡ cond full None (Some (place_with (Some (n + 1))))
      go true = refl
      go false = refl

  replaced : (events : List TraceEvent) → length events - 1 < length events → (last : Option TraceEvent)
      → option_map place_of (option_map reading_of (option_map (set events (length events - 1)) last)) ≡ option_map place_with (option_map requests_of last)
  replaced events some None = refl
  replaced events some (Some last) = ap (λ one. Some (place_with (one >>= requests_of))) (last_set events last some)

  request_passed : (events : List TraceEvent) (request : Request)
      → option_map place_of (option_map reading_of (with_request events request)) ≡ place_with_request (place_with (slice_get events (length events - 1) >>= requests_of))
  request_passed events request = go (slice_get events (length events - 1)) refl
    where
      go : (last : Option TraceEvent) → slice_get events (length events - 1) ≡ last
          → option_map place_of (option_map reading_of (option_map (set events (length events - 1)) (last >>= event_with request))) ≡ place_with_request (place_with (last >>= requests_of))
      go None is = refl
      go (Some last) is =
          replaced events (slice_get_within events (length events - 1) last is) (event_with request last)
          ∙ ap (option_map place_with) (joined last request)
          ∙ counted (requests_of last)

line_passed : (reading : Reading) (l : Line) → option_map place_of (with_line reading l) ≡ place_with_line (place_of reading) l
line_passed reading (line.Event one) = ap (λ last. Some (place_with reading.callers (last >>= requests_of))) (last_pushed reading.events one)
line_passed reading (line.Caller caller) = refl
line_passed reading (line.Request request) = go reading.has_ended
  where
    go : (ended : Bool) → option_map place_of (cond ended None (option_map (reading_of reading.callers) (with_request reading.events request)))
        ≡ place_with_request (place_with reading.callers (cond ended None (slice_get reading.events (length reading.events - 1) >>= requests_of)))
    go true = refl
    go false = request_passed reading.callers reading.events request

text_passed : (population : Population) (reading : Reading) (text : List ℕ) → option_map place_of (with_text population reading text) ≡ place_with_text population (place_of reading) text
text_passed population reading text = go (is_passed_over text) (line_spelled population reading.callers text)
  where
    go : (passed : Bool) (spelled : Option Line) → option_map place_of (cond passed (Some reading) (spelled >>= with_line reading)) ≡ cond passed (Some (place_of reading)) (spelled >>= place_with_line (place_of reading))
    go true spelled = refl
    go false None = refl
    go false (Some l) = line_passed reading l

-- from any line on
fault_found : (population : Population) (texts : List (List ℕ)) (number : ℕ) (reading : Reading)
    → first_fault population texts number (place_of reading) ≡ fault_of (read_lines population texts number reading)
unfolding first_fault read_lines
fault_found population [] number reading = refl
fault_found population (text ∷ texts) number reading =
    ap (λ place. option_map_or (first_fault population texts (number + 1)) place (Some number)) (sym (text_passed population reading text))
    ∙ go (with_text population reading text) (fault_found population texts (number + 1))
  where
    go : (next : Option Reading) → ((reading : Reading) → first_fault population texts (number + 1) (place_of reading) ≡ fault_of (read_lines population texts (number + 1) reading))
        → option_map_or (first_fault population texts (number + 1)) (option_map place_of next) (Some number)
        ≡ fault_of (option_map_or (read_lines population texts (number + 1)) next (Err number))
    go None below = refl
    go (Some reading) below = below reading

module _ (population : Population) (text : List ℕ) where
  abbrev found : Option ℕ
  found = first_fault population (parts 10 text) 1 (first_place population)

  fault_is : found ≡ fault_of (trace_spelled population text)
  fault_is = fault_found population (parts 10 text) 1 (first_reading population)

  pub some_fault : (number : ℕ) → Some number ≡ found → trace_spelled population text ≡ Err number
  some_fault number is = go (trace_spelled population text) (is ∙ fault_is)
    where
      go : (read : Result (List TraceEvent) ℕ) → Some number ≡ fault_of read → read ≡ Err number
      go (Ok events) is = absurd cc
      go (Err first) is = cc

  pub no_fault : None ≡ found → IsOk (trace_spelled population text)
  no_fault is = go (trace_spelled population text) (is ∙ fault_is)
    where
      go : (read : Result (List TraceEvent) ℕ) → None ≡ fault_of read → IsOk read
      go (Ok events) is = refl
      go (Err first) is = absurd cc
