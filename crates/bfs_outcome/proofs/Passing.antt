-- Two passes over a batch come to what one request after another comes to.
use Rattle.std.proofs.Common.{◌≡◌, ◌∙◌, ℕ, ◌≤◌, Bool, IsTrue, is_some, List, [], ◌∷◌, ◌++◌, length, map, Option, Some, None, refl, sym, ap, ap₂, subst, arith}
use Rattle.std.specs.Option.{ForSome, option_map}
use Rattle.bfs_model.specs.Server.Serial.{effective_time, execute, inodes_after, ordinal_after, replies_to}
use Rattle.bfs_model.specs.Server.Stored.{IsLive}
use Rattle.bfs_model.specs.Server.Tree.{Time, FileSystem, spent_ordinal}
use Rattle.bfs_serial.specs.Executed.{Executed}
use Rattle.bfs_parallel.specs.Ran.{AllRan}
use Rattle.bfs_messages.specs.Messages.{Request, Requests, Batch, requests_of}
use Rattle.bfs_messages.specs.declared.signed.Signed.{Signed}
use Rattle.bfs_replies.specs.Answers.{Answer, recorded_all}
use Rattle.bfs_replies.specs.Classes.{Timestamps, taken_as, timestamps_of}
use Rattle.bfs_replies.specs.Tables.{Table}
use Rattle.bfs_replies.specs.declared.tables.Class.{Class}
use Rattle.bfs_replies.specs.declared.tables.Class.TheVariants.{New, Repeat, Old, Unknown}
use Rattle.bfs_replies.proofs.Public.{timestamps_recorded}
use Rattle.bfs_outcome.specs.Outcome.{Standing, answer_to, answers_as, answers_to, at_start, class_at, executed, outcome, standing_after, standing_as}
use Rattle.bfs_outcome.specs.Executed.{ComesTo}
use Rattle.bfs_outcome.specs.Inside.Passes.{call_as, left_as, new_batch, new_calls, to_answer, to_answer_as, to_record, to_record_as}
use Rattle.bfs_outcome.specs.Laws.TwoPasses.{TwoPassesComeToTheOutcome}
use Rattle.bfs_outcome.specs.Ran.{Execution, RanNew, execution_as, executions}

abbrev calls_of : List Execution → List (List ℕ)
calls_of executions = map (λ one. one.call) executions

abbrev replies_of : List Execution → List (List ℕ)
replies_of executions = map (λ one. one.reply) executions

-- what the two passes make of a standing
abbrev calls_from : Standing → List (Signed Request) → List (List ℕ)
calls_from s requests = new_calls (timestamps_of s.table) requests

abbrev replies_from : Standing → Time → List (Signed Request) → List (List ℕ)
replies_from s time requests = replies_to s.inodes s.ordinal time (calls_from s requests)

record Agrees (s : Standing) (time : Time) (requests : List (Signed Request)) : Type 0 where
  inodes : (standing_after s time requests).inodes ≡ inodes_after s.inodes s.ordinal time (calls_from s requests)
  ordinal : (standing_after s time requests).ordinal ≡ ordinal_after s.ordinal (length (calls_from s requests))
  table : (standing_after s time requests).table ≡ recorded_all s.table (to_record (timestamps_of s.table) requests (replies_from s time requests))
  answers : answers_to s time requests ≡ to_answer (timestamps_of s.table) s.table requests (replies_from s time requests)
  calls : calls_of (executions s time requests) ≡ calls_from s requests
  replies : replies_of (executions s time requests) ≡ replies_from s time requests

-- the same behind a first request, by its class and the timestamps behind it
abbrev replies_by : Class → Timestamps → Standing → Time → Request → List (Signed Request) → List (List ℕ)
replies_by class next s time request rest = replies_to s.inodes s.ordinal time (call_as class request ++ new_calls next rest)

record AgreesBy (class : Class) (next : Timestamps) (s : Standing) (time : Time) (request : Request) (rest : List (Signed Request)) : Type 0 where
  inodes : (standing_after (standing_as class s time request) time rest).inodes ≡ inodes_after s.inodes s.ordinal time (call_as class request ++ new_calls next rest)
  ordinal : (standing_after (standing_as class s time request) time rest).ordinal ≡ ordinal_after s.ordinal (length (call_as class request ++ new_calls next rest))
  table : (standing_after (standing_as class s time request) time rest).table
      ≡ recorded_all s.table (to_record_as class request (replies_by class next s time request rest) ++ to_record next rest (left_as class (replies_by class next s time request rest)))
  answers : answers_as class s time request ++ answers_to (standing_as class s time request) time rest
      ≡ to_answer_as class s.table request (replies_by class next s time request rest)
      ++ to_answer next (recorded_all s.table (to_record_as class request (replies_by class next s time request rest))) rest (left_as class (replies_by class next s time request rest))
  calls : calls_of (execution_as class s time request ++ executions (standing_as class s time request) time rest) ≡ call_as class request ++ new_calls next rest
  replies : replies_of (execution_as class s time request ++ executions (standing_as class s time request) time rest) ≡ replies_by class next s time request rest

step : (class : Class) (s : Standing) (time : Time) (request : Request) (rest : List (Signed Request)) → Agrees (standing_as class s time request) time rest
    → AgreesBy class (taken_as class (timestamps_of s.table) request.client request.timestamp) s time request rest
step New s time request rest later =
    subst (λ next. AgreesBy New next s time request rest) (timestamps_recorded s.table request.client request.timestamp (executed s time request).1) (record {
      inodes = later.inodes;
      ordinal = later.ordinal ∙ (let count = length (calls_from (standing_as New s time request) rest) in omega arith);
      table = later.table;
      answers = ap (λ more. answer_to request (executed s time request).1 ∷ more) later.answers;
      calls = ap (λ more. request.call ∷ more) later.calls;
      replies = ap (λ more. (executed s time request).1 ∷ more) later.replies;
    })
step Repeat s time request rest later = record { inodes = later.inodes; ordinal = later.ordinal; table = later.table; answers = ap (λ more. answers_as Repeat s time request ++ more) later.answers; calls = later.calls; replies = later.replies }
step Old s time request rest later = record { inodes = later.inodes; ordinal = later.ordinal; table = later.table; answers = later.answers; calls = later.calls; replies = later.replies }
step Unknown s time request rest later = record { inodes = later.inodes; ordinal = later.ordinal; table = later.table; answers = later.answers; calls = later.calls; replies = later.replies }

ordinal_stays : (class : Class) (s : Standing) (time : Time) (request : Request) → s.ordinal ≤ spent_ordinal → (standing_as class s time request).ordinal ≤ spent_ordinal
ordinal_stays New s time request most = omega arith
ordinal_stays Repeat s time request most = most
ordinal_stays Old s time request most = most
ordinal_stays Unknown s time request most = most

agree : (s : Standing) (time : Time) (requests : List (Signed Request)) → s.ordinal ≤ spent_ordinal → Agrees s time requests
agree s time [] most = record { inodes = refl; ordinal = omega arith; table = refl; answers = refl; calls = refl; replies = refl }
agree s time (signed ∷ rest) most =
    let class = class_at s signed.message in
    let by = step class s time signed.message rest (agree (standing_as class s time signed.message) time rest (ordinal_stays class s time signed.message most)) in
    record { inodes = by.inodes; ordinal = by.ordinal; table = by.table; answers = by.answers; calls = by.calls; replies = by.replies }

pub come_to_the_outcome : TwoPassesComeToTheOutcome
unfolding outcome execute
come_to_the_outcome files table requests most =
    let time = effective_time files.last_time requests.time in
    let done = agree (at_start files table) time requests.requests most in
    (ap₂ (λ inodes ordinal. record { tree = inodes; next_ordinal = ordinal; last_time = time }) done.inodes done.ordinal, done.table, done.answers)

-- of the new requests the gate has run what it has run of their batch
ran_new : (ran : ℕ → List ℕ → Type 0) (files : FileSystem) (table : Table) (requests : Requests) → files.next_ordinal ≤ spent_ordinal
    → AllRan ran 0 (new_calls (timestamps_of table) requests.requests) (execute files (new_batch table requests.time requests.requests)).1 → RanNew ran files table (Some requests)
unfolding RanNew execute
ran_new ran files table requests most all =
    let done = agree (at_start files table) (effective_time files.last_time requests.time) requests.requests most in
    rw (done.calls, done.replies) all

-- what the code leaves of a batch that is not the null request, and what the gate has run of it where there is an engine
pub comes_to : (ran : ℕ → List ℕ → Type 0) (HasEngine : Type 0) (old new : Option FileSystem) (table : Table) (batch : Batch) (time : Time) (requests : List (Signed Request)) (replies : List (List ℕ)) (recorded answered : List Answer) (is_live : Bool)
    → is_live ≡ is_some old → (IsTrue is_live → ForSome old IsLive) → option_map (λ requests. requests.time) batch ≡ Some time → requests ≡ requests_of batch
    → Executed old (new_batch table time requests) new replies → (HasEngine → AllRan ran 0 (new_calls (timestamps_of table) requests) replies)
    → recorded ≡ to_record (timestamps_of table) requests replies → answered ≡ to_answer (timestamps_of table) table requests replies
    → ComesTo old table batch new recorded answered × (HasEngine → ForSome old (λ live. RanNew ran live table batch))
comes_to ran HasEngine old new table None time requests replies recorded answered is_live is live timed same done all_ran are_recorded are_answered = absurd cc
comes_to ran HasEngine None new table (Some whole) time requests replies recorded answered is_live is live timed same done all_ran are_recorded are_answered = absurd done
comes_to ran HasEngine (Some files) new table (Some whole) time requests replies recorded answered is_live is live timed same done all_ran are_recorded are_answered =
    let then : time ≡ whole.time = cc in
    let executed : Executed (Some files) (new_batch table whole.time whole.requests) new replies = subst (λ t. Executed (Some files) (new_batch table t whole.requests) new replies) then (subst (λ all. Executed (Some files) (new_batch table time all) new replies) same done) in
    let most = (live is files refl).formed.ordinal.1 in
    let law = come_to_the_outcome files table whole most in (
      (
        executed.0 ∙ ap Some (sym law.0),
        ap (recorded_all table) (are_recorded ∙ ap₂ (to_record (timestamps_of table)) same executed.1) ∙ sym law.1,
        are_answered ∙ ap₂ (to_answer (timestamps_of table) table) same executed.1 ∙ sym law.2,
      ),
      λ engine. some_has files (ran_new ran files table whole most (rw (same, executed.1) at (all_ran engine))),
    )
  where
    some_has : (x : FileSystem) → RanNew ran x table (Some whole) → ForSome (Some x) (λ live. RanNew ran live table (Some whole))
    some_has x has = λ y is. subst (λ live. RanNew ran live table (Some whole)) (let same : x ≡ y = cc in same) has
