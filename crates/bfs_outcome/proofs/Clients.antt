-- Who is answered, and of whom replies are recorded: the clients of the table.
use Rattle.std.proofs.Common.{◌≡◌, ◌∙◌, ℕ, ◌<◌, List, [], ◌∷◌, length, Option, Some, None, refl, sym, subst}
use Rattle.std.specs.List.{All, slice_get}
use Rattle.std.proofs.lemmas.List.{length-map, length-set}
use Rattle.std.proofs.lemmas.List.Elements.{All-append, All-cons, All-nil}
use Rattle.std.proofs.lemmas.Option.{slice_get_within}
use Rattle.bfs_model.specs.Server.Tree.{Time, FileSystem}
use Rattle.bfs_model.specs.Server.Serial.{effective_time}
use Rattle.bfs_messages.specs.Messages.{Request, Batch}
use Rattle.bfs_messages.specs.declared.signed.Signed.{Signed}
use Rattle.bfs_replies.specs.Answers.{Answer}
use Rattle.bfs_replies.specs.Classes.{class_of, timestamp_of, timestamps_of}
use Rattle.bfs_replies.specs.Tables.{Last, Table, last_in, last_of}
use Rattle.bfs_replies.specs.declared.tables.Class.{Class}
use Rattle.bfs_replies.specs.declared.tables.Class.TheVariants.{New, Repeat, Old, Unknown}
use Rattle.bfs_replies.proofs.Public.{new_is_known}
use Rattle.bfs_outcome.specs.Outcome.{Standing, answer_again, answer_to, answers_as, answers_to, at_start, class_at, executed, outcome, standing_after, standing_as, stands}
use Rattle.bfs_outcome.specs.Executed.{ComesTo}
use Rattle.bfs_outcome.specs.Laws.Tables.{AnswersGoToClients, ClientsStay}

-- among so many clients
abbrev IsOfClient : ℕ → Answer → Type 0
IsOfClient clients answer = answer.client < clients

-- One request --------------------------------------------------------------------------------------------------------

one_known : (clients : ℕ) (request : Request) (reply : List ℕ) → request.client < clients → All (IsOfClient clients) (answer_to request reply ∷ [])
one_known clients request reply known = All-cons (IsOfClient clients) (answer_to request reply) [] known (All-nil (IsOfClient clients))

new_known : (table : Table) (request : Request) → class_of table request.client request.timestamp ≡ New → request.client < length table
new_known table request new = subst (λ count. request.client < count) (length-map table timestamp_of) (new_is_known (timestamps_of table) request.client request.timestamp new)

last_known : (table : Table) (client : ℕ) (last : Last) → last_of table client ≡ Some last → client < length table
last_known table client last is = go (slice_get table client) refl is
  where
    go : (entry : Option (Option Last)) → slice_get table client ≡ entry → last_in entry ≡ Some last → client < length table
    go None here is = absurd cc
    go (Some found) here is = slice_get_within table client found here

again_known : (table : Table) (request : Request) (last : Option Last) → last_of table request.client ≡ last → All (IsOfClient (length table)) (answer_again request last)
again_known table request None is = All-nil (IsOfClient (length table))
again_known table request (Some last) is = one_known (length table) request last.reply (last_known table request.client last is)

as_known : (class : Class) (s : Standing) (time : Time) (request : Request) → class_at s request ≡ class → All (IsOfClient (length s.table)) (answers_as class s time request)
as_known New s time request is = one_known (length s.table) request (executed s time request).1 (new_known s.table request is)
as_known Repeat s time request is = again_known s.table request (last_of s.table request.client) refl
as_known Old s time request is = All-nil (IsOfClient (length s.table))
as_known Unknown s time request is = All-nil (IsOfClient (length s.table))

as_many_as : (class : Class) (s : Standing) (time : Time) (request : Request) → length (standing_as class s time request).table ≡ length s.table
as_many_as New s time request = length-set s.table request.client (Some (record { timestamp = request.timestamp; reply = (executed s time request).1 }))
as_many_as Repeat s time request = refl
as_many_as Old s time request = refl
as_many_as Unknown s time request = refl

-- Requests one after another -----------------------------------------------------------------------------------------

all_known : (s : Standing) (time : Time) (requests : List (Signed Request)) → All (IsOfClient (length s.table)) (answers_to s time requests)
all_known s time [] = All-nil (IsOfClient (length s.table))
all_known s time (signed ∷ rest) =
    let next = stands s time signed.message in
    let later = subst (λ count. All (IsOfClient count) (answers_to next time rest)) (as_many_as (class_at s signed.message) s time signed.message) (all_known next time rest) in
    All-append (IsOfClient (length s.table)) (answers_as (class_at s signed.message) s time signed.message) (answers_to next time rest) (as_known (class_at s signed.message) s time signed.message refl) later

as_many_after : (s : Standing) (time : Time) (requests : List (Signed Request)) → length (standing_after s time requests).table ≡ length s.table
as_many_after s time [] = refl
as_many_after s time (signed ∷ rest) = as_many_after (stands s time signed.message) time rest ∙ as_many_as (class_at s signed.message) s time signed.message

-- A batch ------------------------------------------------------------------------------------------------------------

pub answers_go_to_clients : AnswersGoToClients
unfolding outcome
answers_go_to_clients files table None = All-nil (IsOfClient (length table))
answers_go_to_clients files table (Some batch) = all_known (at_start files table) (effective_time files.last_time batch.time) batch.requests

pub clients_stay : ClientsStay
unfolding outcome
clients_stay files table None = refl
clients_stay files table (Some batch) = as_many_after (at_start files table) (effective_time files.last_time batch.time) batch.requests

pub told_to_clients : (old new : Option FileSystem) (table : Table) (batch : Batch) (to_record to_answer : List Answer) → ComesTo old table batch new to_record to_answer → All (IsOfClient (length table)) to_answer
told_to_clients None new table batch to_record to_answer done = absurd done
told_to_clients (Some live) new table batch to_record to_answer done = subst (All (IsOfClient (length table))) (sym done.2) (answers_go_to_clients live table batch)
