-- One server, and what it does by batches: requests that take effect one after another, each at a time, and the reply that each is given.
use Rattle.std.specs.Prelude.{◌≡◌, ℕ, ◌<◌, ◌≤◌, List, [], ◌∷◌, ◌++◌, Some, None, ◌⊎◌}
use Rattle.bfs_model.specs.Server.Tree.{Time, Inodes, FileSystem}
use Rattle.bfs_model.specs.Server.Serial.{answer, effective_time, ordinal_after}
use Rattle.bfs_messages.specs.Messages.{Request, Batch}
use Rattle.bfs_messages.specs.declared.signed.Signed.{Signed}
use Rattle.bfs_replies.specs.Tables.{Table}
use Rattle.bfs_replies.specs.declared.tables.Class.{Class}
use Rattle.bfs_replies.specs.declared.tables.Class.TheVariants.{New, Repeat, Old, Unknown}
use Rattle.bfs_outcome.specs.Outcome.{Standing, at_start, class_at, executed, outcome, stands}
use Rattle.bfs_agreement.specs.Histories.{IsIn}

-- One server ----------------------------------------------------------------------------------------------------------------

-- a request that takes effect, at a time, and the reply to it
pub record Effect : Type 0 where
  pub request : Request
  pub time : Time
  pub reply : List ℕ

-- one server with these inodes, whose next ordinal that is, gives just these replies, one after another
abbrev pub Serves : Inodes → (ordinal : ℕ) → List Effect → Type 0
Serves inodes ordinal [] = Unit {0}
Serves inodes ordinal (e ∷ more) =
    (e.reply ≡ (answer inodes ordinal e.time e.request.call).1) × Serves (answer inodes ordinal e.time e.request.call).0 (ordinal_after ordinal 1) more

-- the one is no later than the other
abbrev pub IsBy : Time → Time → Type 0
IsBy one other = (one.seconds < other.seconds) ⊎ ((one.seconds ≡ other.seconds) × (one.useconds ≤ other.useconds))

-- each is no earlier than the one before it, and the first than that time
abbrev pub AreTimely : Time → List Effect → Type 0
AreTimely last [] = Unit {0}
AreTimely last (e ∷ more) = IsBy last e.time × AreTimely e.time more

-- each client's timestamps rise: so no two are of one client and timestamp
abbrev pub Rise : List Effect → Type 0
Rise [] = Unit {0}
Rise (e ∷ more) = ((later : Effect) → IsIn later more → later.request.client ≡ e.request.client → e.request.timestamp < later.request.timestamp) × Rise more

-- it is the effect of a client's request of that timestamp, with that reply
pub record IsOf (e : Effect) (client timestamp : ℕ) (reply : List ℕ) : Type 0 where
  pub client_is : e.request.client ≡ client
  pub timestamp_is : e.request.timestamp ≡ timestamp
  pub reply_is : e.reply ≡ reply

-- the one stands before the other
abbrev pub IsBefore : Effect → Effect → List Effect → Type 0
IsBefore one other effects = (front middle back : List Effect) × (effects ≡ front ++ one ∷ (middle ++ other ∷ back))

-- What batches do --------------------------------------------------------------------------------------------------------------

-- only a new request takes effect
abbrev pub effects_as : Class → Standing → Time → Request → List Effect
effects_as New standing time request = record { request = request; time = time; reply = (executed standing time request).1 } ∷ []
effects_as Repeat standing time request = []
effects_as Old standing time request = []
effects_as Unknown standing time request = []

abbrev pub effects_to : Standing → Time → List (Signed Request) → List Effect
effects_to standing time [] = []
effects_to standing time (signed ∷ rest) = effects_as (class_at standing signed.message) standing time signed.message ++ effects_to (stands standing time signed.message) time rest

abbrev pub effects_in : FileSystem → Table → Batch → List Effect
effects_in files table None = []
effects_in files table (Some requests) = effects_to (at_start files table) (effective_time files.last_time requests.time) requests.requests

-- batches one after another
abbrev pub files_after : FileSystem → Table → List Batch → FileSystem
files_after files table [] = files
files_after files table (batch ∷ rest) = files_after (outcome files table batch).files (outcome files table batch).table rest

abbrev pub table_after : FileSystem → Table → List Batch → Table
table_after files table [] = table
table_after files table (batch ∷ rest) = table_after (outcome files table batch).files (outcome files table batch).table rest

abbrev pub effects : FileSystem → Table → List Batch → List Effect
effects files table [] = []
effects files table (batch ∷ rest) = effects_in files table batch ++ effects (outcome files table batch).files (outcome files table batch).table rest
