-- What stands beside the list of requests that wait.
use Rattle.std.specs.Prelude.{◌≡◌, ℕ, ◌≤◌, Bool, is_some, List, length, Option, None, Some, IfSome, if◌then◌else◌}
use Rattle.std.specs.Option.{option_map}
use Rattle.std.specs.List.{list_any}
use Rattle.std.specs.BTreeMap.{BTreeMap, get}
use Rattle.bfs_model.specs.Server.Limits.{most_requests}
use Rattle.bfs_messages.specs.Messages.{Batch, Request, Requests}
use Rattle.bfs_messages.specs.declared.signed.Signed.{Signed}
use Rattle.bfs_pending.specs.Counts.{AreCounted}
use Rattle.bfs_pending.specs.Names.{name_cmp, name_of}
use Rattle.bfs_pending.specs.Passed.{last_same}
use Rattle.bfs_pending.specs.Requests.{is_same}
use Rattle.bfs_pending.specs.declared.names.Name.{Name}

abbrev pub Index : Type 0
Index = BTreeMap Name (Signed Request)

-- the last one of each client and timestamp
abbrev pub IsIndex : Index → List (Signed Request) → Type 0
IsIndex index waiting = (one : Signed Request) → get name_cmp index (name_of one) ≡ last_same one waiting

-- what is found of that client and timestamp once those are forgotten
abbrev pub left_of : List (Signed Request) → Signed Request → Option (Signed Request) → Option (Signed Request)
left_of forgotten one found = if list_any (is_same one) forgotten then None else found

-- one of that client and timestamp is found
abbrev pub is_found : Index → Signed Request → Bool
is_found index one = is_some (get name_cmp index (name_of one))

pub record IsIndexed (waiting : List (Signed Request)) (index : Index) (counts : BTreeMap ℕ ℕ) : Type 0 where
  pub few : length waiting ≤ most_requests
  pub lasts : IsIndex index waiting
  pub counts_are : AreCounted counts waiting

-- the batch that is kept, if one is, has all that wait
abbrev pub AreHashed : (waiting : List (Signed Request)) → Option Batch → Type 0
AreHashed waiting kept = IfSome kept (λ batch. option_map (λ (requests : Requests). requests.requests) batch ≡ Some waiting)
