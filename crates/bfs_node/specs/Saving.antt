-- A replica as bytes, by which it outlives a crash: what is saved of it, and when it is read again.
use Rattle.std.specs.Prelude.{◌≡◌, ℕ, List, length, map, Result, Ok, Err}
use Rattle.std.specs.List.{AllByRecursion}
use Rattle.std.specs.Option.{ForSome}
use Rattle.bfs_model.specs.Server.Stored.{IsLive}
use Rattle.bfs_auth.specs.Keys.{Keys}
use Rattle.bfs_auth.specs.Principals.{number_of}
use Rattle.bfs_checkpoints.specs.Keeping.{Kept}
use Rattle.bfs_checkpoints.specs.Snapshots.{IsTaken}
use Rattle.bfs_checkpoints.specs.States.{state_text}
use Rattle.bfs_digest.specs.declared.errors.RestoreError.{RestoreError}
use Rattle.bfs_digest.specs.declared.errors.RestoreError.TheVariants as restore
use Rattle.bfs_log.specs.Certificates.{faults}
use Rattle.bfs_replies.specs.Tables.{IsKept}
use Rattle.bfs_saving.specs.Saved.{FitsSaved, Saved, SavedState, saved_text}
use Rattle.bfs_saving.specs.declared.error.SavedError.{SavedError}
use Rattle.bfs_saving.specs.declared.error.SavedError.TheVariants as error
use Rattle.bfs_node.specs.Nodes.{Node}

abbrev pub saved_snapshot : Kept → SavedState
saved_snapshot kept = record { number = kept.number; text = kept.snapshot.text }

-- all but its keys: snapshots and what it is now by the texts of their states
abbrev pub saved : Node → Saved
saved node = record {
  clients = length node.table;
  order = node.order;
  pending = node.pending;
  changes = node.changes;
  new_view = node.new_view;
  stable = node.snapshots.stable;
  states = map saved_snapshot node.snapshots.kept;
  own = state_text node.files node.table;
}

abbrev pub text_of : Node → List ℕ
text_of node = saved_text (saved node)

abbrev pub AreTaken : List Kept → Type 0
AreTaken kept = AllByRecursion (λ one. IsTaken one.snapshot) kept

-- what holds of every replica that is saved
pub record IsSavable (node : Node) : Type 0 where
  pub fits : FitsSaved node.keys node.order.f node.order.me (saved node)
  pub faults_are : node.snapshots.f ≡ node.order.f
  pub taken : AreTaken node.snapshots.kept
  pub live : ForSome node.files IsLive
  pub kept : IsKept node.table

-- a replica that holds these keys, has its number by them, and tolerates as many faults as they tell
pub record IsOf (keys : Keys) (node : Node) : Type 0 where
  pub keys_are : node.keys ≡ keys
  pub faults_are : node.order.f ≡ faults keys
  pub number_is : node.order.me ≡ number_of keys.me

-- a state that can't be read is a fault of the text
abbrev pub of_state : RestoreError → (why : SavedError) → SavedError
of_state restore.Malformed why = why
of_state restore.WrongVersion why = why
of_state restore.NotWellFormed why = why
of_state restore.Memory why = error.Memory

-- it was read, or memory ran out
abbrev pub IsKeptReadAs : Kept → Result Kept RestoreError → Type 0
IsKeptReadAs kept (Ok read) = read ≡ kept
IsKeptReadAs kept (Err e) = e ≡ restore.Memory

abbrev pub IsReadAs : Node → Result Node RestoreError → Type 0
IsReadAs node (Ok read) = read ≡ node
IsReadAs node (Err e) = e ≡ restore.Memory
