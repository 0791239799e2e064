-- The keys of a document.
use Rattle.std.specs.Prelude.{ℕ, Bool, List, [], ◌∷◌, map, bytes_eq, codes}
use Rattle.std.specs.List.{list_any}
use Rattle.bfs_frames.specs.Kinds.{all_kinds}
use Rattle.bfs_frames.specs.declared.kind.Kind.{Kind}
use Rattle.bfs_frames.specs.declared.kind.Kind.TheVariants as kind
use Rattle.bfs_deployment.specs.declared.key.Key.{Key}
use Rattle.bfs_deployment.specs.declared.key.Key.TheVariants.{F, Clients, Replicas, Relay, Portmap, Patience, Signers, ReplicaSigners, Limits, Limit}

abbrev pub limit_name : Kind → List ℕ
limit_name kind.Request = codes "request"
limit_name kind.Order = codes "order"
limit_name kind.ViewChange = codes "view_change"
limit_name kind.NewView = codes "new_view"
limit_name kind.Reply = codes "reply"
limit_name kind.Status = codes "status"
limit_name kind.AskState = codes "ask_state"
limit_name kind.State = codes "state"
limit_name kind.AskReport = codes "ask_report"
limit_name kind.Report = codes "report"
limit_name kind.Call = codes "call"
limit_name kind.Answer = codes "answer"
limit_name kind.Log = codes "log"

-- in its table
abbrev pub name_of : Key → List ℕ
name_of F = codes "f"
name_of Clients = codes "clients"
name_of Replicas = codes "replicas"
name_of Relay = codes "relay"
name_of Portmap = codes "portmap"
name_of Patience = codes "patience"
name_of Signers = codes "signers"
name_of ReplicaSigners = codes "replica_signers"
name_of Limits = codes "limits"
name_of (Limit frames) = limit_name frames

-- those of the document itself
abbrev pub document_keys : List Key
document_keys = F ∷ Clients ∷ Replicas ∷ Relay ∷ Portmap ∷ Patience ∷ Signers ∷ ReplicaSigners ∷ Limits ∷ []

-- those of its table of limits
abbrev pub limit_keys : List Key
limit_keys = map Limit all_kinds

abbrev pub is_name_of : (keys : List Key) → (name : List ℕ) → Bool
is_name_of keys name = list_any (λ key. bytes_eq (name_of key) name) keys
