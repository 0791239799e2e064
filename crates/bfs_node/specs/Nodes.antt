-- A replica, as its parts and what goes between them (OSDI 1999 section 4).
use Rattle.std.specs.Prelude.{◌≡◌, ℕ, List, [], length, replicate, Option, Some, None}
use Rattle.bfs_model.specs.Server.Tree.{FileSystem, new_file_system}
use Rattle.bfs_model.specs.Server.Stored.{IsLive}
use Rattle.bfs_auth.specs.Keys.{Keys, keys_of}
use Rattle.bfs_auth.specs.declared.principals.Principal.TheVariants.{Replica}
use Rattle.bfs_auth.specs.Principals.{number_of}
use Rattle.bfs_checkpoints.specs.Keeping.{Keeping, nothing_kept}
use Rattle.bfs_checkpoints.specs.Texts.{SpellsNode}
use Rattle.bfs_messages.specs.Messages.{NewView, Request}
use Rattle.bfs_messages.specs.declared.message.Message.{Message}
use Rattle.bfs_messages.specs.declared.signed.Signed.{Signed}
use Rattle.bfs_order.specs.Replica.States.{State, fresh}
use Rattle.bfs_replies.specs.Tables.{Table}
use Rattle.bfs_settings.specs.Settings.{Settings, replicas_for}
use Rattle.bfs_log.specs.Certificates.{faults}
use Rattle.bfs_view_change.specs.Changes.Keeping as views

pub record Node : Type 0 where
  pub keys : Keys
  -- the order of batches
  pub order : State
  -- none where it has failed
  pub files : Option FileSystem
  -- the last reply to each client
  pub table : Table
  -- requests that wait to be ordered, in the order in which they came
  pub pending : List (Signed Request)
  -- VIEW-CHANGEs for views that were not entered yet
  pub changes : views.Kept
  pub snapshots : Keeping
  -- the NEW-VIEW by which it has entered its view; none in view 0
  pub new_view : Option (Signed NewView)

-- the replica of that number among 3f + 1, with these keys, which begins with a file system and the last replies as of number 0
abbrev pub node_with : (f me : ℕ) → Keys → FileSystem → Table → Node
node_with f me keys files table = record {
  keys = keys;
  order = fresh f me;
  files = Some files;
  table = table;
  pending = [];
  changes = views.nothing_kept f;
  snapshots = nothing_kept f;
  new_view = None;
}

-- as its keys tell
abbrev pub beginning_with : Keys → FileSystem → Table → Node
beginning_with keys files table = node_with (faults keys) (number_of keys.me) keys files table

-- it has done nothing, and nor have those before it
abbrev pub new_node : Keys → Node
new_node keys = beginning_with keys new_file_system (replicate (length keys.clients) None)

-- of a replica of a run with these settings
abbrev pub keys_of_replica : Settings → (me : ℕ) → Keys
keys_of_replica settings me = keys_of settings.secret (Replica me) (replicas_for settings.f) settings.clients

-- it begins with what the text of a replica's state spells
pub record BeginsWith (keys : Keys) (text : List ℕ) (node : Node) : Type 0 where
  pub files : FileSystem
  pub table : Table
  pub spells : SpellsNode (length keys.clients) text files table
  pub live : IsLive files
  pub node_is : node ≡ beginning_with keys files table

-- what is sent and comes
abbrev pub Messages : Type 0
Messages = List (Signed Message)

-- what a call leaves, and what is to be sent
pub record Outcome : Type 0 where
  pub now : Node
  pub sent : Messages
