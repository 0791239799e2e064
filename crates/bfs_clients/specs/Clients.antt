-- The clients of a run, and how each signs its requests.
use Rattle.std.specs.Prelude.{ℕ, List, map, slice_get, Option}
use Rattle.std.specs.List.{range_with_len}
use Rattle.std.specs.Option.{option_map}
use Rattle.bfs_auth.specs.Keys.{Keys, keys_of}
use Rattle.bfs_auth.specs.declared.principals.Principal.TheVariants.{Client}
use Rattle.bfs_messages.specs.Messages as model
use Rattle.bfs_messages.specs.Signing.{signed_by}
use Rattle.bfs_messages.specs.declared.message.Message.{Message}
use Rattle.bfs_messages.specs.declared.message.Message.TheVariants.{Request}
use Rattle.bfs_messages.specs.declared.signed.Signed.{Signed}
use Rattle.bfs_settings.specs.Settings.{Settings, replicas_for}

pub record Clients : Type 0 where
  -- at most so many replicas are faulty
  pub f : ℕ
  -- what each client holds, by their numbers: the keys that it shares with the replicas
  pub keys : List Keys

abbrev pub keys_of_client : Settings → (client : ℕ) → Keys
keys_of_client settings client = keys_of settings.secret (Client client) (replicas_for settings.f) settings.clients

abbrev pub clients_of : Settings → Clients
clients_of settings = record { f = settings.f; keys = map (keys_of_client settings) (range_with_len 0 settings.clients) }

abbrev pub keys_at : Clients → (client : ℕ) → Option Keys
keys_at clients client = slice_get clients.keys client

-- a request as its client sends it, if there is such a client
abbrev pub signed_request : Clients → model.Request → Option (Signed Message)
signed_request clients request = option_map (λ keys. signed_by keys (Request request)) (keys_at clients request.client)
