-- A relay of the keys that it was given: those of some clients, by whatever numbers.
use Rattle.std.specs.Prelude.{ℕ, List, [], map, fold, Option, Some, None, nat_lt, slice_set, if◌then◌else◌}
use Rattle.std.specs.List.{filter_map, range_with_len}
use Rattle.std.specs.Option.{option_map}
use Rattle.bfs_model.specs.Server.Limits.{most_clients}
use Rattle.bfs_auth.specs.Keys.{Keys, keys_from}
use Rattle.bfs_auth.specs.declared.principals.Principal.{Principal}
use Rattle.bfs_auth.specs.declared.principals.Principal.TheVariants.{Replica, Client}
use Rattle.bfs_clients.specs.Clients.{Clients}
use Rattle.bfs_clients.specs.Counters.{Counter}
use Rattle.bfs_relay.specs.Relays.{Relay}
use Rattle.bfs_relay.specs.Turns.{new_relay}

-- a client's number, if it is one that there can be; replicas are no clients
abbrev pub client_named : Principal → Option ℕ
client_named (Replica number) = None
client_named (Client number) = if nat_lt number most_clients then Some number else None

-- the client whose keys they are
abbrev pub client_of : Keys → Option ℕ
client_of keys = client_named keys.me

abbrev pub put_at : Option ℕ → Keys → List Keys → List Keys
put_at None keys all = all
put_at (Some client) keys all = slice_set all client keys

abbrev pub with_keys : List Keys → Keys → List Keys
with_keys all keys = put_at (client_of keys) keys all

-- a client whose keys weren't given shares none with anyone: it can sign nothing, and nothing is signed for it
abbrev pub no_keys : (client : ℕ) → Keys
no_keys client = keys_from (Client client) [] []

abbrev pub keyless : (count : ℕ) → List Keys
keyless count = map no_keys (range_with_len 0 count)

-- as many as there can be
unfoldable pub all_keyless : List Keys
all_keyless = keyless most_clients

abbrev pub clients_with : (f : ℕ) → List Keys → Clients
clients_with f given = record { f = f; keys = fold with_keys all_keyless given }

-- the counters of the clients whose keys were given, all from one timestamp on
abbrev pub counter_from : (next client : ℕ) → Counter
counter_from next client = record { client = client; next = next }

abbrev pub counter_for : (next : ℕ) → Keys → Option Counter
counter_for next keys = option_map (counter_from next) (client_of keys)

abbrev pub relay_of : (f : ℕ) → List Keys → (next : ℕ) → Relay
relay_of f given next = new_relay (clients_with f given) (filter_map (counter_for next) given)
