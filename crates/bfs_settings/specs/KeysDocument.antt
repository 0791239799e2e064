-- The keys that a principal's private document of TOML says.
use Rattle.std.specs.Prelude.{ℕ, ◌/◌, ◌==◌, ◌&&◌, Bool, List, [], ◌∷◌, length, Option, Some, None, option_map, codes, nat_le, nat_lt, slice_get, true, bytes_eq, if◌then◌else◌}
use Rattle.std.specs.Result.{result_ok}
use Rattle.hex.specs.Hex.{decode_sized}
use Rattle.toml.specs.Data.{Data, as_array, as_str, as_table, Items, no_items, item, Members, get_member}
use Rattle.bfs_model.specs.Bytes.Call.{◌>>=◌}
use Rattle.bfs_model.specs.Server.Limits.{most_clients, most_faults}
use Rattle.bfs_auth.specs.Keys.{Keys, keys_from}
use Rattle.bfs_auth.specs.declared.pairwise.Pair.{Pair}
use Rattle.bfs_auth.specs.declared.principals.Principal.{Principal}
use Rattle.bfs_auth.specs.declared.principals.Principal.TheVariants.{Replica, Client}
use Rattle.bfs_settings.specs.Settings.{is_between, replicas_for}
use Rattle.bfs_settings.specs.Tables.{has_only, number_in, said_or, table_spelled}

-- the 32 bytes that 64 hexadecimal digits spell, in either case
abbrev pub key_in : Data → Option (List ℕ)
key_in value = do
  text ← as_str value
  result_ok (decode_sized text 32)

abbrev pub pair_said : Members → Option Pair
pair_said members = do
  sending ← get_member (codes "sending") members >>= key_in
  receiving ← get_member (codes "receiving") members >>= key_in
  Some (record { sending = sending; receiving = receiving })

-- what is shared with another principal
abbrev pub pair_in : Data → Option Pair
pair_in value = do
  members ← as_table value
  if has_only (codes "sending" ∷ codes "receiving" ∷ []) members then pair_said members else None

abbrev pub pairs_of : Items → Option (List Pair)
pairs_of no_items = Some []
pairs_of (item value more) = do
  pair ← pair_in value
  pairs ← pairs_of more
  Some (pair ∷ pairs)

abbrev pub pairs_in : Data → Option (List Pair)
pairs_in value = as_array value >>= pairs_of

-- one of the two
abbrev pub principal_said : (replica client : Option Data) → Option Principal
principal_said (Some number) None = option_map Replica (number_in number)
principal_said None (Some number) = option_map Client (number_in number)
principal_said _ _ = None

-- whose keys they are
abbrev pub me_in : Data → Option Principal
me_in value = do
  members ← as_table value
  if has_only (codes "replica" ∷ codes "client" ∷ []) members
      then principal_said (get_member (codes "replica") members) (get_member (codes "client") members)
      else None

-- so many replicas: 3f + 1, of which f may be faulty (OSDI 1999 section 3)
abbrev pub is_system : (replicas : ℕ) → Bool
is_system replicas = let f = replicas / 3 in nat_le f most_faults && (replicas == replicas_for f)

-- whose number is one of those, and who shares keys with so many clients: a replica with all that there are, a client with none
abbrev pub may_hold : (me : Principal) → (replicas clients : ℕ) → Bool
may_hold (Replica number) replicas clients = nat_lt number replicas && is_between 1 most_clients clients
may_hold (Client number) replicas clients = nat_lt number most_clients && (clients == 0)

abbrev pub is_one_key : Option Pair → Bool
is_one_key None = true
is_one_key (Some pair) = bytes_eq pair.sending pair.receiving

-- a replica sends to itself what it receives from itself: the pair with itself has one key twice
abbrev pub has_one_key_with_itself : (me : Principal) → (replicas : List Pair) → Bool
has_one_key_with_itself (Replica number) replicas = is_one_key (slice_get replicas number)
has_one_key_with_itself (Client number) replicas = true

abbrev pub keys_said : Members → Option Keys
keys_said members = do
  me ← get_member (codes "me") members >>= me_in
  replicas ← get_member (codes "replicas") members >>= pairs_in
  clients ← said_or [] pairs_in (get_member (codes "clients") members)
  if is_system (length replicas) && may_hold me (length replicas) (length clients) && has_one_key_with_itself me replicas
      then Some (keys_from me replicas clients)
      else None

-- None where there is another key
unfoldable pub keys_in : Members → Option Keys
keys_in members = if has_only (codes "me" ∷ codes "replicas" ∷ codes "clients" ∷ []) members then keys_said members else None

-- the keys that a document says
unfoldable pub keys_spelled : List ℕ → Option Keys
keys_spelled document = table_spelled document >>= keys_in
