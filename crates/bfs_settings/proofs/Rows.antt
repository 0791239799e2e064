-- Documents that are written out, and the settings and keys that they say.
use Rattle.std.proofs.Common.{◌≡◌, ◌∷◌, ◌++◌, [], List, ℕ, Some, None, codes, refl}
use Rattle.std.specs.Prelude.{⊤, replicate}
use Rattle.std.specs.Str.{chars, is_utf8}
use Rattle.hex.proofs.OnLiterals.{hex_on_literals}
use Rattle.toml.proofs.OnLiterals.{toml_on_literals}
use Rattle.bfs_auth.specs.Keys.{keys_from}
use Rattle.bfs_auth.specs.declared.pairwise.Pair.{Pair}
use Rattle.bfs_auth.specs.declared.principals.Principal.TheVariants.{Replica, Client}
use Rattle.bfs_settings.specs.Document.{settings_in, settings_spelled}
use Rattle.bfs_settings.specs.KeysDocument.{keys_in, keys_spelled}
use Rattle.bfs_settings.specs.Settings.{default_settings}
use Rattle.bfs_settings.specs.Tables.{table_spelled}

-- what computes the settings that a document says
unfoldable pub settings_on_literals : ⊤
unfolding hex_on_literals toml_on_literals chars is_utf8 table_spelled settings_in settings_spelled
settings_on_literals = tt

pub row-nothing : settings_spelled [] ≡ Some default_settings
unfolding settings_on_literals
row-nothing = refl

-- both cases of digits, in any order of the keys
pub row-all_three : settings_spelled (codes "secret = \"00fF\"\nf = 10 # ten\nclients = 1024\n") ≡ Some (record { f = 10; clients = 1024; secret = 0 ∷ 255 ∷ [] })
unfolding settings_on_literals
row-all_three = refl

pub row-a_fault_too_many : settings_spelled (codes "f = 11") ≡ None
unfolding settings_on_literals
row-a_fault_too_many = refl

pub row-below_zero : settings_spelled (codes "f = -1") ≡ None
unfolding settings_on_literals
row-below_zero = refl

pub row-another_key : settings_spelled (codes "g = 1") ≡ None
unfolding settings_on_literals
row-another_key = refl

pub row-another_type : settings_spelled (codes "f = \"1\"") ≡ None
unfolding settings_on_literals
row-another_type = refl

pub row-no_client : settings_spelled (codes "clients = 0") ≡ None
unfolding settings_on_literals
row-no_client = refl

pub row-no_secret : settings_spelled (codes "secret = \"\"") ≡ None
unfolding settings_on_literals
row-no_secret = refl

pub row-half_a_byte : settings_spelled (codes "secret = \"0\"") ≡ None
unfolding settings_on_literals
row-half_a_byte = refl

pub row-twice : settings_spelled (codes "f = 1\nf = 1\n") ≡ None
unfolding settings_on_literals
row-twice = refl

-- what computes the keys that a document says
unfoldable pub keys_on_literals : ⊤
unfolding hex_on_literals toml_on_literals chars is_utf8 table_spelled keys_in keys_spelled
keys_on_literals = tt

abbrev pair : Pair
pair = record { sending = replicate 32 1; receiving = replicate 32 255 }

abbrev spelled_pair : List ℕ
spelled_pair = codes "{ sending = \"0101010101010101010101010101010101010101010101010101010101010101\", receiving = 'fFfFfFfFfFfFfFfFfFfFfFfFfFfFfFfFfFfFfFfFfFfFfFfFfFfFfFfFfFfFfFfF' }"

-- with itself
abbrev own_pair : Pair
own_pair = record { sending = replicate 32 1; receiving = replicate 32 1 }

abbrev spelled_own_pair : List ℕ
spelled_own_pair = codes "{ sending = \"0101010101010101010101010101010101010101010101010101010101010101\", receiving = '0101010101010101010101010101010101010101010101010101010101010101' }"

pub row-a_replica : keys_spelled (codes "me = { replica = 0 }\nreplicas = [" ++ spelled_own_pair ++ codes "]\nclients = [" ++ spelled_pair ++ codes ", " ++ spelled_pair ++ codes "]\n")
    ≡ Some (keys_from (Replica 0) (own_pair ∷ []) (pair ∷ pair ∷ []))
unfolding keys_on_literals
row-a_replica = refl

pub row-two_keys_with_itself : keys_spelled (codes "me = { replica = 0 }\nreplicas = [" ++ spelled_pair ++ codes "]\nclients = [" ++ spelled_pair ++ codes "]\n") ≡ None
unfolding keys_on_literals
row-two_keys_with_itself = refl

pub row-a_client : keys_spelled (codes "[me]\nclient = 1023\n[[replicas]]\nreceiving = \"fFfFfFfFfFfFfFfFfFfFfFfFfFfFfFfFfFfFfFfFfFfFfFfFfFfFfFfFfFfFfFfF\"\nsending = \"0101010101010101010101010101010101010101010101010101010101010101\"\n") ≡ Some (keys_from (Client 1023) (pair ∷ []) [])
unfolding keys_on_literals
row-a_client = refl

pub row-a_client_too_many : keys_spelled (codes "me = { client = 1024 }\nreplicas = [" ++ spelled_pair ++ codes "]\n") ≡ None
unfolding keys_on_literals
row-a_client_too_many = refl

pub row-two_replicas : keys_spelled (codes "me = { client = 0 }\nreplicas = [" ++ spelled_pair ++ codes ", " ++ spelled_pair ++ codes "]\n") ≡ None
unfolding keys_on_literals
row-two_replicas = refl

pub row-clients_of_a_client : keys_spelled (codes "me = { client = 0 }\nreplicas = [" ++ spelled_pair ++ codes "]\nclients = [" ++ spelled_pair ++ codes "]\n") ≡ None
unfolding keys_on_literals
row-clients_of_a_client = refl

pub row-a_replica_without_clients : keys_spelled (codes "me = { replica = 0 }\nreplicas = [" ++ spelled_pair ++ codes "]\n") ≡ None
unfolding keys_on_literals
row-a_replica_without_clients = refl
