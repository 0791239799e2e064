-- The keys that principals share: one for each direction between two.
use Rattle.std.specs.Prelude.{ℕ, List, [], ◌++◌, map, Option, None, option_and_then, slice_get}
use Rattle.std.specs.List.{range_with_len}
use Rattle.bfs_model.specs.Bytes.Items.{word}
use Rattle.lms.specs.Signers.{HssKey}
use Rattle.bfs_auth.specs.Hmac.{hmac_sha256}
use Rattle.bfs_auth.specs.Places.{place_in}
use Rattle.bfs_auth.specs.Principals.{number_of}
use Rattle.bfs_auth.specs.declared.principals.Principal.{Principal}
use Rattle.bfs_auth.specs.declared.principals.Principal.TheVariants.{Replica, Client}
use Rattle.bfs_auth.specs.declared.pairwise.Pair.{Pair}
use Rattle.bfs_auth.specs.declared.pairwise.SharedKeys.{SharedKeys}

-- of what one principal sends to another: their numbers, hashed under a secret
abbrev pub key_from_to : (secret : List ℕ) → (from to : Principal) → List ℕ
key_from_to secret from to = hmac_sha256 secret (word (number_of from) ++ word (number_of to))

-- as the first of the two holds them
abbrev pub shared_keys : (secret : List ℕ) → (me other : Principal) → SharedKeys
shared_keys secret me other = record { sending = key_from_to secret me other; receiving = key_from_to secret other me }

-- What one principal holds: the keys shared with each replica and with each client, the public keys of clients and of replicas, all by their numbers, and what it
-- signs with itself. A client that has a public key signs its requests, and a replica that has one signs what is of a place.
pub record Keys : Type 0 where
  pub me : Principal
  pub replicas : List SharedKeys
  pub clients : List SharedKeys
  pub signers : List (List ℕ)
  pub replica_signers : List (List ℕ)
  pub signer : Option HssKey

-- a client shares keys with replicas alone
abbrev pub clients_known : Principal → (clients : ℕ) → ℕ
clients_known (Replica _) clients = clients
clients_known (Client _) clients = 0

abbrev pub keys_of : (secret : List ℕ) → (me : Principal) → (replicas clients : ℕ) → Keys
keys_of secret me replicas clients = record {
  me = me;
  replicas = map (λ number. shared_keys secret me (Replica number)) (range_with_len 0 replicas);
  clients = map (λ number. shared_keys secret me (Client number)) (range_with_len 0 (clients_known me clients));
  signers = [];
  replica_signers = [];
  signer = None;
}

-- as one of the two was given them
abbrev pub shared_of : Pair → SharedKeys
shared_of pair = record { sending = pair.sending; receiving = pair.receiving }

-- given for each replica and each client, by their numbers
abbrev pub keys_from : (me : Principal) → (replicas clients : List Pair) → Keys
keys_from me replicas clients = record {
  me = me;
  replicas = map shared_of replicas;
  clients = map shared_of clients;
  signers = [];
  replica_signers = [];
  signer = None;
}

abbrev pub shared_with : Keys → Principal → Option SharedKeys
shared_with keys (Replica number) = slice_get keys.replicas number
shared_with keys (Client number) = slice_get keys.clients number

-- by which the sender has signed the text: a client signs each, a replica those that are of a place
abbrev pub public_key_of : Keys → Principal → (text : List ℕ) → Option (List ℕ)
public_key_of keys (Replica number) text = option_and_then (λ place. slice_get keys.replica_signers number) (place_in text)
public_key_of keys (Client number) text = slice_get keys.signers number
