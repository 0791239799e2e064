-- Replicas that know one another's public keys, and those of clients, and share keys for what is not signed.
use Rattle.std.specs.Prelude.{◌≡◌, ℕ, ◌<◌, ◌≤◌, Bool, true, List, length, slice_get, Some}
use Rattle.bfs_auth.specs.declared.pairwise.SharedKeys.{SharedKeys}
use Rattle.bfs_auth.specs.declared.principals.Principal.TheVariants.{Replica}
use Rattle.bfs_votes.specs.Votes.{replicas}
use Rattle.bfs_nodes_agree.specs.Nodes.Replicas.{Keyring}

-- each of 3f + 1 replicas knows the same public keys: one of each replica, and one of each client with which it shares keys
pub record KnowSigners (f : ℕ) (keys : Keyring) : Type 0 where
  pub of_replicas : List (List ℕ)
  pub of_clients : List (List ℕ)
  pub all : length of_replicas ≡ replicas f
  pub knows_replicas : (k : ℕ) → k < replicas f → (keys k).replica_signers ≡ of_replicas
  pub knows_clients : (k : ℕ) → k < replicas f → (keys k).signers ≡ of_clients
  pub each : (k : ℕ) → k < replicas f → length (keys k).clients ≤ length of_clients

-- for keyed hashes of what one replica sends to another one both have the same key
pub record SharesKey (keys : Keyring) (from to : ℕ) : Type 0 where
  pub me : (keys to).me ≡ Replica to
  pub sent : SharedKeys
  pub received : SharedKeys
  pub of_sender : slice_get (keys from).replicas to ≡ Some sent
  pub of_receiver : slice_get (keys to).replicas from ≡ Some received
  pub same : sent.sending ≡ received.receiving

abbrev pub ShareKeys : Keyring → (members : ℕ → Bool) → Type 0
ShareKeys keys members = (i j : ℕ) → members i ≡ true → members j ≡ true → SharesKey keys i j
