-- How a replica's keys are those that a cluster's document says.
use Rattle.std.specs.Prelude.{◌≡◌, Bool, true, false, map, slice_get, Option, Some, None, bytes_eq}
use Rattle.lms.specs.Levels.{hss_public_key_bytes}
use Rattle.lms.specs.Signers.{HssKey, hss_public_key}
use Rattle.bfs_auth.specs.Keys.{Keys}
use Rattle.bfs_auth.specs.declared.principals.Principal.{Principal}
use Rattle.bfs_auth.specs.declared.principals.Principal.TheVariants.{Replica, Client}
use Rattle.lms.specs.declared.hss.HssPublicKey.{HssPublicKey}
use Rattle.bfs_deployment.specs.Deployment.{Deployment}

-- the public keys that they know are those by which the cluster's clients and replicas sign
abbrev pub KnowSigners : Deployment → Keys → Type 0
KnowSigners deployment keys =
    (keys.signers ≡ map hss_public_key_bytes deployment.signers) × (keys.replica_signers ≡ map hss_public_key_bytes deployment.replica_signers)

-- the public key by which a replica signs; none where replicas don't
abbrev pub public_key_said : Deployment → Principal → Option HssPublicKey
public_key_said deployment (Replica number) = slice_get deployment.replica_signers number
public_key_said deployment (Client number) = None

-- a private key has that public key, by its bytes; or there is neither
abbrev pub is_key_of : Option HssKey → Option HssPublicKey → Bool
is_key_of (Some key) (Some public_key) = bytes_eq (hss_public_key_bytes (hss_public_key key)) (hss_public_key_bytes public_key)
is_key_of None None = true
is_key_of (Some key) None = false
is_key_of None (Some public_key) = false

-- they know these, and sign with the key whose public key is their owner's
abbrev pub AreOfCluster : Deployment → Keys → Type 0
AreOfCluster deployment keys = KnowSigners deployment keys × (is_key_of keys.signer (public_key_said deployment keys.me) ≡ true)
