-- A deployment, and how far each part of it goes.
use Rattle.std.specs.Prelude.{◌≡◌, ℕ, ◌<◌, ◌≤◌, List, Option}
use Rattle.lms.specs.declared.hss.HssPublicKey.{HssPublicKey}
use Rattle.bfs_frames.specs.declared.limits.Limits.{Limits}
use Rattle.bfs_model.specs.Server.Limits.{most_clients, most_faults}
use Rattle.bfs_settings.specs.Settings.{replicas_for}
use Rattle.bfs_deployment.specs.Limits.{AreRoomy}

-- addresses are texts; the patience is in milliseconds; a signer is a public key, of a client or of a replica
pub record Deployment : Type 0 where
  pub f : ℕ
  pub clients : ℕ
  pub replicas : List (List ℕ)
  pub relay : List ℕ
  pub portmap : Option (List ℕ)
  pub patience : ℕ
  pub signers : List HssPublicKey
  pub replica_signers : List HssPublicKey
  pub limits : Limits

abbrev pub default_patience : ℕ
default_patience = 2000

abbrev pub most_patience : ℕ
most_patience = 60000

-- one signer for each of so many, or none at all
abbrev pub OneEach : (count signers : ℕ) → Type 0
OneEach count signers = 0 < signers → signers ≡ count

pub record IsDeployment (f clients replicas patience signers replica_signers : ℕ) (limits : Limits) : Type 0 where
  pub faults : f ≤ most_faults
  pub some_clients : 1 ≤ clients
  pub clients_within : clients ≤ most_clients
  pub count : replicas ≡ replicas_for f
  pub some_patience : 1 ≤ patience
  pub patience_within : patience ≤ most_patience
  pub clients_signed : OneEach clients signers
  pub replicas_signed : OneEach replicas replica_signers
  pub roomy : AreRoomy limits
