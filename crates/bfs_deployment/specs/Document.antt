-- The deployment that a document of TOML says, or the first fault.
use Rattle.std.specs.Prelude.{ℕ, ◌==◌, List, [], length, Option, Some, None, Ok, Err, option_map, if◌then◌else◌}
use Rattle.toml.specs.Data.{Data, array, Members, get_member}
use Rattle.bfs_model.specs.Bytes.Items.{◌>>=◌}
use Rattle.bfs_model.specs.Server.Limits.{most_clients, most_faults}
use Rattle.bfs_settings.specs.Settings.{replicas_for}
use Rattle.bfs_deployment.specs.Deployment.{Deployment, default_patience, most_patience}
use Rattle.bfs_deployment.specs.Keys.{document_keys, name_of}
use Rattle.bfs_deployment.specs.Limits.{limits_in}
use Rattle.bfs_deployment.specs.Signers.{signers_in}
use Rattle.bfs_frames.specs.Limits.{default_limits}
use Rattle.bfs_deployment.specs.Tables.{Reading, needed, number_at, number_in, refused_or, said_or, table_spelled, text_in, texts_in, unknown_name}
use Rattle.bfs_deployment.specs.declared.error.DeploymentError.TheVariants as error
use Rattle.bfs_deployment.specs.declared.key.Key.TheVariants.{F, Clients, Replicas, Relay, Portmap, Patience, Signers, ReplicaSigners, Limits}

-- the addresses of 3f + 1 replicas (OSDI 1999 section 3)
abbrev pub replicas_in : (f : ℕ) → Data → Reading (List (List ℕ))
replicas_in f (array values) = do
  replicas ← texts_in Replicas values
  if length replicas == replicas_for f then Ok replicas else Err (error.WrongCount Replicas (replicas_for f))
replicas_in f _ = Err (error.WrongType Replicas)

abbrev pub portmap_in : Data → Reading (Option (List ℕ))
portmap_in value = do
  portmap ← text_in Portmap value
  Ok (Some portmap)

-- whatever other keys there are
abbrev pub deployment_said : Members → Reading Deployment
deployment_said members = do
  f ← number_at F 0 most_faults members
  clients ← number_at Clients 1 most_clients members
  replicas ← needed Replicas members >>= replicas_in f
  relay ← needed Relay members >>= text_in Relay
  portmap ← said_or None portmap_in (get_member (name_of Portmap) members)
  patience ← said_or default_patience (number_in Patience 1 most_patience) (get_member (name_of Patience) members)
  signers ← said_or [] (signers_in Signers clients) (get_member (name_of Signers) members)
  replica_signers ← said_or [] (signers_in ReplicaSigners (replicas_for f)) (get_member (name_of ReplicaSigners) members)
  limits ← said_or default_limits limits_in (get_member (name_of Limits) members)
  Ok (record {
    f = f;
    clients = clients;
    replicas = replicas;
    relay = relay;
    portmap = portmap;
    patience = patience;
    signers = signers;
    replica_signers = replica_signers;
    limits = limits;
  })

unfoldable pub deployment_in : Members → Reading Deployment
deployment_in members = refused_or (option_map error.UnknownKey (unknown_name document_keys members)) (deployment_said members)

-- the deployment that a document says
unfoldable pub deployment_spelled : List ℕ → Reading Deployment
deployment_spelled document = table_spelled document >>= deployment_in
