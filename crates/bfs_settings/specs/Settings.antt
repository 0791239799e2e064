-- The settings of a run, and how far each may go.
use Rattle.std.specs.Prelude.{ℕ, ◌+◌, ◌*◌, ◌&&◌, Bool, List, length, replicate, Option, Some, None, nat_le, if◌then◌else◌}
use Rattle.bfs_model.specs.Server.Limits.{most_clients, most_faults}

-- how many faults are tolerated, how many clients there are, and the secret from which keys are derived
pub record Settings : Type 0 where
  pub f : ℕ
  pub clients : ℕ
  pub secret : List ℕ

abbrev pub most_secret_bytes : ℕ
most_secret_bytes = 64

abbrev pub is_between : (least most number : ℕ) → Bool
is_between least most number = nat_le least number && nat_le number most

-- there is a client and a byte of the secret, and there is no more of anything than there may be
abbrev pub are_settings : (f clients : ℕ) → (secret : List ℕ) → Bool
are_settings f clients secret =
    nat_le f most_faults && is_between 1 most_clients clients && is_between 1 most_secret_bytes (length secret)

abbrev pub settings_of : (f clients : ℕ) → (secret : List ℕ) → Option Settings
settings_of f clients secret =
    if are_settings f clients secret then Some (record { f = f; clients = clients; secret = secret }) else None

-- one replica that tolerates no fault, 16 clients, and a secret of 32 zeros
abbrev pub default_settings : Settings
default_settings = record { f = 0; clients = 16; secret = replicate 32 0 }

-- the replicas that tolerate so many faults (OSDI 1999 section 3)
abbrev pub replicas_for : (f : ℕ) → ℕ
replicas_for f = 3 * f + 1
