-- Replicas and clients, and their numbers among all.
use Rattle.std.specs.Prelude.{ℕ, ◌+◌}
use Rattle.bfs_auth.specs.declared.principals.Principal.{Principal}
use Rattle.bfs_auth.specs.declared.principals.Principal.TheVariants.{Replica, Client}

-- the number of client 0: replicas have those below it
abbrev pub first_client : ℕ
first_client = 4096

abbrev pub number_of : Principal → ℕ
number_of (Replica number) = number
number_of (Client number) = first_client + number
