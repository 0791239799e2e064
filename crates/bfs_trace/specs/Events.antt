-- What the events of a trace hold.
use Rattle.std.specs.Prelude.{ℕ, List}
use Rattle.bfs_model.specs.Server.Tree.{Time}

-- the client that sends a request, the client's timestamp, and the bytes of the call
pub record Request : Type 0 where
  pub client : ℕ
  pub timestamp : ℕ
  pub call : List ℕ

-- requests that are executed together, at one time
pub record Block : Type 0 where
  pub time : Time
  pub requests : List Request
