-- What a call is carried out under.
use Rattle.std.specs.Prelude.{ℕ}
use Rattle.bfs_model.specs.Server.Tree.{Time}
use Rattle.bfs_model.specs.Bytes.Call.{Credential}

pub record Context : Type 0 where
  -- the number of its request, under which it makes an inode or an entry
  pub ordinal : ℕ
  -- the effective time of its batch
  pub time : Time
  -- for whom it is made
  pub caller : Credential
