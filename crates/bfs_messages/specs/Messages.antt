-- The messages between replicas and clients (OSDI 1999 sections 4.1 to 4.4).
use Rattle.std.specs.Prelude.{ℕ, List, [], Option, Some, None}
use Rattle.bfs_model.specs.Server.Tree.{Time}
use Rattle.bfs_messages.specs.declared.signed.Signed.{Signed}

-- a client's number, its timestamp, and the bytes of a call
pub record Request : Type 0 where
  pub client : ℕ
  pub timestamp : ℕ
  pub call : List ℕ

-- requests to be executed one after another at a time
pub record Requests : Type 0 where
  pub time : Time
  pub requests : List (Signed Request)

-- requests, or none: the null request
abbrev pub Batch : Type 0
Batch = Option Requests

abbrev pub requests_of : Batch → List (Signed Request)
requests_of None = []
requests_of (Some batch) = batch.requests

-- what a PREPARE and a COMMIT say: the digest of the batch of a number in a view
pub record Vote : Type 0 where
  pub sender : ℕ
  pub view : ℕ
  pub number : ℕ
  pub digest : List ℕ

pub record PrePrepare : Type 0 where
  pub vote : Vote
  pub batch : Batch

-- the digest of the node after a number
pub record Checkpoint : Type 0 where
  pub sender : ℕ
  pub number : ℕ
  pub digest : List ℕ

pub record Reply : Type 0 where
  pub sender : ℕ
  pub view : ℕ
  pub client : ℕ
  pub timestamp : ℕ
  pub result : List ℕ

-- that a batch was prepared: its PRE-PREPARE, and PREPAREs that match it
pub record PreparedBatch : Type 0 where
  pub proposal : Signed PrePrepare
  pub prepares : List (Signed Vote)

-- the view asked for, the stable number and what made it stable, and what was prepared above it
pub record ViewChange : Type 0 where
  pub sender : ℕ
  pub view : ℕ
  pub stable : ℕ
  pub checkpoints : List (Signed Checkpoint)
  pub certificates : List PreparedBatch

pub record NewView : Type 0 where
  pub sender : ℕ
  pub view : ℕ
  pub changes : List (Signed ViewChange)
  pub proposals : List (Signed PrePrepare)
