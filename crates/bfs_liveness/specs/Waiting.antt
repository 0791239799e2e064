-- Requests that wait at a node, until it executes a batch in which they stand (OSDI 1999 section 4.2).
use Rattle.std.specs.Prelude.{◌≡◌, ◌⊎◌, ℕ, Bool, true, false, List}
use Rattle.bfs_messages.specs.Messages as model
use Rattle.bfs_messages.specs.Messages.{Batch}
use Rattle.bfs_messages.specs.declared.signed.Signed.{Signed}
use Rattle.bfs_pending.specs.Requests.{is_among}
use Rattle.bfs_agreement.specs.Histories.{IsIn}
use Rattle.bfs_nodes_agree.specs.Nodes.Laws.{Executed}
use Rattle.bfs_nodes_agree.specs.Nodes.Replicas.{NodeReplica, NodeReplicas, NodeTurn, after_node_turns}
use Rattle.bfs_nodes_agree.specs.Nodes.Steps.{NodeStep, ForgetsAnswered, ForgetsProposed}

-- it has executed a batch in which the request stands, or one of the same client and timestamp
pub record HasServed (r : NodeReplica) (one : Signed model.Request) : Type 0 where
  pub number : ℕ
  pub batch : Batch
  pub executed : Executed r number batch
  pub stands : is_among batch one ≡ true

-- each request that waited at it waits there still, or was so executed
abbrev pub KeepsWaiting : (r now : NodeReplica) → Type 0
KeepsWaiting r now = (one : Signed model.Request) → IsIn one r.node.pending → IsIn one now.node.pending ⊎ HasServed now one

-- the host has a node forget requests
abbrev pub forgets : NodeStep → Bool
forgets ForgetsAnswered = true
forgets ForgetsProposed = true
forgets _ = false

-- whatever comes, from whomever, a node loses no request but by executing it, or where its host has it forget some
abbrev pub WhatWaitsStays : Type 0
WhatWaitsStays = (w : NodeReplicas) (turns : List NodeTurn) (k : ℕ) → ((turn : NodeTurn) → IsIn turn turns → turn.who ≡ k → forgets turn.step ≡ false)
    → KeepsWaiting (w k) (after_node_turns w turns k)
