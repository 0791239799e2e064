-- What a replica does in one go: calls of its node, which are steps of which agreement is proved.
use Rattle.std.specs.Prelude.{◌≡◌, List, ◌++◌, fold}
use Rattle.bfs_model.specs.Server.Tree.{FileSystem, Time}
use Rattle.bfs_agreement.specs.Histories.{IsIn}
use Rattle.bfs_log.specs.Certificates.{StableCheckpoint}
use Rattle.bfs_replies.specs.Tables.{Table}
use Rattle.bfs_node.specs.Nodes.{Messages, Node}
use Rattle.bfs_nodes_agree.specs.Nodes.Steps.{NodeStep, Delivers, Takes, TakesRequests, TakesOffered, Proposes, Executes, Checkpoints, TimesOut, LeavesFor, ForgetsAnswered, ForgetsProposed, Adopts, Settles, outcome}
use Rattle.bfs_nodes_agree.specs.declared.node_calls.performing.NodeCall.{NodeCall}
use Rattle.bfs_nodes_agree.specs.declared.node_calls.performing.NodeCall.TheVariants as code

-- a node, and what its calls gave to be sent and nobody was told yet
pub record Acting : Type 0 where
  pub node : Node
  pub sent : Messages

abbrev pub after_step : Acting → NodeStep → Acting
after_step acting step = record { node = (outcome acting.node step).now; sent = acting.sent ++ (outcome acting.node step).sent }

-- one step after another
abbrev pub after_steps : Acting → List NodeStep → Acting
after_steps acting steps = fold after_step acting steps

-- it went on by steps of that sort, and nothing else
pub record GoesOn (P : NodeStep → Type 0) (before after : Acting) : Type 0 where
  pub steps : List NodeStep
  pub each : (step : NodeStep) → IsIn step steps → P step
  pub after_is : after ≡ after_steps before steps

-- an adoption by that certificate, whatever the text spells
abbrev pub IsAdoption : StableCheckpoint → NodeStep → Type 0
IsAdoption certificate step = (files : FileSystem) × (table : Table) × (step ≡ Adopts certificate files table)

-- a call that isn't refused for want of memory is the step, which changes nothing where it is refused
abbrev pub IsAfter : NodeCall → Acting → Acting → Type 0
IsAfter (code.Deliver bytes) before after = after ≡ after_step before (Delivers bytes.now)
IsAfter (code.Take signed) before after = after ≡ after_step before (Takes signed)
IsAfter (code.TakeRequests messages) before after = after ≡ after_step before (TakesRequests messages.now)
IsAfter (code.TakeRequestsFor time messages) before after = after ≡ after_step before (TakesRequests messages.now)
IsAfter (code.Offer request) before after = after ≡ after_step before (TakesOffered request)
IsAfter (code.Propose time) before after = after ≡ after_step before (Proposes time)
IsAfter code.Execute before after = after ≡ after_step before Executes
IsAfter code.Checkpoint before after = after ≡ after_step before Checkpoints
IsAfter code.TimeOut before after = after ≡ after_step before TimesOut
IsAfter (code.LeaveFor view) before after = after ≡ after_step before (LeavesFor view)
IsAfter code.ForgetAnswered before after = after ≡ after_step before ForgetsAnswered
IsAfter code.ForgetProposed before after = after ≡ after_step before ForgetsProposed
IsAfter (code.Adopt text certificate) before after = GoesOn (IsAdoption certificate.now) before after
IsAfter (code.Settle certificate) before after = after ≡ after_step before (Settles certificate.now)

-- REQUESTs are taken
abbrev pub IsTaking : NodeStep → Type 0
IsTaking (TakesRequests messages) = Unit {0}
IsTaking (TakesOffered request) = Unit {0}
IsTaking _ = ⊥

-- what a replica does of itself at a time: it executes a batch, makes a checkpoint, proposes at that time, times out, leaves for a view, forgets
-- requests, adopts a state, or settles a checkpoint
abbrev pub IsOwn : Time → NodeStep → Type 0
IsOwn time (Proposes t) = t ≡ time
IsOwn time Executes = Unit {0}
IsOwn time Checkpoints = Unit {0}
IsOwn time TimesOut = Unit {0}
IsOwn time (LeavesFor view) = Unit {0}
IsOwn time ForgetsAnswered = Unit {0}
IsOwn time ForgetsProposed = Unit {0}
IsOwn time (Adopts certificate files table) = Unit {0}
IsOwn time (Settles certificate) = Unit {0}
IsOwn time _ = ⊥

-- a call by which it does so
abbrev pub IsOwnCall : Time → NodeCall → Type 0
IsOwnCall time (code.Propose t) = t ≡ time
IsOwnCall time code.Execute = Unit {0}
IsOwnCall time code.Checkpoint = Unit {0}
IsOwnCall time code.TimeOut = Unit {0}
IsOwnCall time (code.LeaveFor view) = Unit {0}
IsOwnCall time code.ForgetAnswered = Unit {0}
IsOwnCall time code.ForgetProposed = Unit {0}
IsOwnCall time (code.Adopt text certificate) = Unit {0}
IsOwnCall time (code.Settle certificate) = Unit {0}
IsOwnCall time _ = ⊥
