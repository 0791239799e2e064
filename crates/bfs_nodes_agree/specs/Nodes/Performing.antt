-- A call that the code makes, and the step that it is by definition.
use Rattle.std.specs.Prelude.{◌≡◌, ◌≢◌, ℕ, List, [], ◌∷◌, length, Result, Ok, Err}
use Rattle.bfs_model.specs.Server.Tree.{FileSystem}
use Rattle.bfs_checkpoints.specs.Texts.{SpellsNode}
use Rattle.bfs_log.specs.Certificates.{StableCheckpoint}
use Rattle.bfs_replies.specs.Tables.{Table}
use Rattle.bfs_node.specs.Delivering.{SomeCame}
use Rattle.bfs_node.specs.Nodes.{Messages, Node}
use Rattle.bfs_node.specs.declared.error.NodeError.{NodeError}
use Rattle.bfs_node.specs.declared.error.NodeError.TheVariants.{Memory}
use Rattle.bfs_nodes_agree.specs.Nodes.Steps.{NodeStep, Delivers, Takes, TakesRequests, TakesOffered, Proposes, Executes, Fails, Checkpoints, TimesOut, LeavesFor, ForgetsAnswered, ForgetsProposed, Adopts, Settles, outcome, still}
use Rattle.bfs_nodes_agree.specs.declared.node_calls.performing.NodeCall.{NodeCall}
use Rattle.bfs_nodes_agree.specs.declared.node_calls.performing.NodeCall.TheVariants as code
use Rattle.bfs_nodes_agree.specs.declared.node_calls.performing.Sent.{Sent}
use Rattle.bfs_nodes_agree.specs.declared.node_calls.performing.Sent.TheVariants.{Nothing, One, All}

abbrev pub messages_in : Sent → Messages
messages_in Nothing = []
messages_in (One signed) = signed ∷ []
messages_in (All sent) = sent.items

-- the node is what the step's definition makes of it, and that is sent. A call that is refused is so by the definition, and changes nothing;
-- one that lacks memory leaves what is said of it
abbrev pub Does : (lacking : Node → Type 0) → Node → NodeStep → Result Sent NodeError → Node → Type 0
Does lacking node step (Ok sent) now = outcome node step ≡ record { now = now; sent = messages_in sent }
Does lacking node step (Err e) now = (e ≡ Memory → lacking now) × (e ≢ Memory → (now ≡ node) × (outcome node step ≡ still node))

-- where a lack of memory changes nothing
abbrev pub DoesOrStays : Node → NodeStep → Result Sent NodeError → Node → Type 0
DoesOrStays node step result now = Does (λ left. left ≡ node) node step result now

-- an adoption of the file system and the table that a text spells; a text that is refused may spell nothing
abbrev pub AdoptsSpelled : Node → (text : List ℕ) → (certificate : StableCheckpoint) → Result Sent NodeError → Node → Type 0
AdoptsSpelled node text certificate (Ok sent) now = (files : FileSystem) × (table : Table) × SpellsNode (length node.table) text files table
    × (outcome node (Adopts certificate files table) ≡ record { now = now; sent = messages_in sent })
AdoptsSpelled node text certificate (Err e) now = now ≡ node

-- where memory runs out, the first ones of many requests have come, and the file system fails on which a batch was executed
abbrev pub Performs : Node → NodeCall → Result Sent NodeError → Node → Type 0
Performs node (code.Deliver bytes) result now = DoesOrStays node (Delivers bytes.now) result now
Performs node (code.Take signed) result now = DoesOrStays node (Takes signed) result now
Performs node (code.TakeRequests messages) result now = Does (SomeCame node messages.now) node (TakesRequests messages.now) result now
Performs node (code.TakeRequestsFor time messages) result now = Does (SomeCame node messages.now) node (TakesRequests messages.now) result now
Performs node (code.Offer request) result now = DoesOrStays node (TakesOffered request) result now
Performs node (code.Propose time) result now = DoesOrStays node (Proposes time) result now
Performs node code.Execute result now = Does (λ left. left ≡ (outcome node Fails).now) node Executes result now
Performs node code.Checkpoint result now = DoesOrStays node Checkpoints result now
Performs node code.TimeOut result now = DoesOrStays node TimesOut result now
Performs node (code.LeaveFor view) result now = DoesOrStays node (LeavesFor view) result now
Performs node code.ForgetAnswered result now = DoesOrStays node ForgetsAnswered result now
Performs node code.ForgetProposed result now = DoesOrStays node ForgetsProposed result now
Performs node (code.Adopt text certificate) result now = AdoptsSpelled node text.now certificate.now result now
Performs node (code.Settle certificate) result now = DoesOrStays node (Settles certificate.now) result now
