-- The statements that are proved of the definitions: contracts of functions of src/laws.rt, which do nothing.
use Rattle.std.specs.Prelude.{◌≡◌, ℕ, Bool, List, Some}
use Rattle.sha2.specs.Sha256.{sha256}
use Rattle.bfs_log.specs.Headers.{header}
use Rattle.bfs_log.specs.Logs.{batch_in}
use Rattle.bfs_messages.specs.Messages.{Batch}
use Rattle.bfs_messages.specs.Batches.{batch_text}
use Rattle.bfs_messages.specs.declared.signed.Signed.{Signed}
use Rattle.bfs_messages.specs.declared.order_messages.OrderMessage.{OrderMessage}
use Rattle.bfs_order.specs.Replica.Proposing.{batch_digest}
use Rattle.bfs_agreement.specs.Histories.{IsIn, World, FewAreFaulty}
use Rattle.bfs_agreement.specs.Moves.{Move, AreAllowed}
use Rattle.bfs_agreement.specs.Calls.{steps_of}
use Rattle.bfs_agreement.specs.Nodes.{DontCollide, after_moves}
use Rattle.bfs_nodes_agree.specs.Orders.Following.{Follows}
use Rattle.bfs_nodes_agree.specs.Orders.Replicas.{OrderReplica, OrderDeed, after_order_deed, MayDoOrderDeed, new_order_replicas, OrderTurn, after_order_turns, MayTakeOrderTurns}

-- whatever a replica's order does is a list of moves that are allowed
abbrev pub DeedsAreMoves : Type 0
DeedsAreMoves = (faulty : ℕ → Bool) (w : World) (r : OrderReplica) (deed : OrderDeed)
    → Follows r (w r.state.me) → MayDoOrderDeed faulty w r.state deed
    → (moves : List Move) × AreAllowed r.state.f faulty w (steps_of r.state.me moves)
    × Follows (after_order_deed r deed) (after_moves r.state.f r.state.me (w r.state.me) moves)

-- over every list of calls, any two that execute a batch for a number, in whatever views, execute one digest
abbrev pub OrdersAgree : Type 0
OrdersAgree = (f : ℕ) (faulty : ℕ → Bool) (turns : List OrderTurn) → FewAreFaulty f faulty → MayTakeOrderTurns faulty (new_order_replicas f) turns
    → (i j : ℕ) (one other : Signed OrderMessage) → IsIn one (after_order_turns (new_order_replicas f) turns i).executed → IsIn other (after_order_turns (new_order_replicas f) turns j).executed
    → (header one).number ≡ (header other).number → (header one).digest ≡ (header other).digest

-- a PRE-PREPARE for a batch tells its digest
abbrev pub IsFor : Batch → Signed OrderMessage → Type 0
IsFor batch m = (batch_in m.message ≡ Some (record { number = (header m).number; batch = batch })) × ((header m).digest ≡ batch_digest batch)

-- and so one batch by its text, where no two texts of batches have one digest (FIPS 180-4)
abbrev pub OrderedBatchesAgree : Type 0
OrderedBatchesAgree = (f : ℕ) (faulty : ℕ → Bool) (turns : List OrderTurn) → FewAreFaulty f faulty → MayTakeOrderTurns faulty (new_order_replicas f) turns
    → (i j : ℕ) (one other : Signed OrderMessage) (batch batch' : Batch)
    → IsIn one (after_order_turns (new_order_replicas f) turns i).executed → IsIn other (after_order_turns (new_order_replicas f) turns j).executed
    → (header one).number ≡ (header other).number → IsFor batch one → IsFor batch' other
    → DontCollide sha256 (batch_text batch) (batch_text batch') → batch_text batch ≡ batch_text batch'
