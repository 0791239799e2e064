-- What nodes come to by messages of words and bytes can be stored.
use Rattle.std.proofs.Common.{◌≡◌, ℕ, Bool, true, false, cond, ◌&&◌, List, [], ◌∷◌, Option, Some, None, bytes_eq, option_map, inl, inr, refl, sym, ap, subst, ◌∙◌}
use Rattle.std.specs.List.{AllByRecursion}
use Rattle.std.specs.Option.{ForSome}
use Rattle.bfs_agreement.specs.Histories.{IsIn}
use Rattle.bfs_checkpoints.specs.Keeping.{Kept}
use Rattle.bfs_checkpoints.specs.Snapshots.{IsTaken, snapshot_of}
use Rattle.bfs_checkpoints.specs.Texts.{node_digest}
use Rattle.bfs_log.specs.Batches.{Committed}
use Rattle.bfs_log.specs.Logs.{batch_in}
use Rattle.bfs_messages.specs.declared.signed.Signed.{Signed}
use Rattle.bfs_messages.specs.declared.order_messages.OrderMessage.{OrderMessage}
use Rattle.bfs_messages.specs.declared.order_messages.OrderMessage.TheVariants.{PrePrepare}
use Rattle.bfs_model.specs.Server.Stored.{IsLive}
use Rattle.bfs_model.specs.Server.Tree.{FileSystem}
use Rattle.bfs_order.specs.Laws.Calls.{CallsKeepTheReplica}
use Rattle.bfs_order.specs.Replica.Executing.{batch_of, next_committed, next_order}
use Rattle.bfs_replies.specs.Tables.{IsKept, Table}
use Rattle.bfs_node.specs.Adopting.{adopted, may_adopt}
use Rattle.bfs_node.specs.Executing.{executed_on, is_next, is_ready}
use Rattle.bfs_node.specs.Nodes.{Node, Outcome}
use Rattle.bfs_nodes_agree.specs.Orders.Replicas.{message_in}
use Rattle.bfs_nodes_agree.specs.Nodes.Replicas.{NodeReplica, NodeReplicas, NodeTurn, after_node_step, after_node_turn, after_node_turns, new_node_replicas, standing_of, standing_with}
use Rattle.bfs_nodes_agree.specs.Nodes.Steps.{NodeStep, Executes, Fails, Adopts, after_execution, outcome, still}
use Rattle.bfs_nodes_agree.proofs.Public.{AllIn, both_at, both_in, executed_in, none_in, one_in, some_is}
use Rattle.bfs_nodes_progress.specs.Living.{BatchIsOfBytes, OrderIsOfBytes, ReachedStatesCanBeStored, StandingIsLive, StepIsOfBytes}
use Rattle.bfs_nodes_progress.proofs.Carried.{HoldsBytes, Known, StaysBy, begins_holding, step_holds}
use Rattle.bfs_nodes_progress.proofs.Snapshots.{step_keeps}
use Rattle.bfs_nodes_progress.proofs.Storing.{Storing, outcome_holds}

-- A step --------------------------------------------------------------------------------------------------------------

-- the batch of a PRE-PREPARE of words and bytes
carried : (m : OrderMessage) (next : Committed) → batch_in m ≡ Some next → OrderIsOfBytes m → BatchIsOfBytes next.batch
carried (PrePrepare proposal) next e is = subst (λ (c : Committed). BatchIsOfBytes c.batch) (some_is (record { number = proposal.vote.number; batch = proposal.batch }) next e) is
carried other next e is = absurd cc

-- of a live file system and a committed batch
abbrev execution_on : Node → Option FileSystem → Option Committed → Option (Option Outcome)
execution_on node live next = option_map (λ (files : FileSystem). option_map (executed_on node files) next) live

-- the batch that is executed next is that of a PRE-PREPARE in the log
next_of_bytes : (node : Node) (files : FileSystem) (next : Committed) → AllIn Known node.order.log → node.files ≡ Some files → next_committed node.order ≡ Some next → BatchIsOfBytes next.batch
next_of_bytes node files next log e n = go (next_order node.order) refl n
  where
    ready : is_ready node ≡ true
    ready = ap (λ (o : Option FileSystem). is_next (execution_on node o (next_committed node.order))) e ∙ ap (λ (o : Option Committed). is_next (execution_on node (Some files) o)) n

    go : (o : Option (Signed OrderMessage)) → next_order node.order ≡ o → batch_of o ≡ Some next → BatchIsOfBytes next.batch
    go None is b = absurd cc
    go (Some m) is b =
        let here : IsIn m (message_in (next_order node.order)) = subst (λ (o : Option (Signed OrderMessage)). IsIn m (message_in o)) (sym is) (inl refl) in
        carried m.message next b (log m (executed_in node Executes m (subst (λ (b : Bool). IsIn m (cond b (message_in (next_order node.order)) [])) (sym ready) here)))

-- a file system that has not failed is live, and the table can be stored
abbrev IsWell : Option FileSystem → Table → Type 0
IsWell files table = ForSome files IsLive × IsKept table

some_well : (files : FileSystem) (table : Table) → IsLive files → IsKept table → IsWell (Some files) table
some_well files table live kept = (λ x e. subst IsLive (some_is files x e) live, kept)

module _ (laws : Storing) (f : ℕ) (node : Node) (holds : HoldsBytes f node) (well : IsWell node.files node.table) where
  executes_well : IsWell (outcome node Executes).now.files (outcome node Executes).now.table
  executes_well = go node.files (next_committed node.order) refl refl
    where
      go : (files : Option FileSystem) (next : Option Committed) → node.files ≡ files → next_committed node.order ≡ next
          → let now = (after_execution node (execution_on node files next)).now in IsWell now.files now.table
      go None next e n = well
      go (Some files) None e n = well
      go (Some files) (Some next) e n =
          let done = outcome_holds laws files node.table next.batch (next_of_bytes node files next holds.log e n) (record { live = well.0 files e; kept = well.1 }) in
          some_well _ _ done.live done.kept

  step_well : (same : CallsKeepTheReplica) (step : NodeStep) → StepIsOfBytes step → StaysBy f same node holds step → IsWell (outcome node step).now.files (outcome node step).now.table
  step_well same Executes is stays = executes_well
  step_well same Fails is stays = (λ x e. absurd cc, well.1)
  step_well same (Adopts certificate files table) is stays = elim (may_adopt node certificate && bytes_eq (node_digest files table) certificate.digest) as
      (λ b. let now = (cond b (still (adopted node certificate files table)) (still node)).now in IsWell now.files now.table) [
        | true ↦ some_well files table is.0 is.1
        | false ↦ well
      ]
  step_well same step is stays = (subst (λ (o : Option FileSystem). ForSome o IsLive) (sym stays.0) well.0, subst IsKept (sym stays.1) well.1)

-- A run ---------------------------------------------------------------------------------------------------------------

record Stored (f : ℕ) (r : NodeReplica) : Type 0 where
  holds : HoldsBytes f r.node
  well : IsWell r.node.files r.node.table
  taken : AllIn (λ (x : Kept). IsTaken x.snapshot) r.node.snapshots.kept
  states : AllIn StandingIsLive r.reached

-- the state that a node is in, if it has not failed
now_live : (node : Node) → IsWell node.files node.table → AllIn StandingIsLive (standing_of node)
now_live node well = go node.files well
  where
    go : (files : Option FileSystem) → IsWell files node.table → AllIn StandingIsLive (standing_with node files)
    go None is = none_in StandingIsLive
    go (Some files) is = one_in StandingIsLive (record { number = node.order.last; files = files; table = node.table }) (record { live = is.0 files refl; kept = is.1 })

-- of a state that is live
is_taken : (number : ℕ) (files : FileSystem) (table : Table) (x : Kept) → IsLive files → IsKept table → x ≡ record { number = number; snapshot = snapshot_of files table } → IsTaken x.snapshot
is_taken number files table x live kept e = record { files = files; table = table; live = live; kept = kept; is = ap (λ (y : Kept). y.snapshot) e }

step_stored : Storing → CallsKeepTheReplica → (f : ℕ) (r : NodeReplica) (step : NodeStep) → StepIsOfBytes step → Stored f r → Stored f (after_node_step r step)
step_stored laws same f r step is stored =
    let node = r.node in
    let now = (outcome node step).now in
    let done = step_holds f same node stored.holds step is in
    let well = step_well laws f node stored.holds stored.well same step is done.1 in
    record {
      holds = done.0;
      well = well;
      taken = λ x i. elim (step_keeps node step x i) as (λ _. IsTaken x.snapshot) [
        | inl old ↦ stored.taken x old
        | inr new ↦ elim new as (λ _. IsTaken x.snapshot) [
          | inl before ↦ is_taken node.order.last before.0 node.table x (stored.well.0 before.0 before.1) stored.well.1 before.2
          | inr after ↦ is_taken now.order.last after.0 now.table x (well.0 after.0 after.1) well.1 after.2
        ]
      ];
      states = both_in StandingIsLive (standing_of now) r.reached (now_live now well) stored.states;
    }

all_stored : Storing → CallsKeepTheReplica → (f : ℕ) (turns : List NodeTurn) (w : NodeReplicas) → ((turn : NodeTurn) → IsIn turn turns → StepIsOfBytes turn.step) → ((k : ℕ) → Stored f (w k))
    → (k : ℕ) → Stored f (after_node_turns w turns k)
all_stored laws same f [] w is all = all
all_stored laws same f (turn ∷ turns) w is all =
    all_stored laws same f turns (after_node_turn w turn) (λ x i. is x (inr i))
    (both_at w turn (λ _ r. Stored f r) (step_stored laws same f (w turn.who) turn.step (is turn (inl refl)) (all turn.who)) all)

each_of : (P : Kept → Type 0) (xs : List Kept) → AllIn P xs → AllByRecursion P xs
each_of P [] all = tt
each_of P (x ∷ xs) all = (all x (inl refl), each_of P xs (λ y i. all y (inr i)))

pub reached_states_can_be_stored : Storing → CallsKeepTheReplica → ReachedStatesCanBeStored
reached_states_can_be_stored laws same f keys start turns k live kept is =
    let well = some_well start.files start.table live kept in
    let stored = all_stored laws same f turns (new_node_replicas f keys start) is (λ j. record {
      holds = begins_holding f j (keys j) start.files start.table;
      well = well;
      taken = none_in (λ (x : Kept). IsTaken x.snapshot);
      states = one_in StandingIsLive (record { number = 0; files = start.files; table = start.table }) (record { live = live; kept = kept });
    }) k in
    record { live = stored.well.0; kept = stored.well.1; taken = each_of (λ (x : Kept). IsTaken x.snapshot) _ stored.taken; states = stored.states }
