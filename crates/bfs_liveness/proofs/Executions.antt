-- What calls that execute leave of a node, and what it has executed.
use Rattle.std.proofs.Common.{◌≡◌, ℕ, zero, suc, ◌+◌, ◌-◌, ◌<◌, ◌≤◌, ◌==◌, Bool, true, false, cond, List, [], ◌∷◌, ◌++◌, ◌⊎◌, Option, Some, None, option_map, inl, inr, refl, sym, ap, subst, ◌∙◌, arith}
use Rattle.std.specs.Prelude.{is_some}
use Rattle.std.proofs.lemmas.Bool.{cases_lt, cond_both}
use Rattle.bfs_log.specs.Batches.{Committed}
use Rattle.bfs_log.specs.Headers.{header, message_header}
use Rattle.bfs_log.specs.Logs.{Log, batch_in, message_at}
use Rattle.bfs_messages.specs.Messages.{Batch}
use Rattle.bfs_messages.specs.declared.order_messages.OrderMessage.{OrderMessage}
use Rattle.bfs_messages.specs.declared.order_messages.OrderMessage.TheVariants.{Checkpoint, Commit, PrePrepare, Prepare}
use Rattle.bfs_messages.specs.declared.signed.Signed.{Signed}
use Rattle.bfs_model.specs.Server.Tree.{FileSystem}
use Rattle.bfs_order.specs.Laws.Calls.{Call, Takes, Proposes, Executes, Checkpoints, Installs, Leaves, Enters, execution, outcome}
use Rattle.bfs_order.specs.Replica.Accepting.{accepted}
use Rattle.bfs_order.specs.Replica.Checkpoints.{checkpoint_refusal, checkpointed}
use Rattle.bfs_order.specs.Replica.Executing.{batch_of, next_order, next_proposal, where_committed}
use Rattle.bfs_order.specs.Replica.Installing.{install_refusal, installed}
use Rattle.bfs_order.specs.Replica.Proposing.{proposal_refusal, proposed}
use Rattle.bfs_order.specs.Replica.Refusals.{refusal}
use Rattle.bfs_order.specs.Replica.States.{State, known}
use Rattle.bfs_order.specs.Replica.Views.{entered, entering_refusal, leaving_refusal, left}
use Rattle.bfs_votes.specs.Votes.{Told, committed, is_slot, primary}
use Rattle.bfs_agreement.specs.Histories.{IsIn}
use Rattle.bfs_node.specs.Executing.{executed_on, is_next}
use Rattle.bfs_node.specs.Nodes as nodes
use Rattle.bfs_node.specs.Nodes.{Node}
use Rattle.bfs_nodes_agree.specs.Nodes.Laws.{Executed, StepsAreTurns}
use Rattle.bfs_nodes_agree.specs.Nodes.Replicas.{Beginning, Keyring, NodeReplica, NodeReplicas, NodeTurn, after_node_step, after_node_turn, after_node_turns, new_node_replicas, ordered_turns}
use Rattle.bfs_nodes_agree.specs.Nodes.Steps as steps
use Rattle.bfs_nodes_agree.specs.Orders.Replicas.{OrderDeed, OrderReplica, OrderReplicas, after_order_deed, after_order_turn, call_of, executed_by, message_in, new_order_replicas}
use Rattle.bfs_nodes_agree.specs.Views.Replicas.{ViewTurn, after_view_turns, ordered_turn}
use Rattle.bfs_nodes_agree.proofs.Public.{both_at, either_way, entered_same, found, here_after, low_rises, next_found, slot_is}
use Rattle.bfs_nodes_progress.specs.Executing.{AreCommitted, executing}
use Rattle.bfs_nodes_progress.specs.Inside.Below.{Below}
use Rattle.bfs_nodes_progress.specs.Requests.{executions}
use Rattle.bfs_nodes_progress.specs.Runs.{IsARun, order_of, reached}
use Rattle.bfs_nodes_progress.proofs.Public.{after_join, after_so_many, always, proposed_in, told_world}

-- Executing up to a number --------------------------------------------------------------------------------------------

executed_there : (w : NodeReplicas) (k count : ℕ) → (after_node_turns w (executions k count) k).node ≡ executing count (w k).node
executed_there w k zero = refl
executed_there w k (suc count) =
    let one : NodeTurn = record { who = k; step = steps.Executes } in
    let before = executions k count in
    ap (λ (x : NodeReplicas). (x k).node) (after_join w before (one ∷ [])) ∙ ap (λ (r : NodeReplica). r.node) (here_after (after_node_turns w before) one)
    ∙ ap (λ (n : Node). (steps.outcome n steps.Executes).now) (executed_there w k count)

-- a file system that has not failed
pub live_files : (o : Option FileSystem) → is_some o ≡ true → (files : FileSystem) × (o ≡ Some files)
live_files None e = absurd cc
live_files (Some files) e = (files, refl)

-- nothing else of its order changes
pub record IsExecuted (s : State) (number : ℕ) (node : Node) : Type 0 where
  pub order : node.order ≡ record s { last = number }
  pub live : is_some node.files ≡ true

pub executed_to : Below → (f : ℕ) (keys : Keyring) (start : Beginning) (faulty : ℕ → Bool) (turns : List NodeTurn) → IsARun f keys start faulty turns → (k number : ℕ) → faulty k ≡ false
    → is_some (reached f keys start turns k).node.files ≡ true → (order_of (reached f keys start turns) k).last ≤ number
    → AreCommitted (reached f keys start turns k).node (number - (order_of (reached f keys start turns) k).last)
    → IsExecuted (order_of (reached f keys start turns) k) number (after_node_turns (reached f keys start turns) (executions k (number - (order_of (reached f keys start turns) k).last)) k).node
executed_to laws f keys start faulty turns run k number correct live behind all =
    let w = reached f keys start turns in
    let node = (w k).node in
    let s = node.order in
    let count = number - s.last in
    let led = always laws f faulty run.others run.few keys start turns run.shared run.authentic in
    let kept = led.facts.sound.kept k correct in
    let q = primary s.f s.view in
    let there = λ (n : ℕ) (d : List ℕ) (x : Told (known s) 2 q s.view n d). told_world f faulty w led.orders led.world led.facts k 2 q s.view n d (omega arith) x in
    let after = after_so_many node count live all (λ n d ready e x. kept.single 2 q s.view n e d (there n e x) (there n d (proposed_in s n d ready))) count (omega arith) in
    let sum : s.last + count ≡ number = omega (arith, behind) in
    let is = executed_there w k count in
    record {
      order = ap (λ (n : Node). n.order) is ∙ after.order_is ∙ ap (λ (n : ℕ). record s { last = n }) sum;
      live = ap (λ (n : Node). is_some n.files) is ∙ after.live;
    }

-- What was executed is found in the log -------------------------------------------------------------------------------

-- the first PRE-PREPARE of its number in the view that was entered
abbrev pub IsFound : State → Signed OrderMessage → Type 0
IsFound s m = message_at s.log 2 (primary s.f s.view) s.view (header m).number ≡ Some m

-- calls that execute change but the number last executed, and what was executed by them is found
pub record HasRun (s : State) (executed : Log) (now : State) (all : Log) : Type 0 where
  pub last : ℕ
  pub order : now ≡ record s { last = last }
  pub each : (m : Signed OrderMessage) → IsIn m all → IsIn m executed ⊎ IsFound s m

found_next : (s : State) (m : Signed OrderMessage) → next_order s ≡ Some m → IsFound s m
found_next s m e = subst (λ (n : ℕ). message_at s.log 2 (primary s.f s.view) s.view n ≡ Some m) (sym (next_found s m e).1) (go (next_proposal s) refl e)
  where
    go : (o : Option (Signed OrderMessage)) → next_proposal s ≡ o → where_committed s o ≡ Some m → next_proposal s ≡ Some m
    go None is h = absurd cc
    go (Some x) is h = (elim (committed s.f s.me (known s) s.view (s.last + 1) (header x).digest) as (λ b. cond b (Some x) None ≡ Some m → next_proposal s ≡ Some m) [
      | true ↦ λ same. is ∙ same
      | false ↦ λ none. absurd cc
    ]) h

runs_once : (r : NodeReplica) → HasRun r.node.order r.executed (after_node_step r steps.Executes).node.order (after_node_step r steps.Executes).executed
runs_once r = go r.node.files (next_order r.node.order) refl
  where
    found : Option FileSystem → Option Committed → Option (Option nodes.Outcome)
    found files next = option_map (λ (f : FileSystem). option_map (executed_on r.node f) next) files

    HasRunBy : Option FileSystem → Option Committed → Option (Signed OrderMessage) → Type 0
    HasRunBy files next o = HasRun r.node.order r.executed (steps.after_execution r.node (found files next)).now.order (cond (is_next (found files next)) (message_in o) [] ++ r.executed)

    by : (files : FileSystem) (m : Signed OrderMessage) (next : Option Committed) → next_order r.node.order ≡ Some m → HasRunBy (Some files) next (Some m)
    by files m None e = record { last = r.node.order.last; order = refl; each = λ x i. inl i }
    by files m (Some c) e = record {
      last = c.number;
      order = refl;
      each = λ x i. elim i [ inl same ↦ inr (subst (IsFound r.node.order) (sym same) (found_next r.node.order m e)) | inr j ↦ inl j ];
    }

    go : (files : Option FileSystem) (o : Option (Signed OrderMessage)) → next_order r.node.order ≡ o → HasRunBy files (batch_of o) o
    go None o e = record { last = r.node.order.last; order = refl; each = λ x i. inl i }
    go (Some files) None e = record { last = r.node.order.last; order = refl; each = λ x i. inl i }
    go (Some files) (Some m) e = by files m (batch_in m.message) e

run_itself : (s : State) (executed : Log) → HasRun s executed s executed
run_itself s executed = record { last = s.last; order = refl; each = λ m i. inl i }

run_then : (s t u : State) (one two three : Log) → HasRun s one t two → HasRun t two u three → HasRun s one u three
run_then s t u one two three first then = record {
  last = then.last;
  order = then.order ∙ ap (λ (x : State). record x { last = then.last }) first.order;
  each = λ m i. elim (then.each m i) [ inl j ↦ first.each m j | inr found ↦ inr (subst (λ (x : State). IsFound x m) first.order found) ];
}

pub all_run : (turns : List NodeTurn) → ((turn : NodeTurn) → IsIn turn turns → turn.step ≡ steps.Executes) → (w : NodeReplicas) (k : ℕ)
    → HasRun (order_of w k) (w k).executed (order_of (after_node_turns w turns) k) (after_node_turns w turns k).executed
all_run [] only w k = run_itself (order_of w k) (w k).executed
all_run (turn ∷ turns) only w k =
    let next = after_node_turn w turn in
    let end = after_node_turns w (turn ∷ turns) in
    let first = both_at w turn (λ j r. HasRun (order_of w j) (w j).executed r.node.order r.executed)
    (subst (λ (x : steps.NodeStep). HasRun (order_of w turn.who) (w turn.who).executed (after_node_step (w turn.who) x).node.order (after_node_step (w turn.who) x).executed) (sym (only turn (inl refl)))
    (runs_once (w turn.who))) (λ j. run_itself (order_of w j) (w j).executed) k in
    run_then (order_of w k) (order_of next k) (order_of end k) (w k).executed (next k).executed (end k).executed first (all_run turns (λ x i. only x (inr i)) next k)

-- Each number above the low mark --------------------------------------------------------------------------------------

-- what holds of an order after each deed holds after turns
pub turns_keep : (P : OrderReplica → Type 0) → ((o : OrderReplica) (deed : OrderDeed) → P o → P (after_order_deed o deed)) → (turns : List ViewTurn) (v : OrderReplicas) → ((k : ℕ) → P (v k)) → (k : ℕ) → P (after_view_turns v turns k)
turns_keep P keeps [] v all = all
turns_keep P keeps (turn ∷ turns) v all =
    let i = turn.who in
    let deed = (ordered_turn v turn).deed in
    turns_keep P keeps turns (after_order_turn v (ordered_turn v turn)) (λ k. cond_both (k == i) (after_order_deed (v i) deed) (v k) P (λ _. keeps (v i) deed (all i)) (λ _. all k))

-- each was executed, up to the last one
abbrev pub EachRan : State → (executed : Log) → Type 0
EachRan s executed = (n : ℕ) → s.low < n → n ≤ s.last → (m : Signed OrderMessage) × IsIn m executed × ((header m).tag ≡ 2) × ((header m).number ≡ n)

still_each : (s now : State) (executed : Log) → s.low ≤ now.low → (now.last ≡ s.last) ⊎ (now.last ≤ now.low) → EachRan s executed → EachRan now executed
still_each s now executed rises stays ran n above under = elim stays [
  | inl same ↦ ran n (omega (arith, above, rises)) (omega (arith, under, same))
  | inr low ↦ absurd (omega (arith, low, above, under))
]

-- but by executing it rises only to a stable one
last_stays : (s : State) (call : Call) → (call ≡ Executes → ⊥) → ((outcome s call).now.last ≡ s.last) ⊎ ((outcome s call).now.last ≤ (outcome s call).now.low)
last_stays s (Takes keys m) other = inl (either_way (λ o. o.now.last ≡ s.last) (refusal keys s m) s (accepted keys s m) (λ _. refl) refl)
last_stays s (Proposes keys batch) other = inl (either_way (λ o. o.now.last ≡ s.last) (proposal_refusal s) s (proposed keys s batch) (λ _. refl) refl)
last_stays s Executes other = absurd (other refl)
last_stays s (Checkpoints keys n d) other = inl (either_way (λ o. o.now.last ≡ s.last) (checkpoint_refusal s n) s (checkpointed keys s n d) (λ _. refl) refl)
last_stays s (Installs keys c) other = either_way (λ o. (o.now.last ≡ s.last) ⊎ (o.now.last ≤ o.now.low)) (install_refusal keys s c) s (installed s c)
    (λ _. elim (cases_lt s.last c.number) [ inl lt ↦ inr (omega (arith, lt)) | inr le ↦ inl (omega (arith, le)) ]) (inl refl)
last_stays s (Leaves view) other = inl (either_way (λ o. o.now.last ≡ s.last) (leaving_refusal s view) s (left s view) (λ _. refl) refl)
last_stays s (Enters keys view stable handed) other = inl (either_way (λ o. o.now.last ≡ s.last) (entering_refusal s view) s (entered keys s view stable handed)
    (λ _. entered_same (λ (x : State). x.last) (λ x low log. refl) keys s view stable handed) refl)

each_on : (s : State) (executed : Log) (call : Call) → (call ≡ Executes → ⊥) → EachRan s executed → EachRan (outcome s call).now executed
each_on s executed call other ran = still_each s (outcome s call).now executed (low_rises s call) (last_stays s call other) ran

pub each_by : (s : State) (executed : Log) (call : Call) → EachRan s executed → EachRan (outcome s call).now (executed_by s call ++ executed)
each_by s executed Executes ran = go (next_order s) refl
  where
    go : (o : Option (Signed OrderMessage)) → next_order s ≡ o → EachRan (execution s o).now (message_in o ++ executed)
    go None is n above under = ran n above under
    go (Some m) is n above under = elim (cases_lt s.last n) [
      | inl new ↦
          let number = (next_found s m is).1 in
          let at = found (λ (y : Signed OrderMessage). is_slot 2 (primary s.f s.view) s.view (header m).number (header y)) s.log m (found_next s m is) in
          (m, inl refl, (slot_is 2 (primary s.f s.view) s.view (header m).number (header m) at.1).tag, omega (arith, number, new, under))
      | inr old ↦ let before = ran n above old in (before.0, inr before.1, before.2, before.3)
    ]
each_by s executed (Takes keys m) ran = each_on s executed (Takes keys m) (λ e. absurd cc) ran
each_by s executed (Proposes keys batch) ran = each_on s executed (Proposes keys batch) (λ e. absurd cc) ran
each_by s executed (Checkpoints keys n d) ran = each_on s executed (Checkpoints keys n d) (λ e. absurd cc) ran
each_by s executed (Installs keys c) ran = each_on s executed (Installs keys c) (λ e. absurd cc) ran
each_by s executed (Leaves view) ran = each_on s executed (Leaves view) (λ e. absurd cc) ran
each_by s executed (Enters keys view stable handed) ran = each_on s executed (Enters keys view stable handed) (λ e. absurd cc) ran

-- No number above the one last executed -------------------------------------------------------------------------------

-- none was executed, nor number 0
abbrev AreBelow : State → (executed : Log) → Type 0
AreBelow s executed = (m : Signed OrderMessage) → IsIn m executed → (0 < (header m).number) × ((header m).number ≤ s.last)

last_rises : (s : State) (call : Call) → s.last ≤ (outcome s call).now.last
last_rises s (Takes keys m) = either_way (λ o. s.last ≤ o.now.last) (refusal keys s m) s (accepted keys s m) (λ _. omega arith) (omega arith)
last_rises s (Proposes keys batch) = either_way (λ o. s.last ≤ o.now.last) (proposal_refusal s) s (proposed keys s batch) (λ _. omega arith) (omega arith)
last_rises s Executes = elim (next_order s) as (λ o. s.last ≤ (execution s o).now.last) [ None ↦ omega arith | Some m ↦ omega arith ]
last_rises s (Checkpoints keys n d) = either_way (λ o. s.last ≤ o.now.last) (checkpoint_refusal s n) s (checkpointed keys s n d) (λ _. omega arith) (omega arith)
last_rises s (Installs keys c) = either_way (λ o. s.last ≤ o.now.last) (install_refusal keys s c) s (installed s c) (λ _. omega arith) (omega arith)
last_rises s (Leaves view) = either_way (λ o. s.last ≤ o.now.last) (leaving_refusal s view) s (left s view) (λ _. omega arith) (omega arith)
last_rises s (Enters keys view stable handed) = either_way (λ o. s.last ≤ o.now.last) (entering_refusal s view) s (entered keys s view stable handed)
    (λ _. let is = entered_same (λ (x : State). x.last) (λ x low log. refl) keys s view stable handed in omega (arith, is)) (omega arith)

still_below : (s : State) (executed : Log) (call : Call) → AreBelow s executed → AreBelow (outcome s call).now executed
still_below s executed call below m i = let before = (below m i).1 in let rises = last_rises s call in ((below m i).0, omega (arith, before, rises))

below_by : (s : State) (executed : Log) (call : Call) → AreBelow s executed → AreBelow (outcome s call).now (executed_by s call ++ executed)
below_by s executed Executes below = go (next_order s) refl
  where
    go : (o : Option (Signed OrderMessage)) → next_order s ≡ o → AreBelow (execution s o).now (message_in o ++ executed)
    go None is m i = below m i
    go (Some x) is m i = elim i [
      | inl same ↦
          let number = (next_found s x is).1 in
          let header_is = ap (λ (y : Signed OrderMessage). (header y).number) same in
          (omega (arith, number, header_is), omega (arith, number, header_is))
      | inr j ↦ let before = (below m j).1 in ((below m j).0, omega (arith, before))
    ]
below_by s executed (Takes keys m) below = still_below s executed (Takes keys m) below
below_by s executed (Proposes keys batch) below = still_below s executed (Proposes keys batch) below
below_by s executed (Checkpoints keys n d) below = still_below s executed (Checkpoints keys n d) below
below_by s executed (Installs keys c) below = still_below s executed (Installs keys c) below
below_by s executed (Leaves view) below = still_below s executed (Leaves view) below
below_by s executed (Enters keys view stable handed) below = still_below s executed (Enters keys view stable handed) below

-- Runs ----------------------------------------------------------------------------------------------------------------

pub number_of : (m : OrderMessage) (c : Committed) → batch_in m ≡ Some c → (message_header m).number ≡ c.number
number_of (PrePrepare proposal) c e = cc
number_of other c e = absurd cc

pub executed_below : StepsAreTurns → (f : ℕ) (keys : Keyring) (start : Beginning) (turns : List NodeTurn) (k : ℕ) (m : Signed OrderMessage)
    → IsIn m (reached f keys start turns k).executed → (0 < (header m).number) × ((header m).number ≤ (order_of (reached f keys start turns) k).last)
executed_below are f keys start turns k m i =
    let tracks = are f keys start turns k in
    let below = turns_keep (λ (o : OrderReplica). AreBelow o.state o.executed) (λ o deed below. below_by o.state o.executed (call_of deed) below) (ordered_turns (new_node_replicas f keys start) turns)
    (new_order_replicas f) (λ j x none. absurd none) k in
    subst (λ (s : State). (0 < (header m).number) × ((header m).number ≤ s.last)) tracks.state (below m (subst (λ (l : Log). IsIn m l) (sym tracks.executed) i))

-- no number that it has executed is 0, or above the one last executed
pub number_below : StepsAreTurns → (f : ℕ) (keys : Keyring) (start : Beginning) (turns : List NodeTurn) (k number : ℕ) (batch : Batch)
    → Executed (reached f keys start turns k) number batch → (0 < number) × (number ≤ (order_of (reached f keys start turns) k).last)
number_below are f keys start turns k number batch x =
    let below = executed_below are f keys start turns k x.0 x.1 in
    let some = below.0 in
    let under = below.1 in
    let is = number_of x.0.message (record { number = number; batch = batch }) x.2 in
    (omega (arith, some, is), omega (arith, under, is))

batch_of_proposal : (m : OrderMessage) → (message_header m).tag ≡ 2 → (c : Committed) × (batch_in m ≡ Some c) × (c.number ≡ (message_header m).number)
batch_of_proposal (PrePrepare proposal) two = (record { number = proposal.vote.number; batch = proposal.batch }, refl, refl)
batch_of_proposal (Prepare vote) two = absurd (omega (arith, two))
batch_of_proposal (Commit vote) two = absurd (omega (arith, two))
batch_of_proposal (Checkpoint checkpoint) two = absurd (omega (arith, two))

-- each number above its low mark, up to the one last executed, it has executed
pub executed_itself : StepsAreTurns → (f : ℕ) (keys : Keyring) (start : Beginning) (turns : List NodeTurn) (k number : ℕ)
    → (order_of (reached f keys start turns) k).low < number → number ≤ (order_of (reached f keys start turns) k).last → (batch : Batch) × Executed (reached f keys start turns k) number batch
executed_itself are f keys start turns k number above under =
    let tracks = are f keys start turns k in
    let ran = turns_keep (λ (o : OrderReplica). EachRan o.state o.executed) (λ o deed before. each_by o.state o.executed (call_of deed) before) (ordered_turns (new_node_replicas f keys start) turns)
    (new_order_replicas f) (λ j n low high. absurd (omega (arith, low, high))) k in
    let r = reached f keys start turns k in
    let each : EachRan r.node.order r.executed = subst (λ (l : Log). EachRan r.node.order l) tracks.executed
    (subst (λ (s : State). EachRan s (after_view_turns (new_order_replicas f) (ordered_turns (new_node_replicas f keys start) turns) k).executed) tracks.state ran) in
    let it = each number above under in
    let batch = batch_of_proposal it.0.message it.2 in
    (batch.0.batch, (it.0, it.1, batch.1 ∙ ap (λ (n : ℕ). Some (record { number = n; batch = batch.0.batch })) (batch.2 ∙ it.3)))
