-- Who is behind comes up to a checkpoint of others.
use Rattle.std.proofs.Common.{◌≡◌, ℕ, ◌≤◌, ◌==◌, Bool, true, false, cond, ◌&&◌, not, List, [], ◌∷◌, max, Some, None, bytes_eq, inl, inr, refl, sym, ap, ap₂, subst, ◌∙◌, arith}
use Rattle.std.specs.Prelude.{is_some, nat_lt}
use Rattle.std.proofs.lemmas.Bool.{and_from, cases_Bool, cases_lt, cond_both, eq-eqb, le-leb, lt-ltb, or_left}
use Rattle.std.proofs.lemmas.Slice.Eq.{bytes_eq-Decides}
use Rattle.bfs_auth.specs.Keys.{Keys}
use Rattle.bfs_auth.specs.declared.principals.Principal.TheVariants as principal
use Rattle.bfs_checkpoints.specs.Laws.{RightCheckpointsAreCollected}
use Rattle.bfs_checkpoints.specs.Snapshots.{Snapshot}
use Rattle.bfs_checkpoints.specs.Texts.{node_digest}
use Rattle.bfs_log.specs.Certificates.{StableCheckpoint, checkpoints_in, is_shown, vouches}
use Rattle.bfs_messages.specs.Messages as model
use Rattle.bfs_messages.specs.Signing.{as_message, order_is_signed}
use Rattle.bfs_messages.specs.declared.signed.Signed.{Signed}
use Rattle.bfs_messages.specs.declared.message.Message.{Message}
use Rattle.bfs_messages.specs.declared.message.Message.TheVariants.{Order, NewView}
use Rattle.bfs_messages.specs.declared.order_messages.OrderMessage.{OrderMessage}
use Rattle.bfs_messages.specs.declared.order_messages.OrderMessage.TheVariants.{Checkpoint, PrePrepare}
use Rattle.bfs_order.specs.Replica.Installing.{certified, installed}
use Rattle.bfs_order.specs.Replica.States.{State}
use Rattle.bfs_votes.specs.Votes.{replicas}
use Rattle.bfs_agreement.specs.Histories.{IsIn}
use Rattle.bfs_agreement.specs.Moves.{new_world}
use Rattle.bfs_node.specs.Adopting.{adopted, is_ahead, may_adopt}
use Rattle.bfs_node.specs.Nodes.{Messages, Node, Outcome}
use Rattle.bfs_node.specs.Settling.{may_settle, settling}
use Rattle.bfs_node.specs.declared.error.NodeError.TheVariants as error
use Rattle.bfs_nodes_agree.specs.Nodes.Laws.{NodesAgree}
use Rattle.bfs_nodes_agree.specs.Nodes.Premises.{Comes, HasSaid, IsAmong, IsAuthentic, SaysTheSame, offers_in}
use Rattle.bfs_nodes_agree.specs.Nodes.Replicas.{Beginning, Keyring, NodeReplica, NodeReplicas, NodeTurn, after_node_step, after_node_turns, new_node_replicas}
use Rattle.bfs_nodes_agree.specs.Nodes.Steps.{Adopts, Settles, outcome, still, unless}
use Rattle.bfs_nodes_agree.specs.Orders.Replicas.{new_order_replicas}
use Rattle.bfs_nodes_agree.proofs.Public.{here_after, out_of_map}
use Rattle.bfs_nodes_progress.specs.CatchingUp.{HasTold, IsOfAState, IsUpTo, all_catch_up, catching_turn, catching_up}
use Rattle.bfs_nodes_progress.specs.Inside.Below.{Below}
use Rattle.bfs_nodes_progress.specs.LawsOfCatchingUp.{AllComeUp, CatchingUpInstalls, CheckpointsTellSnapshots, SnapshotsAreOfStates, WhoIsBehindComesUp}
use Rattle.bfs_nodes_progress.specs.Runs.{IsARun, reached}
use Rattle.bfs_nodes_progress.proofs.Collected.{collects, made, made_shown, made_told}
use Rattle.bfs_nodes_progress.proofs.Each.{AreOf, authentic_both, each_once}
use Rattle.bfs_nodes_progress.proofs.Quiet.{same_f}
use Rattle.bfs_nodes_progress.proofs.Reached.{always, start_facts}
use Rattle.bfs_nodes_progress.proofs.Rounds.{after_join}
use Rattle.bfs_nodes_progress.proofs.Snapshots.{HasStates, all_states, start_states}

-- One call ------------------------------------------------------------------------------------------------------------

-- nothing is installed where both marks are there
pub nothing_installed : (s : State) (c : StableCheckpoint) → c.number ≤ s.low → c.number ≤ s.last → nat_lt s.low c.number ≡ false → s ≡ (installed s c).now
nothing_installed s c low last stays =
    let low_is : s.low ≡ max s.low c.number = omega (arith, low) in
    let last_is : s.last ≡ max s.last c.number = omega (arith, last) in
    ap (λ (n : ℕ). record s { low = n }) low_is
    ∙ ap (λ (n : ℕ). record s { low = max s.low c.number; last = n }) last_is
    ∙ ap (λ (b : Bool). record s { low = max s.low c.number; last = max s.last c.number; log = cond b (certified s.log c) s.log }) (sym stays)

pub installs : CatchingUpInstalls
installs node c files table shown digest = elim (cases_Bool (is_ahead node c.number)) [
  | inl ahead ↦
      let may : (may_adopt node c && bytes_eq (node_digest files table) c.digest) ≡ true = and_from (may_adopt node c) (bytes_eq (node_digest files table) c.digest)
      (and_from (is_shown node.keys node.order.f c) (is_ahead node c.number) shown ahead) ((bytes_eq-Decides (node_digest files table) c.digest).1 digest) in
      let is : outcome node (catching_up node c files table) ≡ still (adopted node c files table) =
      ap (λ (b : Bool). outcome node (cond b (Adopts c files table) (Settles c))) ahead ∙ ap (λ (b : Bool). cond b (still (adopted node c files table)) (still node)) may in
      (ap (λ (o : Outcome). o.now.order) is, λ _. (ap (λ (o : Outcome). o.now.files) is, ap (λ (o : Outcome). o.now.table) is))
  | inr not_ahead ↦
      let last = elim (cases_lt node.order.last c.number) as (λ _. c.number ≤ node.order.last) [
        | inl lt ↦
            let is = or_left (nat_lt node.order.last c.number) ((c.number == node.order.last) && not (is_some node.files)) (lt-ltb node.order.last c.number lt) in
            absurd (cc (is, not_ahead))
        | inr le ↦ le
      ] in
      let settles : outcome node (catching_up node c files table) ≡ outcome node (Settles c) = ap (λ (b : Bool). outcome node (cond b (Adopts c files table) (Settles c))) not_ahead in
      let may_is : (may_settle node c) ≡ nat_lt node.order.low c.number =
      ap₂ (λ (a b : Bool). a && (nat_lt node.order.low c.number && b)) shown (le-leb c.number node.order.last last) ∙ and_true (nat_lt node.order.low c.number) in
      let out = λ (b : Bool). unless (cond (not b) (Some error.NoCertificate) None) node (still (settling node c)) in
      let there : (outcome node (Settles c)).now.order ≡ (installed node.order c).now = elim (cases_Bool (nat_lt node.order.low c.number)) [
        | inl below ↦ ap (λ (b : Bool). (out b).now.order) (may_is ∙ below)
        | inr stays ↦
            let low = elim (cases_lt node.order.low c.number) as (λ _. c.number ≤ node.order.low) [
              | inl lt ↦ let is = lt-ltb node.order.low c.number lt in absurd (cc (is, stays))
              | inr le ↦ le
            ] in
            ap (λ (b : Bool). (out b).now.order) (may_is ∙ stays) ∙ nothing_installed node.order c low last stays
      ] in
      (ap (λ (o : Outcome). o.now.order) settles ∙ there, λ ahead. absurd (cc (ahead, not_ahead)))
]
  where
    and_true : (b : Bool) → (b && true) ≡ b
    and_true true = refl
    and_true false = refl

-- so it is up to the number
up_to : (node now : Node) (c : StableCheckpoint) → now.order ≡ (installed node.order c).now → IsUpTo c.number now
up_to node now c is =
    let low = ap (λ (s : State). s.low) is in
    let last = ap (λ (s : State). s.last) is in
    record { stable = omega (arith, low); last = omega (arith, last) }

-- What was told -------------------------------------------------------------------------------------------------------

offers_none : (m : Message) (p : Signed OrderMessage) (c : model.Checkpoint) → IsIn p (offers_in m) → SaysTheSame (Order p.message) (Order (Checkpoint c)) → ⊥
offers_none (NewView new) p c i e =
    let from = out_of_map (as_message PrePrepare) new.proposals p i in
    let other = subst (λ (x : Signed OrderMessage). SaysTheSame (Order x.message) (Order (Checkpoint c))) from.2 e in
    absurd cc
offers_none other p c i e = i

-- a CHECKPOINT is signed whole
whole_checkpoint : (m : Message) (c : model.Checkpoint) → SaysTheSame m (Order (Checkpoint c)) → m ≡ Order (Checkpoint c)
whole_checkpoint (Order (Checkpoint checkpoint)) c e = e
whole_checkpoint (Order other) c e = absurd cc
whole_checkpoint other c e = absurd cc

checkpoint_sent : (sent : Messages) (c : model.Checkpoint) → HasSaid sent (Order (Checkpoint c)) → (s : Signed Message) × IsIn s sent × (s.message ≡ Order (Checkpoint c))
checkpoint_sent sent c said = elim said.2 [
  | inl e ↦ (said.0, said.1, whole_checkpoint said.0.message c e)
  | inr offer ↦ absurd (offers_none said.0.message offer.0 c offer.1 offer.2)
]

states_of : Below → (f : ℕ) (keys : Keyring) (start : Beginning) (faulty : ℕ → Bool) (turns : List NodeTurn) → IsARun f keys start faulty turns → (j : ℕ) → HasStates (reached f keys start turns j)
states_of laws f keys start faulty turns run =
    all_states laws f faulty run.others run.few (new_node_replicas f keys start) (new_order_replicas f) new_world (start_facts laws f faulty run.others run.few keys start run.shared)
    (start_states f keys start) turns run.authentic

pub snapshots_are_of_states : Below → SnapshotsAreOfStates
snapshots_are_of_states laws f keys start faulty turns j kept run i = (states_of laws f keys start faulty turns run j).kept kept i

pub checkpoints_tell_snapshots : Below → NodesAgree → CheckpointsTellSnapshots
checkpoints_tell_snapshots laws agree f keys start faulty turns j k kept s c run batches apart right_j right_k in_j sent is number =
    let has = states_of laws f keys start faulty turns run in
    let of = (has j).kept kept in_j in
    let tells = (has k).told s c sent is in
    let one = (agree f keys start faulty turns run.shared run.few run.authentic batches apart).states k j tells.standing of.standing right_k right_j tells.reached of.reached
    (tells.number ∙ number ∙ sym of.number) in
    tells.digest ∙ one.1 ∙ sym (ap (λ (x : Snapshot). x.digest) of.snapshot)

-- One comes up --------------------------------------------------------------------------------------------------------

pub who_is_behind_comes_up : Below → NodesAgree → RightCheckpointsAreCollected → WhoIsBehindComesUp
who_is_behind_comes_up laws agree right f keys start faulty tellers turns who j kept told run batches apart right_j in_j are = record {
  checkpoint = checkpoint;
  collects = collects right (keys who) f kept.number kept.snapshot.digest told tellers are.tellers_are.enough each;
  files = of.standing.files;
  table = of.standing.table;
  state = of.snapshot;
  run = record { others = run.others; shared = run.shared; few = run.few; authentic = authentic_both faulty begun turns (turn ∷ []) run.authentic (comes, tt) };
  up = subst (λ (x : NodeReplicas). IsUpTo kept.number (x who).node) (sym (after_join begun turns (turn ∷ [])))
      (subst (λ (r : NodeReplica). IsUpTo kept.number r.node) (sym (here_after w turn)) (up_to node (outcome node turn.step).now checkpoint (installs node checkpoint of.standing.files of.standing.table shown digest).0));
}
  where
    begun : NodeReplicas
    begun = new_node_replicas f keys start

    w : NodeReplicas
    w = reached f keys start turns

    node : Node
    node = (w who).node

    of : IsOfAState (w j) kept
    of = (states_of laws f keys start faulty turns run j).kept kept in_j

    -- each CHECKPOINT that a correct one told is right
    vouched : (k : ℕ) → tellers k ≡ true → (h : HasTold (keys who) kept.number k told) → vouches (keys who) f kept.number kept.snapshot.digest (as_message Checkpoint h.checkpoint) ≡ true
    vouched k x h =
        let c = h.checkpoint.message in
        let m = as_message Checkpoint h.checkpoint in
        let correct = are.tellers_are.correct k x in
        let sent = checkpoint_sent (w k).sent c (are.authentic h.checkpoint h.among k (ap principal.Replica h.by) h.signed correct) in
        let digest = checkpoints_tell_snapshots laws agree f keys start faulty turns j k kept sent.0 c run batches apart right_j correct in_j sent.1 sent.2 h.of_number in
        let low = are.tellers_are.among k x in
        let by = h.by in
        and_from (c.number == kept.number) (bytes_eq c.digest kept.snapshot.digest && (nat_lt c.sender (replicas f) && order_is_signed (keys who) m)) (eq-eqb c.number kept.number h.of_number)
        (and_from (bytes_eq c.digest kept.snapshot.digest) (nat_lt c.sender (replicas f) && order_is_signed (keys who) m) ((bytes_eq-Decides c.digest kept.snapshot.digest).1 digest)
        (and_from (nat_lt c.sender (replicas f)) (order_is_signed (keys who) m) (lt-ltb c.sender (replicas f) (omega (arith, by, low))) h.signed))

    each : (k : ℕ) → tellers k ≡ true → (c : Signed model.Checkpoint) × IsIn c told × (c.message.sender ≡ k) × (vouches (keys who) f kept.number kept.snapshot.digest (as_message Checkpoint c) ≡ true)
    each k x = let h = are.each k x in (h.checkpoint, h.among, h.by, vouched k x h)

    checkpoint : StableCheckpoint
    checkpoint = made right (keys who) f kept.number kept.snapshot.digest told tellers are.tellers_are.enough each

    turn : NodeTurn
    turn = catching_turn w who checkpoint of.standing.files of.standing.table

    keys_are : node.keys ≡ keys who
    keys_are = (always laws f faulty run.others run.few keys start turns run.shared run.authentic).keys who

    shown : is_shown node.keys node.order.f checkpoint ≡ true
    shown =
        let led = always laws f faulty run.others run.few keys start turns run.shared run.authentic in
        subst (λ (x : Keys). is_shown x node.order.f checkpoint ≡ true) (sym keys_are) (subst (λ (g : ℕ). is_shown (keys who) g checkpoint ≡ true) (sym (same_f f faulty w led.orders led.world led.facts who))
        (made_shown right (keys who) f kept.number kept.snapshot.digest told tellers are.tellers_are.enough each))

    digest : node_digest of.standing.files of.standing.table ≡ kept.snapshot.digest
    digest = sym (ap (λ (x : Snapshot). x.digest) of.snapshot)

    authentic : (m : Signed Message) → IsAmong m (checkpoints_in checkpoint) → IsAuthentic faulty w node.keys m
    authentic m i =
        let in_order = out_of_map (as_message Order) (checkpoints_in checkpoint) m i in
        let of_one = out_of_map (as_message Checkpoint) checkpoint.checkpoints in_order.0 in_order.1 in
        let c = of_one.0 in
        let is : m ≡ as_message Order (as_message Checkpoint c) = in_order.2 ∙ ap (as_message Order) of_one.2 in
        subst (λ (x : Signed Message). IsAuthentic faulty w node.keys x) (sym is) (subst (λ (x : Keys). IsAuthentic faulty w x (as_message Order (as_message Checkpoint c))) (sym keys_are)
        (are.authentic c (made_told right (keys who) f kept.number kept.snapshot.digest told tellers are.tellers_are.enough each c of_one.1)))

    comes : Comes (IsAuthentic faulty w (w who).node.keys) turn.step
    comes = cond_both (is_ahead node checkpoint.number) (Adopts checkpoint of.standing.files of.standing.table) (Settles checkpoint) (Comes (IsAuthentic faulty w (w who).node.keys)) (λ _. authentic) (λ _. authentic)

-- All come up ---------------------------------------------------------------------------------------------------------

pub all_come_up : Below → AllComeUp
all_come_up laws f keys start faulty members turns shown files table number run among each = (
  λ k x. subst (λ (n : ℕ). IsUpTo n (after k).node) (each k x).1 (up_to (w k).node (after k).node (shown k) (comes_to k x)),
  λ low min_s. record {
    low = λ k x.
        let at = ap (λ (s : State). s.low) (comes_to k x) in
        let is = (each k x).1 in
        let le = low k x in
        omega (arith, at, is, le);
    min_s = λ k x. let at = ap (λ (s : State). s.min_s) (comes_to k x) in let le = min_s k x in omega (arith, at, le);
    high = λ k x.
        let at = ap (λ (s : State). s.low) (comes_to k x) in
        let is = (each k x).1 in
        omega (arith, at, is);
  },
)
  where
    w : NodeReplicas
    w = reached f keys start turns

    turns_at : (k : ℕ) → List NodeTurn
    turns_at k = cond (members k) (catching_turn w k (shown k) files table ∷ []) []

    own : (k : ℕ) → AreOf k (turns_at k)
    own k = cond_both (members k) (catching_turn w k (shown k) files table ∷ []) [] (AreOf k) (λ _ turn i. elim i [ inl e ↦ ap (λ (y : NodeTurn). y.who) e | inr none ↦ absurd none ]) (λ _ turn i. absurd i)

    after : NodeReplicas
    after = after_node_turns w (all_catch_up f members w shown files table)

    comes_to : (k : ℕ) → members k ≡ true → (after k).node.order ≡ (installed (w k).node.order (shown k)).now
    comes_to k x =
        let node = (w k).node in
        let turn = catching_turn w k (shown k) files table in
        let led = always laws f faulty run.others run.few keys start turns run.shared run.authentic in
        let is : after k ≡ after_node_step (w k) turn.step =
        each_once w turns_at own (replicas f) k (among k x) ∙ (ap (λ (b : Bool). after_node_turns w (cond b (turn ∷ []) []) k) x ∙ here_after w turn) in
        let right = subst (λ (y : Keys). is_shown y node.order.f (shown k) ≡ true) (sym (led.keys k))
        (subst (λ (g : ℕ). is_shown (keys k) g (shown k) ≡ true) (sym (same_f f faulty w led.orders led.world led.facts k)) (each k x).0) in
        ap (λ (r : NodeReplica). r.node.order) is ∙ (installs node (shown k) files table right (sym (each k x).2)).0
