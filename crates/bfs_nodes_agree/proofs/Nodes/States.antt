-- Replicas that reach a number have one state there, which comes of the batches up to it.
use Rattle.std.proofs.Common.{◌≡◌, ℕ, zero, suc, ◌+◌, ◌*◌, ◌==◌, Bool, true, false, cond, ◌&&◌, not, List, [], ◌++◌, Option, Some, None, option_map, bytes_eq, inl, inr, refl, sym, ap, ap₂, subst, ◌∙◌, arith}
use Rattle.std.specs.Prelude.{max, is_some, nat_lt}
use Rattle.std.proofs.lemmas.Bool.{and_parts, or_cases, cond_both, eq-eqb, eqb-true, leb-true, ltb-true}
use Rattle.std.proofs.lemmas.Slice.Eq.{bytes_eq-Decides}
use Rattle.sha2.specs.Sha256.{sha256}
use Rattle.bfs_model.specs.Server.Tree.{FileSystem}
use Rattle.bfs_auth.specs.Keys.{Keys}
use Rattle.bfs_auth.specs.declared.principals.Principal.TheVariants as principal
use Rattle.bfs_votes.specs.Laws.{QuorumsMeet}
use Rattle.bfs_votes.specs.Votes.{Header, tellers, told, Told}
use Rattle.bfs_checkpoints.specs.Texts.{node_digest}
use Rattle.bfs_log.specs.Batches.{Committed}
use Rattle.bfs_log.specs.Headers.{header, message_header}
use Rattle.bfs_log.proofs.Public.{IsVoucher, vouched as vouched_by}
use Rattle.bfs_log.specs.Certificates.{StableCheckpoint, checkpoints_in, is_shown}
use Rattle.bfs_log.specs.Logs.{Log, batch_in, headers}
use Rattle.bfs_messages.specs.Messages as model
use Rattle.bfs_messages.specs.Batches.{batch_text}
use Rattle.bfs_messages.specs.Signing.{as_message}
use Rattle.bfs_messages.specs.declared.signed.Signed.{Signed}
use Rattle.bfs_messages.specs.declared.message.Message.{Message}
use Rattle.bfs_messages.specs.declared.message.Message.TheVariants.{Order}
use Rattle.bfs_messages.specs.declared.order_messages.OrderMessage.{OrderMessage}
use Rattle.bfs_messages.specs.declared.order_messages.OrderMessage.TheVariants.{PrePrepare, Checkpoint}
use Rattle.bfs_order.specs.Laws.Certificates.{CertificatesMakeStable}
use Rattle.bfs_order.specs.Replica.Executing.{batch_of, next_committed, next_order}
use Rattle.bfs_order.specs.Replica.Proposing.{batch_digest}
use Rattle.bfs_outcome.specs.Outcome as outcome
use Rattle.bfs_replies.specs.Tables.{Table}
use Rattle.bfs_agreement.specs.Histories.{IsIn, FewAreFaulty}
use Rattle.bfs_agreement.proofs.Public.{Is}
use Rattle.bfs_nodes_agree.specs.Orders.Replicas.{message_in}
use Rattle.bfs_nodes_agree.proofs.Orders.Lists.{AllIn, both_in, either_in, left_in, none_in, right_in, some_is}
use Rattle.bfs_nodes_agree.proofs.Orders.Logs.{IsWhole}
use Rattle.bfs_nodes_agree.proofs.Views.Lists.{at_in, in_map, out_of_map, told_in}
use Rattle.bfs_node.specs.Adopting.{adopted, is_ahead, may_adopt}
use Rattle.bfs_node.specs.Executing.{executed_on, is_next, is_ready}
use Rattle.bfs_node.specs.Nodes.{Messages, Node, Outcome}
use Rattle.bfs_nodes_agree.specs.Nodes.Laws.{ComesOfBatches, Executed}
use Rattle.bfs_nodes_agree.specs.Nodes.Premises.{Comes, HasSaid, IsAmong, IsAuthentic, SaysTheSame, StatesDontCollide, standing_digest}
use Rattle.bfs_nodes_agree.specs.Nodes.Replicas.{Beginning, Keyring, NodeReplica, NodeReplicas, Standing, NodeTurn, after_node_step, after_node_turn, beginning_node, new_node_replicas, standing_of, standing_with}
use Rattle.bfs_nodes_agree.specs.Nodes.Steps.{NodeStep, Executes, Fails, Adopts, after_execution, executed_by, outcome as result, still}
use Rattle.bfs_nodes_agree.proofs.Nodes.Doing.{IsOwnCheckpoint, IsStill, StandsBy}
use Rattle.bfs_nodes_agree.proofs.Nodes.Executing.{next_found, next_follows}
use Rattle.bfs_nodes_agree.proofs.Nodes.Hearing.{offer_tag, same_header}

-- States ------------------------------------------------------------------------------------------------------------------------

-- with that file system
abbrev pub standing_at : Node → FileSystem → Standing
standing_at node files = record { number = node.order.last; files = files; table = node.table }

-- a live node stands somewhere
pub here_now : (node : Node) (files : FileSystem) (rest : List Standing) → node.files ≡ Some files → IsIn (standing_at node files) (standing_of node ++ rest)
here_now node files rest e = subst (λ (o : Option FileSystem). IsIn (standing_at node files) (standing_with node o ++ rest)) (sym e) (inl refl)

there_is : (node : Node) (s : Standing) → IsIn s (standing_of node) → (files : FileSystem) × (node.files ≡ Some files) × (s ≡ standing_at node files)
there_is node s i = go node.files refl i
  where
    go : (o : Option FileSystem) → node.files ≡ o → IsIn s (standing_with node o) → (files : FileSystem) × (node.files ≡ Some files) × (s ≡ standing_at node files)
    go None e j = absurd j
    go (Some files) e j = elim j [ inl is ↦ (files, e, is) | inr none ↦ absurd none ]

-- Batches -----------------------------------------------------------------------------------------------------------------------

-- what is executed stands in the log
pub executed_in : (node : Node) (step : NodeStep) → AllIn (λ (m : Signed OrderMessage). IsIn m node.order.log) (executed_by node step)
executed_in node Executes m = cond_both (is_ready node) (message_in (next_order node.order)) [] (λ (l : Log). IsIn m l → IsIn m node.order.log)
    (λ _. one (next_order node.order) refl) (λ _ j. absurd j)
  where
    one : (o : Option (Signed OrderMessage)) → next_order node.order ≡ o → IsIn m (message_in o) → IsIn m node.order.log
    one None e j = absurd j
    one (Some x) e j = elim j [ inl is ↦ subst (λ (y : Signed OrderMessage). IsIn y node.order.log) (sym is) (next_found node.order x e).0 | inr none ↦ absurd none ]
executed_in node step m = λ i. absurd i

-- of a live file system and a committed batch
abbrev pub execution_on : Node → Option FileSystem → Option Committed → Option (Option Outcome)
execution_on node live next = option_map (λ (f : FileSystem). option_map (executed_on node f) next) live

-- on a live file system the next committed batch is executed
pub executes_next : (node : Node) (live : FileSystem) (next : Committed) → node.files ≡ Some live → next_committed node.order ≡ Some next
    → (m : Signed OrderMessage) × IsIn m (executed_by node Executes) × (batch_in m.message ≡ Some next)
executes_next node live next e n =
    let m = proposed (next_order node.order) refl n in
    (m.0, subst (λ (b : Bool). IsIn m.0 (cond b (message_in (next_order node.order)) [])) (sym ready) m.1, m.2)
  where
    ready : is_ready node ≡ true
    ready = ap (λ (o : Option FileSystem). is_next (execution_on node o (next_committed node.order))) e ∙ ap (λ (o : Option Committed). is_next (execution_on node (Some live) o)) n

    proposed : (o : Option (Signed OrderMessage)) → next_order node.order ≡ o → batch_of o ≡ Some next → (m : Signed OrderMessage) × IsIn m (message_in (next_order node.order)) × (batch_in m.message ≡ Some next)
    proposed None e b = absurd cc
    proposed (Some m) e b = (m, subst (λ (o : Option (Signed OrderMessage)). IsIn m (message_in o)) (sym e) (inl refl), b)

-- the batch of a PRE-PREPARE is that of its digest
pub digest_tells : (m : OrderMessage) (next : Committed) → IsWhole m → batch_in m ≡ Some next → ((message_header m).number ≡ next.number) × ((message_header m).digest ≡ batch_digest next.batch)
digest_tells (PrePrepare proposal) next whole e =
    let is : record { number = proposal.vote.number; batch = proposal.batch } ≡ next = some_is (record { number = proposal.vote.number; batch = proposal.batch }) next e in
    (ap (λ (x : Committed). x.number) is, whole ∙ ap (λ (x : Committed). sha256 (batch_text x.batch)) is)
digest_tells other next whole e = absurd cc

-- CHECKPOINTs -----------------------------------------------------------------------------------------------------------------

-- it is signed whole
whole_checkpoint : (m : Message) (c : model.Checkpoint) → SaysTheSame m (Order (Checkpoint c)) → m ≡ Order (Checkpoint c)
whole_checkpoint (Order (Checkpoint checkpoint)) c e = e
whole_checkpoint (Order other) c e = absurd cc
whole_checkpoint other c e = absurd cc

checkpoint_said : (sent : Messages) (c : model.Checkpoint) → HasSaid sent (Order (Checkpoint c)) → (s : Signed Message) × IsIn s sent × (s.message ≡ Order (Checkpoint c))
checkpoint_said sent c said = elim said.2 [
  | inl e ↦ (said.0, said.1, whole_checkpoint said.0.message c e)
  | inr offer ↦
      let two = offer_tag said.0.message offer.0 offer.1 in
      let five : (header offer.0).tag ≡ 5 = ap (λ (h : Header). h.tag) (same_header offer.0.message (Checkpoint c) offer.2) in
      absurd (omega (arith, two, five))
]

-- who tells a checkpoint by what shows it
told_by : (c : StableCheckpoint) (k : ℕ) → Told (headers (checkpoints_in c)) 5 k 0 c.number c.digest
    → (s : Signed model.Checkpoint) × IsIn s c.checkpoints × Is (header (as_message Checkpoint s)) 5 k 0 c.number c.digest
told_by c k x =
    let at = told_in (headers (checkpoints_in c)) 5 k 0 c.number c.digest x in
    let from = out_of_map header (checkpoints_in c) at.0 at.1 in
    let it = out_of_map (as_message Checkpoint) c.checkpoints from.0 from.1 in
    (it.0, it.1, subst (λ (h : Header). Is h 5 k 0 c.number c.digest) (from.2 ∙ ap header it.2) at.2)

-- What is known -----------------------------------------------------------------------------------------------------------------

pub comes_on : (start : Beginning) (faulty : ℕ → Bool) (w after : NodeReplicas) → ((k n : ℕ) (b : model.Batch) → Executed (w k) n b → Executed (after k) n b)
    → (n : ℕ) (files : FileSystem) (table : Table) → ComesOfBatches start faulty w n files table → ComesOfBatches start faulty after n files table
comes_on start faulty w after on zero files table c = c
comes_on start faulty w after on (suc n) files table c =
    (c.0, c.1, comes_on start faulty w after on n c.0 c.1 c.2, c.3, c.4, c.5, on c.3 (suc n) c.5 c.6, c.7, c.8)

-- a CHECKPOINT that a replica has sent tells of a state that it was in
pub record WasThere (r : NodeReplica) (c : model.Checkpoint) : Type 0 where
  pub standing : Standing
  pub reached : IsIn standing r.reached
  pub number : standing.number ≡ c.number
  pub digest : standing_digest standing ≡ c.digest

pub record StatesKnown (start : Beginning) (faulty : ℕ → Bool) (w : NodeReplicas) : Type 0 where
  pub whole : (i : ℕ) → AllIn (λ (m : Signed OrderMessage). IsWhole m.message) (w i).executed
  pub comes : (i : ℕ) (s : Standing) → faulty i ≡ false → IsIn s (w i).reached → ComesOfBatches start faulty w s.number s.files s.table
  pub here : (i : ℕ) (files : FileSystem) → (w i).node.files ≡ Some files → IsIn (standing_at (w i).node files) (w i).reached
  pub told : (i : ℕ) (s : Signed Message) (c : model.Checkpoint) → IsIn s (w i).sent → s.message ≡ Order (Checkpoint c) → WasThere (w i) c

-- A step --------------------------------------------------------------------------------------------------------------------------

pub both_at : (w : NodeReplicas) (turn : NodeTurn) (P : ℕ → NodeReplica → Type 0) → P turn.who (after_node_step (w turn.who) turn.step) → ((i : ℕ) → P i (w i)) → (i : ℕ) → P i (after_node_turn w turn i)
both_at w turn P here all i =
    let next = after_node_step (w turn.who) turn.step in
    cond_both (i == turn.who) next (w i) (P i) (λ e. subst (λ (k : ℕ). P k next) (sym (eqb-true i turn.who e)) here) (λ _. all i)

pub reached_on : (w : NodeReplicas) (turn : NodeTurn) (i : ℕ) (s : Standing) → IsIn s (w i).reached → IsIn s (after_node_turn w turn i).reached
reached_on w turn i s = both_at w turn (λ i r. IsIn s (w i).reached → IsIn s r.reached)
    (λ j. right_in (standing_of (after_node_step (w turn.who) turn.step).node) (w turn.who).reached s j) (λ k j. j) i

executed_on_turn : (w : NodeReplicas) (turn : NodeTurn) (i n : ℕ) (b : model.Batch) → Executed (w i) n b → Executed (after_node_turn w turn i) n b
executed_on_turn w turn i n b = both_at w turn (λ i r. Executed (w i) n b → Executed r n b)
    (λ x. (x.0, right_in (executed_by (w turn.who).node turn.step) (w turn.who).executed x.0 x.1, x.2)) (λ k x. x) i

pub here_after : (w : NodeReplicas) (turn : NodeTurn) → after_node_turn w turn turn.who ≡ after_node_step (w turn.who) turn.step
here_after w turn = ap (λ (b : Bool). cond b (after_node_step (w turn.who) turn.step) (w turn.who)) (eq-eqb turn.who turn.who refl)

module _ (meet : QuorumsMeet) (stable : CertificatesMakeStable) (start : Beginning) (f : ℕ) (faulty : ℕ → Bool) (few : FewAreFaulty f faulty) where
  -- the state that a certificate tells of is that of a correct replica
  pub record IsVouched (w : NodeReplicas) (certificate : StableCheckpoint) : Type 0 where
    pub who : ℕ
    pub correct : faulty who ≡ false
    pub standing : Standing
    pub reached : IsIn standing (w who).reached
    pub number : standing.number ≡ certificate.number
    pub digest : standing_digest standing ≡ certificate.digest

  -- by one of its CHECKPOINTs, which a correct replica sent
  vouched_for : (w : NodeReplicas) → StatesKnown start faulty w → (keys : Keys) (certificate : StableCheckpoint) → is_shown keys f certificate ≡ true → ((m : Signed Message) → IsAmong m (checkpoints_in certificate) → IsAuthentic faulty w keys m)
      → (k : ℕ) → faulty k ≡ false → (s : Signed model.Checkpoint) → IsIn s certificate.checkpoints → Is (header (as_message Checkpoint s)) 5 k 0 certificate.number certificate.digest → IsVouched w certificate
  vouched_for w known_of keys certificate right authentic k correct s i is =
      let m = as_message Checkpoint s in
      let there = in_map (as_message Checkpoint) certificate.checkpoints s i in
      let signed = (at_in (IsVoucher keys f certificate.number certificate.digest) (checkpoints_in certificate) (vouched_by keys f certificate right).each m there).signed in
      let sent = checkpoint_said (w k).sent s.message (authentic (as_message Order m) (in_map (as_message Order) (checkpoints_in certificate) m there) k (ap principal.Replica is.sender) signed correct) in
      let was = known_of.told k sent.0 s.message sent.1 sent.2 in
      record { who = k; correct = correct; standing = was.standing; reached = was.reached; number = was.number ∙ is.number; digest = was.digest ∙ is.digest }

  vouched : (w : NodeReplicas) → StatesKnown start faulty w → (keys : Keys) (certificate : StableCheckpoint) → is_shown keys f certificate ≡ true → ((m : Signed Message) → IsAmong m (checkpoints_in certificate) → IsAuthentic faulty w keys m) → IsVouched w certificate
  vouched w known_of keys certificate right authentic =
      let n = certificate.number in
      let d = certificate.digest in
      let hs = headers (checkpoints_in certificate) in
      let p = λ (k : ℕ). told hs 5 k 0 n d in
      let many = leb-true (2 * f + 1) (tellers f hs 5 0 n d) (stable keys f certificate right).stable in
      let got = meet f p p faulty many many few in
      let by = told_by certificate got.0 got.2 in
      vouched_for w known_of keys certificate right authentic got.0 got.4 by.0 by.1 by.2

  abbrev IsReached : NodeReplicas → Standing → Type 0
  IsReached w s = ComesOfBatches start faulty w s.number s.files s.table

  -- What a step leaves: the state of the node that takes it comes of batches too
  module _ (w : NodeReplicas) (turn : NodeTurn) (known_of : StatesKnown start faulty w) (correct : faulty turn.who ≡ false) (same_f : (w turn.who).node.order.f ≡ f)
      (authentic : Comes (IsAuthentic faulty w (w turn.who).node.keys) turn.step) (apart : StatesDontCollide faulty (after_node_turn w turn)) where
    abbrev node : Node
    node = (w turn.who).node

    abbrev after : NodeReplicas
    after = after_node_turn w turn

    grown : (s : Standing) → IsReached w s → IsReached after s
    grown s = comes_on start faulty w after (executed_on_turn w turn) s.number s.files s.table

    before : (files : FileSystem) → node.files ≡ Some files → IsReached after (standing_at node files)
    before files live = grown (standing_at node files) (known_of.comes turn.who (standing_at node files) correct (known_of.here turn.who files live))

    stays : (now : Node) (files : FileSystem) → IsStill node now → now.files ≡ Some files → IsReached after (standing_at now files)
    stays now files still live =
        subst (IsReached after) (ap₂ (λ (n : ℕ) (t : Table). record { number = n; files = files; table = t }) (sym still.2) (sym still.1)) (before files (sym still.0 ∙ live))

    executes : turn.step ≡ Executes → (files : FileSystem) → (result node Executes).now.files ≡ Some files → IsReached after (standing_at (result node Executes).now files)
    executes is files = go node.files (next_committed node.order) refl refl
      where
        executed : (live : FileSystem) (next : Committed) → node.files ≡ Some live → next_committed node.order ≡ Some next → Executed (after turn.who) next.number next.batch
        executed live next e n =
            let m = executes_next node live next e n in
            let by_step = subst (λ (step : NodeStep). IsIn m.0 (executed_by node step)) (sym is) m.1 in
            subst (λ (r : NodeReplica). Executed r next.number next.batch) (sym (here_after w turn)) (m.0, left_in (executed_by node turn.step) (w turn.who).executed m.0 by_step, m.2)

        go : (o : Option FileSystem) (next : Option Committed) → node.files ≡ o → next_committed node.order ≡ next → (after_execution node (execution_on node o next)).now.files ≡ Some files
            → IsReached after (standing_at (after_execution node (execution_on node o next)).now files)
        go None next e n live = stays node files (refl, refl, refl) live
        go (Some old) None e n live = stays node files (refl, refl, refl) live
        go (Some old) (Some next) e n live =
            let made = outcome.outcome old node.table next.batch in
            let follows = next_follows node.order next n in
            let number : next.number ≡ suc node.order.last = omega (arith, follows) in
            let by = subst (λ (k : ℕ). Executed (after turn.who) k next.batch) number (executed old next e n) in
            subst (λ (k : ℕ). IsReached after (record { number = k; files = files; table = made.table })) (sym number)
            (old, node.table, before old e, turn.who, correct, next.batch, by, sym (some_is made.files files live), refl)

    adopts : (certificate : StableCheckpoint) (files : FileSystem) (table : Table) → turn.step ≡ Adopts certificate files table → ((m : Signed Message) → IsAmong m (checkpoints_in certificate) → IsAuthentic faulty w node.keys m)
        → (live : FileSystem) → (result node (Adopts certificate files table)).now.files ≡ Some live
        → IsReached after (standing_at (result node (Adopts certificate files table)).now live)
    adopts certificate files table is authentic live = go (may_adopt node certificate && right) refl
      where
        right : Bool
        right = bytes_eq (node_digest files table) certificate.digest

        -- where it stands then
        here : (now : Node) → (result node turn.step).now ≡ now → now.files ≡ Some live → IsIn (standing_at now live) (after turn.who).reached
        here now at e = subst (λ (r : NodeReplica). IsIn (standing_at now live) r.reached) (sym (here_after w turn))
            (subst (λ (x : Node). IsIn (standing_at now live) (standing_of x ++ (w turn.who).reached)) (sym at) (here_now now live (w turn.who).reached e))

        ahead : is_ahead node certificate.number ≡ true → max node.order.last certificate.number ≡ certificate.number
        ahead e = elim (or_cases (nat_lt node.order.last certificate.number) ((certificate.number == node.order.last) && not (is_some node.files)) e) [
          | inl a ↦ let lt = ltb-true node.order.last certificate.number a in omega (arith, lt)
          | inr b ↦ let same = eqb-true certificate.number node.order.last (and_parts (certificate.number == node.order.last) (not (is_some node.files)) b).0 in omega (arith, same)
        ]

        go : (b : Bool) → (may_adopt node certificate && right) ≡ b
            → (cond b (still (adopted node certificate files table)) (still node)).now.files ≡ Some live → IsReached after (standing_at (cond b (still (adopted node certificate files table)) (still node)).now live)
        go false e live_is = stays node live (refl, refl, refl) live_is
        go true e live_is =
            let both = and_parts (may_adopt node certificate) right e in
            let may = and_parts (is_shown node.keys node.order.f certificate) (is_ahead node certificate.number) both.0 in
            let proved = subst (λ (g : ℕ). is_shown node.keys g certificate ≡ true) same_f may.0 in
            let vouch = vouched w known_of node.keys certificate proved authentic in
            let same : files ≡ live = some_is files live live_is in
            let last = ahead may.1 in
            let digest : node_digest live table ≡ certificate.digest = ap (λ (x : FileSystem). node_digest x table) (sym same) ∙ (bytes_eq-Decides (node_digest files table) certificate.digest).0 both.1 in
            let now_is : (result node turn.step).now ≡ adopted node certificate files table =
            ap (λ (step : NodeStep). (result node step).now) is ∙ ap (λ (b : Bool). (cond b (still (adopted node certificate files table)) (still node)).now) e in
            let mine = here (adopted node certificate files table) now_is live_is in
            let there = reached_on w turn vouch.who vouch.standing vouch.reached in
            let one = apart turn.who vouch.who (standing_at (adopted node certificate files table) live) vouch.standing correct vouch.correct mine there
            (last ∙ sym vouch.number) (digest ∙ sym vouch.digest) in
            let was = grown vouch.standing (known_of.comes vouch.who vouch.standing vouch.correct vouch.reached) in
            let reached = λ (n : ℕ) (x : FileSystem) (t : Table). ComesOfBatches start faulty after n x t in
            subst (λ (n : ℕ). reached n live table) (vouch.number ∙ sym last)
            (subst (λ (x : FileSystem). reached vouch.standing.number x table) (sym one.0) (subst (λ (t : Table). reached vouch.standing.number vouch.standing.files t) (sym one.1) was))

    -- where it stands after the step
    pub new_state : (step : NodeStep) → turn.step ≡ step → StandsBy node step → Comes (IsAuthentic faulty w node.keys) step → (files : FileSystem) → (result node step).now.files ≡ Some files
        → IsReached after (standing_at (result node step).now files)
    new_state Executes is still comes files live = executes is files live
    new_state Fails is still comes files live = absurd cc
    new_state (Adopts certificate state table) is still comes files live = adopts certificate state table is comes files live
    new_state step is still comes files live = stays (result node step).now files still live

  -- All of it stays so ------------------------------------------------------------------------------------------------------------

  pub states_on : (w : NodeReplicas) (turn : NodeTurn) → StatesKnown start faulty w → (w turn.who).node.order.f ≡ f → AllIn (λ (m : Signed OrderMessage). IsWhole m.message) (w turn.who).node.order.log
      → Comes (IsAuthentic faulty w (w turn.who).node.keys) turn.step → StandsBy (w turn.who).node turn.step
      → ((s : Signed Message) (c : model.Checkpoint) → IsIn s (result (w turn.who).node turn.step).sent → s.message ≡ Order (Checkpoint c) → IsOwnCheckpoint (w turn.who).node c)
      → StatesDontCollide faulty (after_node_turn w turn) → StatesKnown start faulty (after_node_turn w turn)
  states_on w turn known_of same_f whole authentic stands tells apart =
      let who = turn.who in
      let node = (w who).node in
      let now = (result node turn.step).now in
      let sent = (result node turn.step).sent in
      let on = comes_on start faulty w (after_node_turn w turn) (executed_on_turn w turn) in
      record {
        whole = both_at w turn (λ i r. AllIn (λ (m : Signed OrderMessage). IsWhole m.message) r.executed)
            (both_in (λ (m : Signed OrderMessage). IsWhole m.message) (executed_by node turn.step) (w who).executed (λ m i. whole m (executed_in node turn.step m i)) (known_of.whole who)) known_of.whole;
        comes = both_at w turn (λ i r. (s : Standing) → faulty i ≡ false → IsIn s r.reached → IsReached (after_node_turn w turn) s)
            (λ s correct i. elim (either_in (standing_of now) (w who).reached s i) [
              | inl j ↦
                  let at = there_is now s j in
                  subst (IsReached (after_node_turn w turn)) (sym at.2) (new_state w turn known_of correct same_f authentic apart turn.step refl stands authentic at.0 at.1)
              | inr j ↦ on s.number s.files s.table (known_of.comes who s correct j)
            ])
            (λ i s correct j. on s.number s.files s.table (known_of.comes i s correct j));
        here = both_at w turn (λ i r. (files : FileSystem) → r.node.files ≡ Some files → IsIn (standing_at r.node files) r.reached)
            (λ files e. here_now now files (w who).reached e) known_of.here;
        told = both_at w turn (λ i r. (s : Signed Message) (c : model.Checkpoint) → IsIn s r.sent → s.message ≡ Order (Checkpoint c) → WasThere r c)
            (λ s c i e. elim (either_in sent (w who).sent s i) [
              | inl j ↦
                  let own = tells s c j e in
                  let standing = standing_at node own.0 in
                  record { standing = standing; reached = right_in (standing_of now) (w who).reached standing (known_of.here who own.0 own.1); number = sym own.2; digest = sym own.3 }
              | inr j ↦
                  let was = known_of.told who s c j e in
                  record { standing = was.standing; reached = right_in (standing_of now) (w who).reached was.standing was.reached; number = was.number; digest = was.digest }
            ])
            known_of.told;
      }

-- at the beginning
pub new_states : (f : ℕ) (keys : Keyring) (start : Beginning) (faulty : ℕ → Bool) → StatesKnown start faulty (new_node_replicas f keys start)
new_states f keys start faulty = record {
  whole = λ i. none_in (λ (m : Signed OrderMessage). IsWhole m.message);
  comes = λ i s correct j. elim j [
    | inl e ↦
        subst (λ (x : Standing). ComesOfBatches start faulty (new_node_replicas f keys start) x.number x.files x.table) (sym e) (refl, refl)
    | inr none ↦ absurd none
  ];
  here = λ i files e. subst (λ (x : FileSystem). IsIn (record { number = 0; files = x; table = start.table }) (standing_of (beginning_node f keys start i))) (some_is start.files files e) (inl refl);
  told = λ i s c j e. absurd j;
}

-- One state ---------------------------------------------------------------------------------------------------------------------

pub one_state : (start : Beginning) (faulty : ℕ → Bool) (w : NodeReplicas)
    → ((i j number : ℕ) (batch other : model.Batch) → faulty i ≡ false → faulty j ≡ false → Executed (w i) number batch → Executed (w j) number other → batch ≡ other)
    → (n : ℕ) (files others : FileSystem) (table other : Table) → ComesOfBatches start faulty w n files table → ComesOfBatches start faulty w n others other → (files ≡ others) × (table ≡ other)
one_state start faulty w agree zero files others table other a b = (a.0 ∙ sym b.0, a.1 ∙ sym b.1)
one_state start faulty w agree (suc n) files others table other a b =
    let before = one_state start faulty w agree n a.0 b.0 a.1 b.1 a.2 b.2 in
    let batch = agree a.3 b.3 (suc n) a.5 b.5 a.4 b.4 a.6 b.6 in
    let made : outcome.outcome a.0 a.1 a.5 ≡ outcome.outcome b.0 b.1 b.5 =
    ap₂ (λ (x : FileSystem) (t : Table). outcome.outcome x t a.5) before.0 before.1 ∙ ap (outcome.outcome b.0 b.1) batch in
    (a.7 ∙ ap (λ (o : outcome.Outcome). o.files) made ∙ sym b.7, a.8 ∙ ap (λ (o : outcome.Outcome). o.table) made ∙ sym b.8)
