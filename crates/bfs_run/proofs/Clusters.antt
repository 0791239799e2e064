-- What a cluster of replicas does is steps of its nodes.
use Rattle.std.proofs.Common.{◌≡◌, ℕ, zero, suc, ◌+◌, ◌==◌, Bool, true, false, cond, ◌&&◌, List, [], ◌∷◌, ◌++◌, length, ◌⊎◌, Option, Some, None, option_map, inl, inr, refl, sym, ap, ap₂, subst, ◌∙◌, append-nil}
use Rattle.std.specs.Prelude.{nat_lt}
use Rattle.std.specs.List.{find, fold, list_any, range_with_len, slice_get, slice_set}
use Rattle.std.proofs.lemmas.Slice.Eq.{bytes_eq-Decides}
use Rattle.bfs_model.specs.Bytes.Call.{◌>>=◌}
use Rattle.bfs_model.specs.Server.Tree.{Time}
use Rattle.bfs_checkpoints.specs.Keeping.{Kept, is_of, stable, stable_of}
use Rattle.bfs_checkpoints.specs.Texts.{node_digest}
use Rattle.bfs_log.specs.Certificates.{StableCheckpoint}
use Rattle.bfs_messages.specs.Messages as model
use Rattle.bfs_messages.specs.declared.signed.Signed.{Signed}
use Rattle.bfs_messages.specs.declared.message.Message.{Message}
use Rattle.bfs_messages.specs.declared.message.Message.TheVariants.{Request}
use Rattle.bfs_settings.specs.Settings.{Settings}
use Rattle.bfs_order.specs.Laws.Calls.{CallsKeepTheReplica}
use Rattle.bfs_agreement.specs.Histories.{IsIn}
use Rattle.bfs_node.specs.Adopting.{adopted}
use Rattle.bfs_node.specs.Advancing.{advancing, followed_by, next_of, unless_refused, with_due_checkpoint}
use Rattle.bfs_node.specs.Changing.{timed_out, timeout_refusal}
use Rattle.bfs_node.specs.Checkpoints.{checkpoint, checkpoint_refusal}
use Rattle.bfs_node.specs.Delivering.{delivered, delivery_refusal}
use Rattle.bfs_node.specs.Executing.{execution}
use Rattle.bfs_node.specs.Nodes.{Messages, Node, Outcome}
use Rattle.bfs_node.specs.Proposing.{proposal_refusal, proposed}
use Rattle.bfs_node.specs.Receivers.{receivers_of}
use Rattle.bfs_node.specs.declared.error.NodeError.{NodeError}
use Rattle.bfs_node.specs.declared.receivers.Receivers.{Receivers}
use Rattle.bfs_node.specs.declared.receivers.Receivers.TheVariants.{Replicas, Client}
use Rattle.bfs_cluster.specs.Blocks.{each_does, proposal, requested}
use Rattle.bfs_cluster.specs.CatchingUp.{CatchesUp, Offer, Takes as TakesOffer, Times, ahead_of, if_above, offered, or_else}
use Rattle.bfs_cluster.specs.Steps.{Rests, Round, Settles, after, delivering, delivery, handed, has_ready, onward, passed_on, step as next_step, step_at, turn_taken, turning}
use Rattle.bfs_cluster.specs.Timeouts.{timing_out, waiting_proposal}
use Rattle.bfs_cluster.specs.World as cluster
use Rattle.bfs_cluster.specs.World.{Broadcast, Replica, done_by, done_if, node_at, node_if_heard, noted, posted, posted_to, with_hearing, with_node, hearing}
use Rattle.bfs_nodes_agree.specs.Nodes.Laws.{WhatIsSentIsFair}
use Rattle.bfs_nodes_agree.specs.Nodes.Replicas.{NodeReplica, NodeTurn}
use Rattle.bfs_nodes_agree.specs.Nodes.Steps as nodes
use Rattle.bfs_nodes_agree.specs.Nodes.Steps.{NodeStep, outcome, still, unless}
use Rattle.bfs_nodes_agree.proofs.Public.{AllIn, both_at, both_in, here_after, left_in, one_in, some_is}
use Rattle.bfs_one_server.specs.Worlds.{Act, Steps, World, after_act}
use Rattle.bfs_run.specs.Acts.{AskOnce, WasSentTo}
use Rattle.bfs_run.proofs.Acting.{IsSigned, IsTold, Knows, MayCome, Reached, sent_on, steps, was_sent_on}
use Rattle.bfs_run.proofs.Carrying.{IsShownIf}

-- Lists -------------------------------------------------------------------------------------------------------------------------

-- where one is put, there it stands, and elsewhere the others
placed : {X : Type 0} (xs : List X) (n k : ℕ) (x y : X) → slice_get (slice_set xs n x) k ≡ Some y → ((k ≡ n) × (y ≡ x)) ⊎ (((k ≡ n) → ⊥) × (slice_get xs k ≡ Some y))
placed [] n k x y e = absurd (none k e)
  where
    none : {X : Type 0} {y : X} (k : ℕ) → slice_get [] k ≡ Some y → ⊥
    none zero e = absurd cc
    none (suc k) e = absurd cc
placed (z ∷ xs) zero zero x y e = inl (refl, sym (some_is x y e))
placed (z ∷ xs) zero (suc k) x y e = inr ((λ same. absurd cc), e)
placed (z ∷ xs) (suc n) zero x y e = inr ((λ same. absurd cc), e)
placed (z ∷ xs) (suc n) (suc k) x y e = elim (placed xs n k x y e) [
  | inl at ↦ inl (ap (λ (i : ℕ). suc i) at.0, at.1)
  | inr other ↦ inr ((λ same. other.0 (let less : k ≡ n = cc in less)), other.1)
]

heard_is : (o : Option Replica) (node : Node) → node_if_heard o ≡ Some node → (r : Replica) × (o ≡ Some r) × (r.node ≡ node)
heard_is None node e = absurd cc
heard_is (Some r) node e = (elim r.heard as (λ b. cond b (Some r.node) None ≡ Some node → (x : Replica) × (Some r ≡ Some x) × (x.node ≡ node)) [
  | true ↦ λ same. (r, refl, some_is r.node node same)
  | false ↦ λ same. absurd cc
]) e

-- What is known of a cluster ----------------------------------------------------------------------------------------------------

module _ (settings : Settings) (liar : ℕ → Bool) (requests : List model.Request) (begun : List Act) (A : model.Request → Type 0) (H : Signed Message → Type 0) where
  -- what is on its way was sent; what has to be signed is, and what has to be heard
  pub record Past (w : World) (on_way : List Broadcast) (to_clients : Messages) : Type 0 where
    pub reached : Reached settings liar requests begun w
    pub queue : (b : Broadcast) → IsIn b on_way → (k : ℕ) × IsIn b.signed (w.nodes k).sent
    pub replies : (m : Signed Message) → IsIn m to_clients → (c : ℕ) × WasSentTo w c m
    pub signed : (q : model.Request) → A q → IsIn q (w.clients q.client).signed
    pub came : (c : ℕ) (m : Signed Message) → H m → receivers_of m.message ≡ Client c → IsIn m (w.clients c).heard

  -- each replica is as acts leave it
  abbrev pub Mirrors : World → List Replica → Type 0
  Mirrors w replicas = (k : ℕ) (r : Replica) → slice_get replicas k ≡ Some r → r.node ≡ (w.nodes k).node

  abbrev At : World → cluster.World → Type 0
  At w cw = Past w cw.queue cw.replies × Mirrors w cw.replicas

  abbrev pub Stands : cluster.World → Type 0
  Stands cw = (w : World) × Past w cw.queue cw.replies × Mirrors w cw.replicas

  -- a replica has done that, and it is not posted yet
  record Ready (cw : cluster.World) (number : ℕ) (w : World) (done : Outcome) : Type 0 where
    past : Past w cw.queue cw.replies
    others : (k : ℕ) (r : Replica) → slice_get cw.replicas k ≡ Some r → ((k ≡ number) → ⊥) → r.node ≡ (w.nodes k).node
    here : (w.nodes number).node ≡ done.now
    sent : (m : Signed Message) → IsIn m done.sent → IsIn m (w.nodes number).sent

  post_one : (w : World) (sender : ℕ) (cw : cluster.World) (m : Signed Message) → IsIn m (w.nodes sender).sent → At w cw → At w (posted sender cw m)
  post_one w sender cw m there at = go (receivers_of m.message) refl
    where
      go : (to : Receivers) → receivers_of m.message ≡ to → At w (posted_to sender (noted sender cw m) m to)
      go Replicas e =
          let sent = λ (b : Broadcast). (k : ℕ) × IsIn b.signed (w.nodes k).sent in
          let b : Broadcast = record { sender = sender; next = 0; signed = m } in
          let queue = both_in sent cw.queue (b ∷ []) at.0.queue (one_in sent b (sender, there)) in
          (record { reached = at.0.reached; queue = queue; replies = at.0.replies; signed = at.0.signed; came = at.0.came }, at.1)
      go (Client c) e =
          let sent = λ (x : Signed Message). (b : ℕ) × WasSentTo w b x in
          let replies = both_in sent cw.replies (m ∷ []) at.0.replies (one_in sent m (c, record { sender = sender; sent = there; receiver = e })) in
          (record { reached = at.0.reached; queue = at.0.queue; replies = replies; signed = at.0.signed; came = at.0.came }, at.1)

  post_all : (w : World) (sender : ℕ) (ms : Messages) (cw : cluster.World) → AllIn (λ (m : Signed Message). IsIn m (w.nodes sender).sent) ms → At w cw → At w (fold (posted sender) cw ms)
  post_all w sender [] cw sent at = at
  post_all w sender (m ∷ ms) cw sent at = post_all w sender ms (posted sender cw m) (λ x i. sent x (inr i)) (post_one w sender cw m (sent m (inl refl)) at)

  posts : (cw : cluster.World) (number : ℕ) (w : World) (done : Outcome) → Ready cw number w done → Stands (done_by number cw done)
  posts cw number w done ready =
      let there : Mirrors w (with_node cw number done.now).replicas = λ k r e. elim (placed cw.replicas number k (record { heard = true; node = done.now }) r e) [
        | inl at ↦ ap (λ (x : Replica). x.node) at.1 ∙ sym ready.here ∙ ap (λ (i : ℕ). (w.nodes i).node) (sym at.0)
        | inr other ↦ ready.others k r other.1 other.0
      ] in
      let at = post_all w number done.sent (with_node cw number done.now) ready.sent (ready.past, there) in
      (w, at.0, at.1)

  idle : (cw : cluster.World) (number : ℕ) (s : Stands cw) (node : Node) → node_at cw number ≡ Some node → Ready cw number s.0 (still node)
  idle cw number s node e =
      let r = heard_is (slice_get cw.replicas number) node e in
      record { past = s.1; others = λ k x at apart. s.2 k x at; here = sym (s.2 number r.0 r.1) ∙ r.2; sent = λ m i. absurd i }

  module _ (once : AskOnce liar requests) (same : CallsKeepTheReplica) (fair : WhatIsSentIsFair) where
    abbrev taken : World → (number : ℕ) → NodeStep → World
    taken w number step = after_act w (Steps (record { who = number; step = step }))

    step_past : (queue : List Broadcast) (replies : Messages) (number : ℕ) (w : World) (step : NodeStep) → Past w queue replies → Knows w step → Past (taken w number step) queue replies
    step_past queue replies number w step past knows =
        let turn : NodeTurn = record { who = number; step = step } in
        record {
          reached = steps settings liar requests begun once same fair w past.reached turn knows;
          queue = λ b i. let was = past.queue b i in (was.0, sent_on w (Steps turn) was.0 b.signed was.1);
          replies = λ m i. let was = past.replies m i in (was.0, was_sent_on w (Steps turn) was.0 m was.1);
          signed = past.signed;
          came = past.came;
        }

    then : (cw : cluster.World) (number : ℕ) (w : World) (done : Outcome) (step : NodeStep) → Ready cw number w done → Knows w step
        → Ready cw number (taken w number step) (record { now = (outcome done.now step).now; sent = done.sent ++ (outcome done.now step).sent })
    then cw number w done step ready knows =
        let turn : NodeTurn = record { who = number; step = step } in
        let after = (taken w number step).nodes in
        let here = here_after w.nodes turn in
        record {
          past = step_past cw.queue cw.replies number w step ready.past knows;
          others = λ k r at apart. both_at w.nodes turn (λ i x. ((i ≡ number) → ⊥) → r.node ≡ (w.nodes i).node → r.node ≡ x.node) (λ differ e. absurd (differ refl)) (λ i differ e. e) k apart (ready.others k r at apart);
          here = ap (λ (x : NodeReplica). x.node) here ∙ ap (λ (n : Node). (outcome n step).now) ready.here;
          sent = both_in (λ (m : Signed Message). IsIn m (after number).sent) done.sent (outcome done.now step).sent (λ m i. sent_on w (Steps turn) number m (ready.sent m i))
              (λ m i. subst (λ (x : NodeReplica). IsIn m x.sent) (sym here) (left_in (outcome (w.nodes number).node step).sent (w.nodes number).sent m (subst (λ (n : Node). IsIn m (outcome n step).sent) (sym ready.here) i)));
        }

    -- what a replica does that is heard, as a step of its node
    abbrev pub Can : cluster.World → (act : Node → Option Outcome) → Type 0
    Can cw act = (w : World) → Past w cw.queue cw.replies → (node : Node) (done : Outcome) → act node ≡ Some done → (step : NodeStep) × Knows w step × (outcome node step ≡ done)

    did : (cw : cluster.World) (number : ℕ) (act : Node → Option Outcome) → Can cw act → Stands cw → (o : Option Node) → node_at cw number ≡ o → (p : Option Outcome) → (o >>= act) ≡ p → Stands (done_if number cw p)
    did cw number act can s o at None e = s
    did cw number act can s None at (Some done) e = absurd cc
    did cw number act can s (Some node) at (Some done) e =
        let ready = idle cw number s node at in
        let step = can s.0 s.1 node done e in
        posts cw number (taken s.0 number step.0) done (subst (Ready cw number (taken s.0 number step.0)) step.2 (then cw number s.0 (still node) step.0 ready step.1))

    each_of : (act : Node → Option Outcome) → ((cw : cluster.World) → Can cw act) → (numbers : List ℕ) (cw : cluster.World) → Stands cw → Stands (fold (λ so_far number. done_if number so_far (node_at so_far number >>= act)) cw numbers)
    each_of act can [] cw s = s
    each_of act can (number ∷ numbers) cw s = each_of act can numbers (done_if number cw (node_at cw number >>= act)) (did cw number act (can cw) s (node_at cw number) refl (node_at cw number >>= act) refl)

    each : (act : Node → Option Outcome) → ((cw : cluster.World) → Can cw act) → (cw : cluster.World) → Stands cw → Stands (each_does act cw)
    each act can cw s = each_of act can (range_with_len 0 (length cw.replicas)) cw s

    -- What replicas do ----------------------------------------------------------------------------------------------------------

    -- what is not refused
    taken_so : (node : Node) (r : Option NodeError) (out done : Outcome) → unless_refused r (Some out) ≡ Some done → unless r node out ≡ done
    taken_so node None out done e = some_is out done e
    taken_so node (Some refused) out done e = absurd cc

    takes : (cw : cluster.World) (m : Signed Message) → ((w : World) → Past w cw.queue cw.replies → MayCome w m) → Can cw (delivery m)
    takes cw m may w past node done e = (nodes.Takes m, may w past, taken_so node (delivery_refusal node m) (delivered node m) done e)

    proposes : (time : Time) (cw : cluster.World) → Can cw (proposal time)
    proposes time cw w past node done e = (nodes.Proposes time, tt, taken_so node (proposal_refusal node) (proposed node time) done e)

    pub waits : (time : Time) (cw : cluster.World) → Stands cw → Stands (each_does (waiting_proposal time) cw)
    waits time = each (waiting_proposal time) (λ cw w past node done. elim (length node.pending == 0) as (λ b. cond b None (proposal time node) ≡ Some done → (step : NodeStep) × Knows w step × (outcome node step ≡ done)) [
      | true ↦ λ e. absurd cc
      | false ↦ proposes time cw w past node done
    ])

    pub times_out : (cw : cluster.World) → Stands cw → Stands (each_does timing_out cw)
    times_out = each timing_out (λ cw w past node done e. (nodes.TimesOut, tt, taken_so node (timeout_refusal node) (timed_out node) done e))

    all_requested : (ms : Messages) → AllIn (λ (m : Signed Message). (q : model.Request) × (m.message ≡ Request q) × A q) ms → (cw : cluster.World) → Stands cw → Stands (fold requested cw ms)
    all_requested [] asked cw s = s
    all_requested (m ∷ ms) asked cw s =
        let q = asked m (inl refl) in
        all_requested ms (λ x i. asked x (inr i)) (requested cw m) (each (delivery m) (λ now. takes now m (λ w past. inr (q.0, q.1, past.signed q.0 q.2))) cw s)

    pub block_comes : (time : Time) (ms : Messages) → AllIn (λ (m : Signed Message). (q : model.Request) × (m.message ≡ Request q) × A q) ms → (cw : cluster.World) → Stands cw → Stands (each_does (proposal time) (fold requested cw ms))
    block_comes time ms asked cw s = each (proposal time) (proposes time) (fold requested cw ms) (all_requested ms asked cw s)

    -- Steps ---------------------------------------------------------------------------------------------------------------------

    -- a batch is executed, and then a checkpoint made, if it is due
    due : (first : Outcome) → with_due_checkpoint first ≡ record { now = (outcome first.now nodes.Checkpoints).now; sent = first.sent ++ (outcome first.now nodes.Checkpoints).sent }
    due first = go (checkpoint_refusal first.now) (checkpoint first.now)
      where
        go : (r : Option NodeError) (o : Option Outcome)
            → followed_by first (unless_refused r o) ≡ record { now = (unless r first.now (nodes.or_still first.now o)).now; sent = first.sent ++ (unless r first.now (nodes.or_still first.now o)).sent }
        go (Some refused) o = ap (λ (l : Messages). record { now = first.now; sent = l }) (sym (append-nil first.sent))
        go None None = ap (λ (l : Messages). record { now = first.now; sent = l }) (sym (append-nil first.sent))
        go None (Some told) = refl

    advanced : (cw : cluster.World) (number : ℕ) → Stands cw → (o : Option Node) → node_at cw number ≡ o → (done : Outcome) → (o >>= advancing) ≡ Some done → Stands (done_by number cw done)
    advanced cw number s None at done e = absurd cc
    advanced cw number s (Some node) at done e = go (execution node) refl e
      where
        go : (o : Option (Option Outcome)) → execution node ≡ o → option_map with_due_checkpoint (next_of o) ≡ Some done → Stands (done_by number cw done)
        go None is h = absurd cc
        go (Some None) is h = absurd cc
        go (Some (Some first)) is h =
            let v = taken s.0 number nodes.Executes in
            let executed = subst (Ready cw number v) (ap (nodes.after_execution node) is) (then cw number s.0 (still node) nodes.Executes (idle cw number s node at) tt) in
            let all = subst (Ready cw number (taken v number nodes.Checkpoints)) (sym (due first) ∙ some_is (with_due_checkpoint first) done h) (then cw number v first nodes.Checkpoints executed tt) in
            posts cw number (taken v number nodes.Checkpoints) done all

    turns : (cw : cluster.World) (number : ℕ) → Stands cw → Stands (turning cw number)
    turns cw number s = elim (nat_lt number (length cw.replicas)) as (λ b. Stands (cond b (turn_taken cw number (node_at cw number >>= advancing)) (record cw { turn = None }))) [
      | true ↦ (elim (node_at cw number >>= advancing) as (λ o. (node_at cw number >>= advancing) ≡ o → Stands (turn_taken cw number o)) [
        | None ↦ λ e. s
        | Some done ↦ λ e. advanced cw number s (node_at cw number) refl done e
      ]) refl
      | false ↦ s
    ]

    delivers : (cw : cluster.World) (b : Broadcast) (rest : List Broadcast) → cw.queue ≡ b ∷ rest → Stands cw → Stands (delivering (record cw { queue = rest }) b)
    delivers cw b rest is s =
        let sent = λ (x : Broadcast). (k : ℕ) × IsIn x.signed (s.0.nodes k).sent in
        let all : AllIn sent (b ∷ rest) = subst (λ (l : List Broadcast). AllIn sent l) is s.1.queue in
        let moved : Broadcast = record b { next = b.next + 1 } in
        let put : (queue : List Broadcast) → AllIn sent queue → Stands (record cw { queue = queue }) =
        λ queue each. (s.0, record { reached = s.1.reached; queue = each; replies = s.1.replies; signed = s.1.signed; came = s.1.came }, s.2) in
        let later = put (moved ∷ rest) (λ x i. elim i [ inl e ↦ subst sent (sym e) (all b (inl refl)) | inr j ↦ all x (inr j) ]) in
        let world = record cw { queue = moved ∷ rest } in
        elim (nat_lt b.next (length cw.replicas)) as (λ c. Stands (cond c (passed_on (record cw { queue = rest }) b) (record cw { queue = rest }))) [
          | true ↦ elim (b.next == b.sender) as (λ c. Stands (cond c world (handed b.signed world b.next))) [
            | true ↦ later
            | false ↦ did world b.next (delivery b.signed) (takes world b.signed (λ w past. inl (past.queue moved (inl refl)))) later (node_at world b.next) refl _ refl
          ]
          | false ↦ put rest (λ x i. all x (inr i))
        ]

    one_step : (cw next : cluster.World) → next_step cw ≡ Some next → Stands cw → Stands next
    one_step cw next e s = go cw.turn cw.queue refl e
      where
        go : (turn : Option ℕ) (queue : List Broadcast) → cw.queue ≡ queue → step_at cw turn queue ≡ Some next → Stands next
        go (Some number) queue is h = subst Stands (some_is (turning cw number) next h) (turns cw number s)
        go None (b ∷ rest) is h = subst Stands (some_is (delivering (record cw { queue = rest }) b) next h) (delivers cw b rest is s)
        go None [] is h = (elim (list_any has_ready cw.replicas) as (λ c. cond c (Some (record cw { turn = Some 0 })) None ≡ Some next → Stands next) [
          | true ↦ λ f. subst Stands (some_is (record cw { turn = Some 0 }) next f) s
          | false ↦ λ f. absurd cc
        ]) h

    all_steps : (n : ℕ) (cw : cluster.World) → Stands cw → Stands (after n cw)
    all_steps zero cw s = s
    all_steps (suc n) cw s = (elim (next_step cw) as (λ o. next_step cw ≡ o → Stands (onward cw o (λ next. after n next))) [
      | None ↦ λ e. s
      | Some next ↦ λ e. all_steps n next (one_step cw next e s)
    ]) refl

    -- Catching up -----------------------------------------------------------------------------------------------------------------

    offers : (last : ℕ) (replicas : List Replica) (offer : Offer) → ahead_of last replicas ≡ Some offer → (k : ℕ) × (r : Replica) × (slice_get replicas k ≡ Some r) × (r.node.snapshots.stable ≡ Some offer.1)
    offers last [] offer e = absurd cc
    offers last (r ∷ rest) offer e = go (offered last r) refl e (offers last rest offer)
      where
        stable_is : (kept : List Kept) (o : Option StableCheckpoint) → stable_of kept o ≡ Some offer → o ≡ Some offer.1
        stable_is kept None h = absurd cc
        stable_is kept (Some c) h = (elim (find (is_of c.number c.digest) kept) as (λ f. option_map {U = Offer} (λ (one : Kept). (one.snapshot.text, c)) f ≡ Some offer → Some c ≡ Some offer.1) [
          | None ↦ λ x. absurd cc
          | Some one ↦ λ x. ap (λ (c : StableCheckpoint). Some c) (ap (λ (o : Offer). o.1) (some_is (one.snapshot.text, c) offer x))
        ]) h

        above : (o : Option Offer) → if_above last o ≡ Some offer → o ≡ Some offer
        above None h = absurd cc
        above (Some x) h = (elim (nat_lt last x.1.number) as (λ b. cond b (Some x) None ≡ Some offer → Some x ≡ Some offer) [ true ↦ λ f. f | false ↦ λ f. absurd cc ]) h

        heard : (b : Bool) → cond b (if_above last (stable r.node.snapshots)) None ≡ Some offer → r.node.snapshots.stable ≡ Some offer.1
        heard true h = stable_is r.node.snapshots.kept r.node.snapshots.stable (above (stable r.node.snapshots) h)
        heard false h = absurd cc

        go : (o : Option Offer) → offered last r ≡ o → or_else o (ahead_of last rest) ≡ Some offer
            → (ahead_of last rest ≡ Some offer → (k : ℕ) × (x : Replica) × (slice_get rest k ≡ Some x) × (x.node.snapshots.stable ≡ Some offer.1))
            → (k : ℕ) × (x : Replica) × (slice_get (r ∷ rest) k ≡ Some x) × (x.node.snapshots.stable ≡ Some offer.1)
        go None is h later = let found = later h in (suc found.0, found.1, found.2, found.3)
        go (Some x) is h later = (zero, r, refl, heard r.heard (is ∙ h))

    adopts : (cw next : cluster.World) (number : ℕ) → TakesOffer cw number next → Stands cw → Stands next
    adopts cw next number taking s =
        let node = taking.node in
        let c = taking.offer.1 in
        let by = taking.adopts in
        let found = offers node.order.last cw.replicas taking.offer (sym (ap (λ (o : Option Node). o >>= (λ n. ahead_of n.order.last cw.replicas)) taking.node_is) ∙ taking.offer_is) in
        let shown = subst (IsShownIf (IsSigned s.0) (IsTold s.0)) (ap (λ (n : Node). n.snapshots.stable) (sym (s.2 found.0 found.1 found.2)) ∙ found.3) (s.1.reached.sound found.0).stable in
        let step = nodes.Adopts c by.files by.table in
        let right : outcome node step ≡ still taking.now =
        ap₂ (λ (a b : Bool). cond (a && b) (still (adopted node c by.files by.table)) (still node)) by.may ((bytes_eq-Decides (node_digest by.files by.table) c.digest).1 by.digest) ∙ ap still (sym by.now_is) in
        let ready = then cw number s.0 (still node) step (idle cw number s node taking.node_is) shown in
        subst Stands (sym taking.next_is) (posts cw number (taken s.0 number step) (still taking.now) (subst (Ready cw number (taken s.0 number step)) right ready))

    so_often : (Goes : cluster.World → cluster.World → Type 0) → ((cw next : cluster.World) → Goes cw next → Stands cw → Stands next) → (n : ℕ) (cw other : cluster.World) → Times Goes n cw other → Stands cw → Stands other
    so_often Goes go zero cw other is s = subst Stands is s
    so_often Goes go (suc n) cw other is s = go is.0 other is.2 (so_often Goes go n cw is.0 is.1 s)

    rests : (Executes : Node → Type 0) (cw other : cluster.World) → Rests Executes cw other → Stands cw → Stands other
    rests Executes cw other is s = subst Stands is.comes (all_steps is.steps cw s)

    round : (Executes : Node → Type 0) (cw other : cluster.World) → Round Executes cw other → Stands cw → Stands other
    round Executes cw other is s =
        so_often CatchesUp (λ one next catches. adopts one next catches.number catches.takes) (suc is.goes_on.times) is.rest other is.goes_on.comes (rests Executes cw is.rest is.comes s)

    pub settles : (Executes : Node → Type 0) (cw other : cluster.World) → Settles Executes cw other → Stands cw → Stands other
    settles Executes cw other is s = rests Executes is.last other is.rests (so_often (Round Executes) (round Executes) is.rounds cw is.last is.comes s)

  -- Who is heard ------------------------------------------------------------------------------------------------------------------

  pub hears : (heard : Bool) (cw : cluster.World) (number : ℕ) → Stands cw → Stands (hearing heard cw number)
  hears heard cw number s = go (slice_get cw.replicas number) refl
    where
      go : (o : Option Replica) → slice_get cw.replicas number ≡ o → Stands (with_hearing heard cw number o)
      go None e = s
      go (Some replica) e = (
        s.0,
        s.1,
        λ k r at. elim (placed cw.replicas number k (record replica { heard = heard }) r at) [
          | inl is ↦ ap (λ (x : Replica). x.node) is.1 ∙ s.2 number replica e ∙ ap (λ (i : ℕ). (s.0.nodes i).node) (sym is.0)
          | inr other ↦ s.2 k r other.1
        ],
      )
