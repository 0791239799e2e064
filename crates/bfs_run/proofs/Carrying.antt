-- What nodes hold and send: requests of clients, and CHECKPOINTs that were sent.
use Rattle.std.proofs.Common.{◌≡◌, ℕ, zero, suc, ◌<◌, Bool, true, false, cond, ◌&&◌, not, List, [], ◌∷◌, ◌++◌, Option, Some, None, option_map, inl, inr, refl, sym, ap, subst, ◌∙◌, arith}
use Rattle.std.specs.Prelude.{bytes_eq, filter, find, nat_le, nat_lt, ◌==◌}
use Rattle.std.specs.List.{slice_get}
use Rattle.std.proofs.lemmas.Bool.{cond_both}
use Rattle.std.proofs.lemmas.List.{length-replicate}
use Rattle.bfs_model.specs.Server.Tree.{FileSystem, Time}
use Rattle.bfs_auth.specs.Authenticators.{entry_for, is_hash, is_right, passes, signature_in}
use Rattle.bfs_auth.specs.Keys.{Keys}
use Rattle.bfs_auth.specs.declared.pairwise.SharedKeys.{SharedKeys}
use Rattle.bfs_auth.specs.declared.principals.Principal.TheVariants as principal
use Rattle.bfs_auth.specs.declared.authenticators.Authenticator.{Authenticator}
use Rattle.bfs_votes.specs.Votes.{Header, replicas}
use Rattle.bfs_checkpoints.specs.Certificates.{told_as, told_checkpoint}
use Rattle.bfs_checkpoints.specs.Keeping.{Keeping, settled, settles, with_snapshot}
use Rattle.bfs_checkpoints.specs.Snapshots.{snapshot_of}
use Rattle.bfs_checkpoints.specs.Texts.{node_digest}
use Rattle.bfs_log.specs.Batches.{Committed}
use Rattle.bfs_log.specs.Certificates.{StableCheckpoint}
use Rattle.bfs_log.specs.Headers.{header}
use Rattle.bfs_log.specs.Logs.{Log, as_messages}
use Rattle.bfs_log.specs.Showing.{checkpoint_in, checkpoints_of, is_of}
use Rattle.bfs_model.specs.Bytes.Items.{word}
use Rattle.bfs_votes.specs.Tags.{request_tag}
use Rattle.bfs_messages.specs.Batches.{request_text}
use Rattle.bfs_messages.specs.Messages as model
use Rattle.bfs_messages.specs.Messages.{requests_of}
use Rattle.bfs_messages.specs.Signing.{as_message, request_is_signed}
use Rattle.bfs_messages.specs.declared.signed.Signed.{Signed}
use Rattle.bfs_messages.specs.declared.message.Message.{Message}
use Rattle.bfs_messages.specs.declared.message.Message.TheVariants.{Request, Order, ViewChange, NewView, Reply}
use Rattle.bfs_messages.specs.declared.order_messages.OrderMessage.{OrderMessage}
use Rattle.bfs_messages.specs.declared.order_messages.OrderMessage.TheVariants.{PrePrepare, Prepare, Commit, Checkpoint}
use Rattle.bfs_order.specs.Laws.Calls as order
use Rattle.bfs_order.specs.Replica.Accepting.{accepted, makes_stable}
use Rattle.bfs_order.specs.Replica.Checkpoints as checkpoints
use Rattle.bfs_order.specs.Replica.Executing.{next_committed}
use Rattle.bfs_order.specs.Replica.Outcomes as outcomes
use Rattle.bfs_order.specs.Replica.Proposing as proposing
use Rattle.bfs_order.specs.Replica.Refusals.{refusal}
use Rattle.bfs_order.specs.Replica.States.{State, with_message}
use Rattle.bfs_order.specs.Replica.Views as views
use Rattle.bfs_order.specs.Replica.Views.{as_proposals}
use Rattle.bfs_order.specs.declared.error.OrderError.{OrderError}
use Rattle.bfs_outcome.specs.Outcome as results
use Rattle.bfs_pending.specs.Requests.{is_among}
use Rattle.bfs_agreement.specs.Histories.{IsIn}
use Rattle.bfs_replies.specs.Answers.{Answer}
use Rattle.bfs_replies.specs.Tables.{Table}
use Rattle.bfs_view_change.specs.Changes.Choice.{Chosen, choice, latest_stable}
use Rattle.bfs_view_change.specs.Changes.Keeping.{changes_for, with_asked, with_change}
use Rattle.bfs_view_change.specs.Changes.Making.{chosen_proposal, signed_new_view, signed_proposal, stable_checkpoints}
use Rattle.bfs_view_change.specs.Changes.NewViews.{latest_checkpoint, new_view_refusal}
use Rattle.bfs_view_change.specs.Changes.ViewChanges.{messages_of, stable_in}
use Rattle.bfs_node.specs.Adopting.{adopted, may_adopt}
use Rattle.bfs_node.specs.Changing.{begun, begun_if_due, change_refusal, leads, may_begin, next_view, own_change, own_new_view, settled_if, timed_out, timeout_refusal, view_refusal, with_new_view, with_view_change, leaving_refusal, left_for}
use Rattle.bfs_node.specs.Checkpoints.{checkpointed, checkpoint_refusal}
use Rattle.bfs_node.specs.Delivering.{message_delivered, message_refusal, ordered, request_refusal, settled_by, with_request}
use Rattle.bfs_node.specs.Errors.{of_order, of_view}
use Rattle.bfs_node.specs.Executing.{executed_on, is_next, reply_to, told}
use Rattle.bfs_node.specs.Nodes.{Node, Outcome, node_with}
use Rattle.bfs_node.specs.Proposing.{pending_batch, proposed}
use Rattle.bfs_node.specs.declared.error.NodeError.{NodeError}
use Rattle.bfs_nodes_agree.specs.Orders.Replicas.{OrderReplica, votes_by}
use Rattle.bfs_nodes_agree.specs.Views.Replicas as turns
use Rattle.bfs_nodes_agree.specs.Views.Replicas.{ViewDeed}
use Rattle.bfs_nodes_agree.specs.Nodes.Steps.{NodeStep, Delivers, Takes, TakesRequests, TakesOffered, Proposes, Executes, Fails, Checkpoints, TimesOut, Adopts, Settles, still, unless, or_still, after_execution, outcome, where_taken, begun_deeds, change_deeds, message_deeds, checkpoint_deeds, deeds_of, LeavesFor, ForgetsAnswered, ForgetsProposed, leaving_deeds}
use Rattle.bfs_nodes_agree.proofs.Public.{after_deeds, AllIn, AreKept, AreSo, begins_open, both_in, BringAll, chosen_so, deeds_keep, deeds_offer, either_in, either_way, filter_in, good_for, good_on, IsBounded, IsChecked, kept, kept_above, kept_with, left_bounded, lone_late, made_holds, map_in, more_in, none_in, none_kept, not_refused, not_second, OfferAll, Offers, one_in, out_of_filter_map, passes_at, reply_is, Shows, some_is, stays_kept, step_leads, votes_checked, votes_own}

-- by these keys nothing passes
abbrev no_keys : Keys
no_keys = record { me = principal.Client 0; replicas = []; clients = []; signers = []; replica_signers = []; signer = None }

none_at : (n : ℕ) → slice_get (no_keys.clients) n ≡ None
none_at zero = refl
none_at (suc n) = refl

no_key_at : (n : ℕ) → slice_get (no_keys.signers) n ≡ None
no_key_at zero = refl
no_key_at (suc n) = refl

none_passes : (s : Signed model.Request) → request_is_signed no_keys s ≡ true → ⊥
unfolding passes
none_passes s e =
    let text : List ℕ = word request_tag ++ request_text s.message in
    let none : request_is_signed no_keys s ≡ false =
    ap (λ (key : Option (List ℕ)). is_right key (slice_get no_keys.clients s.message.client) text (entry_for no_keys.me s.auth) (signature_in s.auth)) (no_key_at s.message.client)
    ∙ ap (λ (shared : Option SharedKeys). is_hash shared text (entry_for no_keys.me s.auth)) (none_at s.message.client) in
    absurd cc

-- an order of which nothing is known but its state
abbrev bare : State → OrderReplica
bare s = record { state = s; sent = []; offers = []; changes = []; executed = [] }

-- What is carried -------------------------------------------------------------------------------------------------------------

module _ (R : Signed model.Request → Type 0) (K : Signed model.Checkpoint → Type 0) where
  abbrev pub Holds : model.Batch → Type 0
  Holds batch = AllIn R (requests_of batch)

  abbrev pub OfOrder : OrderMessage → (auth : Authenticator) → Type 0
  OfOrder (PrePrepare proposal) auth = Holds proposal.batch
  OfOrder (Prepare vote) auth = Unit {0}
  OfOrder (Commit vote) auth = Unit {0}
  OfOrder (Checkpoint c) auth = K (record { message = c; auth = auth })

  abbrev pub Known : Signed OrderMessage → Type 0
  Known m = OfOrder m.message m.auth

  -- the batches of its certificates, and the CHECKPOINTs of its stable number
  abbrev pub Carries : model.ViewChange → Type 0
  Carries change = AreSo Holds change × AllIn K change.checkpoints

  abbrev pub OfChange : Signed model.ViewChange → Type 0
  OfChange s = Carries s.message

  abbrev pub Bears : (Replies : model.Reply → Type 0) → Message → (auth : Authenticator) → Type 0
  Bears Replies (Request request) auth = R (record { message = request; auth = auth })
  Bears Replies (Order m) auth = OfOrder m auth
  Bears Replies (ViewChange change) auth = Carries change
  Bears Replies (NewView new) auth = AllIn OfChange new.changes × AllIn Known (as_proposals new.proposals)
  Bears Replies (Reply reply) auth = Replies reply

  -- as it comes
  abbrev pub IsBrought : Signed Message → Type 0
  IsBrought s = Bears (λ reply. Unit {0}) s.message s.auth

  -- as that replica sends it: its REPLYs have its number
  abbrev pub IsBorne : (who : ℕ) → Signed Message → Type 0
  IsBorne who s = Bears (λ reply. reply.sender ≡ who) s.message s.auth

  abbrev pub IsShownIf : Option StableCheckpoint → Type 0
  IsShownIf None = Unit {0}
  IsShownIf (Some c) = AllIn K c.checkpoints

  pub record Sound (f who : ℕ) (node : Node) : Type 0 where
    pub me : node.order.me ≡ who
    pub bounded : IsBounded node.order
    pub log : AllIn Known node.order.log
    pub pending : AllIn R node.pending
    pub kept : AreKept OfChange f node.changes
    pub stable : IsShownIf node.snapshots.stable

  -- of what comes to a node
  abbrev pub Brought : NodeStep → Type 0
  Brought (Takes s) = IsBrought s
  Brought (Adopts c files table) = AllIn K c.checkpoints
  Brought (Delivers bytes) = ⊥
  Brought (TakesRequests messages) = ⊥
  Brought (TakesOffered request) = ⊥
  Brought ForgetsAnswered = ⊥
  Brought ForgetsProposed = ⊥
  Brought (Settles c) = ⊥
  Brought step = Unit {0}

  -- own votes carry nothing
  silent : (m : Signed OrderMessage) → IsChecked no_keys m → (header m).tag < 5 → Known m
  silent m = go m.message m.auth
    where
      go : (x : OrderMessage) (auth : Authenticator) → IsChecked no_keys (record { message = x; auth = auth }) → (header (record { message = x; auth = auth })).tag < 5 → OfOrder x auth
      go (PrePrepare proposal) auth passes small = λ s i. absurd (none_passes s (passes_at (request_is_signed no_keys) (requests_of proposal.batch) s passes i))
      go (Checkpoint c) auth passes small = absurd (omega (arith, small))
      go other auth passes small = tt

  votes_known : (s : State) (call : order.Call) → Offers (IsChecked no_keys) s call → AllIn Known (votes_by s call)
  votes_known s call offers m i = silent m (votes_checked no_keys s call offers m i) (votes_own s call m i).kind

  -- CHECKPOINTs of a log that tell of one
  settled_shown : (s : State) (h : Header) (keeping : Keeping) → AllIn Known s.log → IsShownIf keeping.stable → IsShownIf (settled_by s h keeping).stable
  settled_shown s h keeping log shown =
      let c = told_checkpoint h.number h.digest s.log in
      let all : AllIn K c.checkpoints = λ x i.
      let from = out_of_filter_map (λ (m : Signed OrderMessage). told_as h.number h.digest m.message m.auth) s.log x i in
      told_known h.number h.digest from.0.message from.0.auth x from.2 (log from.0 from.1) in
      cond_both (makes_stable s h) (settled c keeping) keeping (λ (k : Keeping). IsShownIf k.stable)
      (λ _. cond_both (settles c keeping) (record keeping { kept = filter (λ kept. nat_le c.number kept.number) keeping.kept; stable = Some c }) keeping (λ (k : Keeping). IsShownIf k.stable) (λ _. all) (λ _. shown))
      (λ _. shown)
    where
      told_known : (number : ℕ) (digest : List ℕ) (m : OrderMessage) (auth : Authenticator) (x : Signed model.Checkpoint) → told_as number digest m auth ≡ Some x → OfOrder m auth → K x
      told_known number digest (Checkpoint c) auth x e is = cond_both ((c.number == number) && bytes_eq c.digest digest) (Some (record { message = c; auth = auth })) None (λ o. o ≡ Some x → K x)
          (λ _ same. subst K (some_is (record { message = c; auth = auth }) x same) is) (λ _ same. absurd cc) e
      told_known number digest (PrePrepare proposal) auth x e is = absurd cc
      told_known number digest (Prepare vote) auth x e is = absurd cc
      told_known number digest (Commit vote) auth x e is = absurd cc

  -- the checkpoint behind which a view begins, of VIEW-CHANGEs that carry what is known
  latest_known : (changes : List (Signed model.ViewChange)) → AllIn OfChange changes → IsShownIf (latest_checkpoint (messages_of changes))
  latest_known changes all =
      cond_both (latest == 0) None (option_map stable_in (find with_it (messages_of changes))) IsShownIf (λ _. tt) (λ _. found changes all)
    where
      latest : ℕ
      latest = latest_stable (messages_of changes)

      with_it : model.ViewChange → Bool
      with_it change = change.stable == latest

      found : (rest : List (Signed model.ViewChange)) → AllIn OfChange rest → IsShownIf (option_map stable_in (find with_it (messages_of rest)))
      found [] known = tt
      found (s ∷ rest) known = cond_both (with_it s.message) (Some s.message) (find with_it (messages_of rest)) (λ (o : Option model.ViewChange). IsShownIf (option_map stable_in o))
          (λ _. (known s (inl refl)).1) (λ _. found rest (λ x i. known x (inr i)))

  shown_known : (keys : Keys) (s : State) (stable : Option StableCheckpoint) → IsShownIf stable → Shows Known s keys stable
  shown_known keys s None shown = tt
  shown_known keys s (Some c) shown = λ _. map_in Known (as_message Checkpoint) c.checkpoints shown

  settled_known : (risen : Bool) (stable : Option StableCheckpoint) (keeping : Keeping) → IsShownIf stable → IsShownIf keeping.stable → IsShownIf (settled_if risen stable keeping).stable
  settled_known risen None keeping shown kept = kept
  settled_known risen (Some c) keeping shown kept = cond_both risen (settled c keeping) keeping (λ (k : Keeping). IsShownIf k.stable)
      (λ _. cond_both (settles c keeping) (record keeping { kept = filter (λ kept. nat_le c.number kept.number) keeping.kept; stable = Some c }) keeping (λ (k : Keeping). IsShownIf k.stable) (λ _. shown) (λ _. kept))
      (λ _. kept)

  -- the CHECKPOINTs that it tells of its own low mark
  stable_known : (s : State) → AllIn Known s.log → AllIn K (stable_checkpoints s)
  stable_known s log = cond_both (s.low == 0) [] (checkpoints_of s.f s.low s.log) (AllIn K) (λ _. none_in K) (λ _ x i.
      let of_low = filter (λ (m : Signed OrderMessage). is_of s.f s.low (header m)) s.log in
      let from = out_of_filter_map (λ (m : Signed OrderMessage). checkpoint_in m.message m.auth) of_low x i in
      told from.0.message from.0.auth x from.2 (filter_in Known (λ (m : Signed OrderMessage). is_of s.f s.low (header m)) s.log log from.0 from.1))
    where
      told : (m : OrderMessage) (auth : Authenticator) (x : Signed model.Checkpoint) → checkpoint_in m auth ≡ Some x → OfOrder m auth → K x
      told (Checkpoint c) auth x e is = subst K (some_is (record { message = c; auth = auth }) x e) is
      told (PrePrepare proposal) auth x e is = absurd cc
      told (Prepare vote) auth x e is = absurd cc
      told (Commit vote) auth x e is = absurd cc

  module _ (f who : ℕ) where
    -- what a step does, but that its order accepts it
    record Does (s : State) (deeds : List ViewDeed) (out : Outcome) : Type 0 where
      brings : BringAll Known s deeds
      offers : OfferAll (IsChecked no_keys) s deeds
      pending : AllIn R out.now.pending
      kept : AreKept OfChange f out.now.changes
      stable : IsShownIf out.now.snapshots.stable
      sends : AllIn (IsBorne who) out.sent

    nothing : (node : Node) → Sound f who node → Does node.order [] (still node)
    nothing node sound = record { brings = tt; offers = tt; pending = sound.pending; kept = sound.kept; stable = sound.stable; sends = none_in (IsBorne who) }

    as_sent : (log : Log) → AllIn Known log → AllIn (IsBorne who) (as_messages log)
    as_sent log all = map_in (IsBorne who) (as_message Order) log all

    unless_known : (s : State) (call : order.Call) (r : Option OrderError) (done : outcomes.Outcome) → Offers (IsChecked no_keys) s call → votes_by s call ≡ (outcomes.unless r s done).sent → r ≡ None → AllIn (IsBorne who) (as_messages done.sent)
    unless_known s call r done offers is none =
        as_sent done.sent (subst (λ (l : Log). AllIn Known l) (is ∙ ap (λ (o : Option OrderError). (outcomes.unless o s done).sent) none) (votes_known s call offers))

    begun_does : (node : Node) → Sound f who node → Does node.order (begun_deeds node) (begun_if_due node)
    begun_does node sound =
        let asked = node.order.asked in
        let changes = changes_for asked node.changes in
        let new = own_new_view node in
        let stable = latest_checkpoint (messages_of changes) in
        let deed : ViewDeed = turns.ChangesView node.keys asked changes new.proposals in
        let good : AllIn OfChange changes = λ s i. (good_for OfChange asked 0 node.changes.changes sound.kept.1 s i).1 in
        let chosen = chosen_so Holds (none_in R) (messages_of changes) (map_in (AreSo Holds) (λ (s : Signed model.ViewChange). s.message) changes (λ s i. (good s i).0)) in
        let handed : AllIn Known (as_proposals new.proposals) = map_in Known (as_message PrePrepare) new.proposals
        (map_in (λ (p : Signed model.PrePrepare). Holds p.message.batch) (λ (c : Chosen). signed_proposal node.keys (chosen_proposal node.order.me asked c)) (choice (messages_of changes)).chosen chosen) in
        (elim (may_begin node) as (λ b. may_begin node ≡ b → Does node.order (cond b (deed ∷ []) []) (cond b (begun node) (still node))) [
          | false ↦ λ e. nothing node sound
          | true ↦ λ e.
              let done = views.entered node.keys node.order asked stable new.proposals in
              let votes = unless_known node.order (order.Enters node.keys asked stable new.proposals) (views.entering_refusal node.order asked) done tt refl (begins_open node sound.bounded e) in
              let shown = latest_known changes good in
              let sends = more_in (IsBorne who) (as_message NewView (signed_new_view node.keys new)) _ (good, handed) votes in
              record { brings = ((handed, shown_known node.keys node.order stable shown), tt); offers = (tt, tt); pending = sound.pending; kept = kept_above OfChange f asked node.changes sound.kept; stable = settled_known (nat_lt node.order.low done.now.low) stable node.snapshots shown sound.stable; sends = sends }
        ]) refl

    change_does : (node : Node) (s : Signed model.ViewChange) → Sound f who node → OfChange s → Does node.order (change_deeds node s) (with_view_change node s)
    change_does node s sound is =
        let there = record node { changes = with_change node.changes s } in
        let noted = record node { changes = with_asked node.changes s.message } in
        let then : Sound f who there = record { me = sound.me; bounded = sound.bounded; log = sound.log; pending = sound.pending; kept = kept_with OfChange f node.changes s is sound.kept; stable = sound.stable } in
        elim (leads node s.message.view) as (λ b. Does node.order (cond b (begun_deeds there) []) (cond b (begun_if_due there) (still noted))) [
          | true ↦ begun_does there then
          | false ↦ record { brings = tt; offers = tt; pending = sound.pending; kept = sound.kept; stable = sound.stable; sends = none_in (IsBorne who) }
        ]

    message_does : (node : Node) → Sound f who node → (m : Message) (auth : Authenticator) → Bears (λ reply. Unit {0}) m auth
        → Does node.order (message_deeds node (record { message = m; auth = auth }) m)
        (unless (message_refusal node (record { message = m; auth = auth }) m) node (message_delivered node (record { message = m; auth = auth }) m))
    message_does node sound (Request request) auth is =
        let s : Signed model.Request = record { message = request; auth = auth } in
        elim (request_refusal node s) as (λ r. Does node.order [] (unless r node (with_request node s))) [
          | None ↦ record { brings = tt; offers = tt; pending = both_in R node.pending (s ∷ []) sound.pending (one_in R s is); kept = sound.kept; stable = sound.stable; sends = none_in (IsBorne who) }
          | Some refused ↦ nothing node sound
        ]
    message_does node sound (Order message) auth is =
        let m : Signed OrderMessage = record { message = message; auth = auth } in
        let call = order.Takes node.keys m in
        (elim (refusal node.keys node.order m) as (λ r. refusal node.keys node.order m ≡ r → Does node.order (turns.Orders call ∷ []) (unless (option_map of_order r) node (ordered node m))) [
          | None ↦ λ e.
              let stable = settled_shown (with_message node.order m) (header m) node.snapshots (both_in Known node.order.log (m ∷ []) sound.log (one_in Known m is)) sound.stable in
              let sends = unless_known node.order call (refusal node.keys node.order m) (accepted node.keys node.order m) tt refl e in
              record { brings = (λ _. is, tt); offers = (tt, tt); pending = sound.pending; kept = sound.kept; stable = stable; sends = sends }
          | Some refused ↦ λ _. record { brings = (λ _. is, tt); offers = (tt, tt); pending = sound.pending; kept = sound.kept; stable = sound.stable; sends = none_in (IsBorne who) }
        ]) refl
    message_does node sound (ViewChange change) auth is =
        let s : Signed model.ViewChange = record { message = change; auth = auth } in
        elim (change_refusal node s) as (λ r. Does node.order (where_taken r (change_deeds node s)) (unless r node (with_view_change node s))) [
          | None ↦ change_does node s sound is
          | Some refused ↦ nothing node sound
        ]
    message_does node sound (NewView new) auth is =
        let s : Signed model.NewView = record { message = new; auth = auth } in
        let deed : ViewDeed = turns.ChangesView node.keys new.view new.changes new.proposals in
        let stable = latest_checkpoint (messages_of new.changes) in
        (elim (view_refusal node s) as (λ r. view_refusal node s ≡ r → Does node.order (where_taken r (deed ∷ [])) (unless r node (with_new_view node s))) [
          | None ↦ λ e.
              let opened = not_refused _ (not_second (option_map of_view (new_view_refusal node.keys s)) (option_map of_order (views.entering_refusal node.order new.view)) e) in
              let done = views.entered node.keys node.order new.view stable new.proposals in
              let sends = unless_known node.order (order.Enters node.keys new.view stable new.proposals) (views.entering_refusal node.order new.view) done tt refl opened in
              let shown = latest_known new.changes is.0 in
              record { brings = ((is.1, shown_known node.keys node.order stable shown), tt); offers = (tt, tt); pending = sound.pending; kept = kept_above OfChange f new.view node.changes sound.kept; stable = settled_known (nat_lt node.order.low done.now.low) stable node.snapshots shown sound.stable; sends = sends }
          | Some refused ↦ λ _. nothing node sound
        ]) refl
    message_does node sound (Reply reply) auth is = nothing node sound

    leaving_does : (node : Node) (view : ℕ) → Sound f who node → Does node.order (deeds_of node (LeavesFor view)) (outcome node (LeavesFor view))
    leaving_does node view sound =
        let gone = record node { order = (views.left node.order view).now } in
        let own = own_change node view in
        let deeds = change_deeds gone own in
        (elim (leaving_refusal node view) as (λ r. leaving_refusal node view ≡ r → Does node.order (where_taken r (leaving_deeds node view)) (unless r node (left_for node view))) [
          | Some refused ↦ λ _. nothing node sound
          | None ↦ λ e.
              let may = not_refused (views.leaving_refusal node.order view) e in
              let left_is : (order.outcome node.order (order.Leaves view)).now ≡ gone.order = ap (λ (r : Option OrderError). (outcomes.unless r node.order (views.left node.order view)).now) may in
              let told : OfChange own = ((λ c i. made_holds node.order c i Known sound.log (as_message PrePrepare c.proposal) (inl refl)), stable_known node.order sound.log) in
              let done = change_does gone own (record { me = sound.me; bounded = left_bounded node.order view may; log = sound.log; pending = sound.pending; kept = sound.kept; stable = sound.stable }) told in
              let brings = subst (λ (s : State). BringAll Known s deeds) (sym left_is) done.brings in
              let offers = subst (λ (s : State). OfferAll (IsChecked no_keys) s deeds) (sym left_is) done.offers in
              let sends = more_in (IsBorne who) (as_message ViewChange own) (with_view_change gone own).sent told done.sends in
              record { brings = (tt, brings); offers = (tt, offers); pending = done.pending; kept = done.kept; stable = done.stable; sends = sends }
        ]) refl

    executes_does : (node : Node) → Sound f who node → Does node.order (deeds_of node Executes) (outcome node Executes)
    executes_does node sound = go node.files (next_committed node.order)
      where
        found : Option FileSystem → Option Committed → Option (Option Outcome)
        found files next = option_map (λ (f : FileSystem). option_map (executed_on node f) next) files

        go : (files : Option FileSystem) (next : Option Committed) → Does node.order (cond (is_next (found files next)) (turns.Orders order.Executes ∷ []) []) (after_execution node (found files next))
        go None next = nothing node sound
        go (Some files) None = nothing node sound
        go (Some files) (Some next) =
            let waiting = filter_in R (λ s. not (is_among next.batch s)) node.pending sound.pending in
            let sends : AllIn (IsBorne who) (executed_on node files next).sent = λ s i.
            let from = out_of_filter_map (λ (answer : Answer). told node.keys (reply_to node.order answer)) (results.outcome files node.table next.batch).answers s i in
            subst (λ (m : Message). Bears (λ reply. reply.sender ≡ who) m s.auth) (sym (reply_is (reply_to node.order from.0) _ s from.2)) sound.me in
            record { brings = (tt, tt); offers = (tt, tt); pending = waiting; kept = sound.kept; stable = sound.stable; sends = sends }

    -- its own CHECKPOINTs are sent
    abbrev pub Tells : Outcome → Type 0
    Tells out = (c : Signed model.Checkpoint) → IsIn (as_message Order (as_message Checkpoint c)) out.sent → K c

    tells_does : (node : Node) → Sound f who node → Tells (outcome node Checkpoints) → Does node.order (deeds_of node Checkpoints) (outcome node Checkpoints)
    tells_does node sound = go (checkpoint_refusal node) node.files
      where
        go : (r : Option NodeError) (files : Option FileSystem) → Tells (unless r node (or_still node (option_map (checkpointed node) files)))
            → Does node.order (where_taken r (checkpoint_deeds node files)) (unless r node (or_still node (option_map (checkpointed node) files)))
        go (Some refused) files tells = nothing node sound
        go None None tells = nothing node sound
        go None (Some files) tells =
            let n = node.order.last in
            let snapshot = snapshot_of files node.table in
            let own = checkpoints.checkpoint node.keys node.order n snapshot.digest in
            let mine : Known own = tells (record { message = record { sender = node.order.me; number = n; digest = snapshot.digest }; auth = own.auth }) (inl refl) in
            let stable = settled_shown (with_message node.order own) (header own) (with_snapshot node.snapshots n snapshot) (both_in Known node.order.log (own ∷ []) sound.log (one_in Known own mine)) sound.stable in
            record { brings = (mine, tt); offers = (tt, tt); pending = sound.pending; kept = sound.kept; stable = stable; sends = one_in (IsBorne who) (as_message Order own) mine }

    adopts_does : (node : Node) → Sound f who node → (c : StableCheckpoint) (files : FileSystem) (table : Table) → AllIn K c.checkpoints
        → Does node.order (deeds_of node (Adopts c files table)) (outcome node (Adopts c files table))
    adopts_does node sound c files table all =
        let kept_so = with_snapshot node.snapshots c.number (snapshot_of files table) in
        elim (may_adopt node c && bytes_eq (node_digest files table) c.digest) as (λ b. Does node.order (cond b (turns.Orders (order.Installs node.keys c) ∷ []) []) (cond b (still (adopted node c files table)) (still node))) [
          | true ↦
              let stable = cond_both (settles c kept_so) (record kept_so { kept = filter (λ kept. nat_le c.number kept.number) kept_so.kept; stable = Some c }) kept_so (λ (k : Keeping). IsShownIf k.stable) (λ _. all) (λ _. sound.stable) in
              record { brings = (λ _. map_in Known (as_message Checkpoint) c.checkpoints all, tt); offers = (tt, tt); pending = sound.pending; kept = sound.kept; stable = stable; sends = none_in (IsBorne who) }
          | false ↦ nothing node sound
        ]

    -- All steps -------------------------------------------------------------------------------------------------------------------

    pub record Leaves (out : Outcome) : Type 0 where
      pub sound : Sound f who out.now
      pub sends : AllIn (IsBorne who) out.sent

    module _ (same : order.CallsKeepTheReplica) (node : Node) (sound : Sound f who node) where
      -- what its order accepts, where what it says is known
      accepts : (step : NodeStep) (brings : BringAll Known node.order (deeds_of node step)) → ((m : Signed OrderMessage) → IsIn m (after_deeds (bare node.order) (deeds_of node step)).sent → (header m).tag < 5 → Known m)
          → IsBounded (outcome node step).now.order × AllIn Known (outcome node step).now.order.log × ((outcome node step).now.order.me ≡ who)
      accepts step brings said =
          let deeds = deeds_of node step in
          let is = (step_leads node step sound.bounded (bare node.order) refl).0 in (
            subst IsBounded is (stays_kept IsBounded kept deeds (bare node.order) sound.bounded),
            subst (λ (s : State). AllIn Known s.log) is (deeds_keep Known same deeds (bare node.order) node.order.me refl sound.log brings (λ m i own. said m i own.kind)),
            subst (λ (s : State). s.me ≡ who) is (stays_kept (λ (s : State). s.me ≡ who) (λ s call so. (same s call).1 ∙ so) deeds (bare node.order) sound.me),
          )

      leaves : (step : NodeStep) → Does node.order (deeds_of node step) (outcome node step) → Leaves (outcome node step)
      leaves step done =
          let deeds = deeds_of node step in
          let order = accepts step done.brings (λ m i. silent m (deeds_offer no_keys deeds (bare node.order) (none_in (IsChecked no_keys)) done.offers m i)) in
          record { sound = record { me = order.2; bounded = order.0; log = order.1; pending = done.pending; kept = done.kept; stable = done.stable }; sends = done.sends }

      -- its PRE-PREPARE carries what waits
      proposes : (time : Time) → Leaves (outcome node (Proposes time))
      proposes time =
          let batch = pending_batch node time in
          let own = proposing.proposal node.keys node.order batch in
          let mine : Known own = sound.pending in
          let order = accepts (Proposes time) (tt, tt) (λ m i small. elim (either_in (votes_by node.order (order.Proposes node.keys batch)) [] m i) [
            | inl j ↦ either_way (λ o. IsIn m o.sent → Known m) (proposing.proposal_refusal node.order) node.order (proposing.proposed node.keys node.order batch)
                (λ _ k. elim k [
                  | inl e ↦ subst Known (sym e) mine
                  | inr lone ↦ silent_late m (lone_late node.keys (with_message node.order own) node.order.view (proposing.next_number node.order) (proposing.batch_digest batch) m lone) small
                ]) (λ k. absurd k) j
            | inr none ↦ absurd none
          ]) in
          elim (proposing.proposal_refusal node.order) as (λ r. IsBounded (unless (option_map of_order r) node (proposed node time)).now.order × AllIn Known (unless (option_map of_order r) node (proposed node time)).now.order.log × ((unless (option_map of_order r) node (proposed node time)).now.order.me ≡ who)
          → Leaves (unless (option_map of_order r) node (proposed node time))) [
            | None ↦ λ so. record { sound = record { me = so.2; bounded = so.0; log = so.1; pending = sound.pending; kept = sound.kept; stable = sound.stable }; sends = one_in (IsBorne who) (as_message Order own) mine }
            | Some refused ↦ λ so. record { sound = sound; sends = none_in (IsBorne who) }
          ] order
        where
          silent_late : (m : Signed OrderMessage) → ((header m).tag < 4 → ⊥) → (header m).tag < 5 → Known m
          silent_late m late small = go m.message m.auth (late) small
            where
              go : (x : OrderMessage) (auth : Authenticator) → ((header (record { message = x; auth = auth })).tag < 4 → ⊥) → (header (record { message = x; auth = auth })).tag < 5 → OfOrder x auth
              go (PrePrepare proposal) auth late small = absurd (late (omega arith))
              go (Checkpoint c) auth late small = absurd (omega (arith, small))
              go other auth late small = tt

      pub step_leaves : (step : NodeStep) → Brought step → Tells (outcome node step) → Leaves (outcome node step)
      step_leaves (Takes signed) is tells = leaves (Takes signed) (message_does node sound signed.message signed.auth is)
      step_leaves (Proposes time) is tells = proposes time
      step_leaves Executes is tells = leaves Executes (executes_does node sound)
      step_leaves Fails is tells = leaves Fails (record { brings = tt; offers = tt; pending = sound.pending; kept = sound.kept; stable = sound.stable; sends = none_in (IsBorne who) })
      step_leaves Checkpoints is tells = leaves Checkpoints (tells_does node sound tells)
      step_leaves TimesOut is tells = leaves TimesOut (leaving_does node (next_view node.order) sound)
      step_leaves (LeavesFor view) is tells = leaves (LeavesFor view) (leaving_does node view sound)
      step_leaves (Adopts c files table) is tells = leaves (Adopts c files table) (adopts_does node sound c files table is)
      step_leaves (Delivers bytes) is tells = absurd is
      step_leaves (TakesRequests messages) is tells = absurd is
      step_leaves (TakesOffered request) is tells = absurd is
      step_leaves ForgetsAnswered is tells = absurd is
      step_leaves ForgetsProposed is tells = absurd is
      step_leaves (Settles c) is tells = absurd is

  pub begins_sound : (f me : ℕ) (keys : Keys) (files : FileSystem) (table : Table) → Sound f me (node_with f me keys files table)
  begins_sound f me keys files table = record { me = refl; bounded = refl; log = none_in Known; pending = none_in R; kept = (length-replicate (replicas f) None, none_kept OfChange 0 (replicas f)); stable = tt }

-- as more is signed and sent
module _ (R Q : Signed model.Request → Type 0) (K L : Signed model.Checkpoint → Type 0) (more : (s : Signed model.Request) → R s → Q s) (later : (c : Signed model.Checkpoint) → K c → L c) where
  known_on : (m : OrderMessage) (auth : Authenticator) → OfOrder R K m auth → OfOrder Q L m auth
  known_on (PrePrepare proposal) auth is = λ s i. more s (is s i)
  known_on (Checkpoint c) auth is = later (record { message = c; auth = auth }) is
  known_on other auth is = tt

  change_on : (s : Signed model.ViewChange) → OfChange R K s → OfChange Q L s
  change_on s is = ((λ c i r j. more r (is.0 c i r j)), λ c i. later c (is.1 c i))

  pub bears_on : (Replies Others : model.Reply → Type 0) → ((reply : model.Reply) → Replies reply → Others reply) → (m : Message) (auth : Authenticator) → Bears R K Replies m auth → Bears Q L Others m auth
  bears_on Replies Others so (Request request) auth is = more (record { message = request; auth = auth }) is
  bears_on Replies Others so (Order m) auth is = known_on m auth is
  bears_on Replies Others so (ViewChange change) auth is = ((λ c i r j. more r (is.0 c i r j)), λ c i. later c (is.1 c i))
  bears_on Replies Others so (NewView new) auth is = (λ s i. change_on s (is.0 s i), λ m i. known_on m.message m.auth (is.1 m i))
  bears_on Replies Others so (Reply reply) auth is = so reply is

  pub sound_on : (f who : ℕ) (node : Node) → Sound R K f who node → Sound Q L f who node
  sound_on f who node is = record {
    me = is.me;
    bounded = is.bounded;
    log = λ m i. known_on m.message m.auth (is.log m i);
    pending = λ s i. more s (is.pending s i);
    kept = (is.kept.0, good_on (OfChange R K) (OfChange Q L) change_on 0 node.changes.changes is.kept.1);
    stable = shown_on node.snapshots.stable is.stable;
  }
    where
      shown_on : (o : Option StableCheckpoint) → IsShownIf R K o → IsShownIf Q L o
      shown_on None shown = tt
      shown_on (Some c) shown = λ x i. later x (shown x i)
