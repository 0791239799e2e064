-- Where what comes to a node is of words and bytes, so is what it holds: its log, the requests that wait, and the VIEW-CHANGEs that it keeps.
use Rattle.std.proofs.Common.{◌≡◌, ℕ, true, false, cond, ◌&&◌, not, List, [], ◌∷◌, ◌++◌, Option, Some, None, option_map, inl, inr, refl, sym, ap, subst, ◌∙◌}
use Rattle.std.specs.Prelude.{bytes_eq, ◌==◌}
use Rattle.std.specs.List.{list_any}
use Rattle.std.proofs.lemmas.Bool.{cond_both}
use Rattle.std.proofs.lemmas.List.{length-replicate}
use Rattle.bfs_auth.specs.Keys.{Keys}
use Rattle.bfs_auth.specs.declared.authenticators.Authenticator.{Authenticator}
use Rattle.bfs_checkpoints.specs.Texts.{node_digest}
use Rattle.bfs_codec.specs.Reading.{message_of}
use Rattle.bfs_log.specs.Batches.{Committed}
use Rattle.bfs_log.specs.Certificates.{StableCheckpoint}
use Rattle.bfs_log.specs.Headers.{header}
use Rattle.bfs_messages.specs.Messages as model
use Rattle.bfs_messages.specs.Signing.{as_message, order_signed_by}
use Rattle.bfs_messages.specs.declared.signed.Signed.{Signed}
use Rattle.bfs_messages.specs.declared.message.Message.{Message}
use Rattle.bfs_messages.specs.declared.message.Message.TheVariants.{Request, Order, ViewChange, NewView, Reply}
use Rattle.bfs_messages.specs.declared.order_messages.OrderMessage.{OrderMessage}
use Rattle.bfs_messages.specs.declared.order_messages.OrderMessage.TheVariants.{PrePrepare, Prepare, Commit, Checkpoint}
use Rattle.bfs_model.specs.Server.Stored.{IsTime}
use Rattle.bfs_model.specs.Server.Tree.{FileSystem, Time}
use Rattle.bfs_order.specs.Laws.Calls as order
use Rattle.bfs_order.specs.Replica.Accepting.{accepted}
use Rattle.bfs_order.specs.Replica.Answers.{answers_in, commits_in, own_vote, prepares_in, said_once, votes_in}
use Rattle.bfs_order.specs.Replica.Executing.{next_committed}
use Rattle.bfs_order.specs.Replica.Outcomes as outcomes
use Rattle.bfs_order.specs.Replica.Proposing as proposing
use Rattle.bfs_order.specs.Replica.Refusals.{is_there, place_refusal, refusal}
use Rattle.bfs_order.specs.Replica.States.{State, known, with_message, with_more}
use Rattle.bfs_order.specs.Replica.Views as views
use Rattle.bfs_order.specs.Replica.Views.{all_taken_over, as_proposals, number_of, opened}
use Rattle.bfs_order.specs.Replica.Installing.{raised}
use Rattle.bfs_order.specs.declared.error.OrderError.{OrderError}
use Rattle.bfs_pending.specs.Requests.{is_among, is_same}
use Rattle.bfs_votes.specs.Votes.{Header, prepared, primary, replicas}
use Rattle.bfs_replies.specs.Tables.{Table}
use Rattle.bfs_view_change.specs.Changes.Choice.{Chosen, choice}
use Rattle.bfs_view_change.specs.Changes.Keeping.{changes_for, with_asked, with_change}
use Rattle.bfs_view_change.specs.Changes.Making.{chosen_proposal, signed_proposal}
use Rattle.bfs_view_change.specs.Changes.NewViews.{latest_checkpoint}
use Rattle.bfs_view_change.specs.Changes.ViewChanges.{messages_of}
use Rattle.bfs_node.specs.Adopting.{adopted, may_adopt}
use Rattle.bfs_node.specs.Changing.{begun, begun_if_due, change_refusal, leads, leaving_refusal, left_for, may_begin, next_view, own_change, own_new_view, view_refusal, with_new_view, with_view_change}
use Rattle.bfs_node.specs.Checkpoints.{checkpoint_refusal, checkpointed}
use Rattle.bfs_node.specs.Delivering.{after_request, after_requests, bytes_delivered, bytes_refusal, if_taken, message_delivered, message_refusal, ordered, request_in, request_refusal, with_request}
use Rattle.bfs_node.specs.Errors.{of_order}
use Rattle.bfs_node.specs.Executing.{executed_on, is_next}
use Rattle.bfs_node.specs.Forgetting.{is_new, open_requests}
use Rattle.bfs_node.specs.Nodes.{Messages, Node, Outcome, node_with}
use Rattle.bfs_node.specs.Offering.{after_offered, offer_refusal, offered, with_offered}
use Rattle.bfs_node.specs.declared.offering.Offered.{Offered}
use Rattle.bfs_node.specs.declared.offering.Offered.TheVariants.{Waits}
use Rattle.bfs_node.specs.Proposing.{proposed}
use Rattle.bfs_node.specs.Settling.{settling, settling_refusal}
use Rattle.bfs_node.specs.declared.error.NodeError.{NodeError}
use Rattle.bfs_nodes_agree.specs.Orders.Replicas.{OrderReplica, after_order_deed, votes_by}
use Rattle.bfs_nodes_agree.specs.Views.Replicas as turns
use Rattle.bfs_nodes_agree.specs.Views.Replicas.{ViewDeed, ordered_deed}
use Rattle.bfs_nodes_agree.specs.Nodes.Steps.{NodeStep, Delivers, Takes, TakesRequests, TakesOffered, Proposes, Executes, Fails, Checkpoints, TimesOut, LeavesFor, ForgetsAnswered, ForgetsProposed, Adopts, Settles, after_execution, begun_deeds, bytes_deeds, change_deeds, checkpoint_deeds, deeds_of, leaving_deeds, message_deeds, or_still, outcome, still, unless, where_taken}
use Rattle.bfs_nodes_agree.proofs.Public.{AllIn, AreKept, AreSo, BringAll, IsBounded, OfferAll, Offers, Shows, after_deeds, both_in, called, chosen_so, deeds_keep, either_way, filter_in, good_for, kept, kept_above, kept_with, left_bounded, made_holds, map_in, more_in, none_in, none_kept, not_refused, one_in, stays_kept, step_leads}
use Rattle.bfs_nodes_progress.specs.Living.{Asks, BatchIsOfBytes, MessageIsOfBytes, OrderIsOfBytes, StepIsOfBytes}

abbrev pub Known : Signed OrderMessage → Type 0
Known m = OrderIsOfBytes m.message

abbrev pub OfChange : Signed model.ViewChange → Type 0
OfChange s = AreSo BatchIsOfBytes s.message

-- What an order says --------------------------------------------------------------------------------------------------

module _ (keys : Keys) where
  once : (s : State) (m : OrderMessage) → OrderIsOfBytes m → AllIn Known (said_once keys s m)
  once s m is = cond_both (is_there s (header (order_signed_by keys m))) [] (order_signed_by keys m ∷ []) (AllIn Known) (λ _. none_in Known) (λ _. one_in Known (order_signed_by keys m) is)

  prepares : (s : State) (v n : ℕ) (d : List ℕ) → AllIn Known (prepares_in keys s v n d)
  prepares s v n d = cond_both (s.me == primary s.f v) [] (said_once keys s (Prepare (own_vote s v n d))) (AllIn Known) (λ _. none_in Known) (λ _. once s (Prepare (own_vote s v n d)) tt)

  commits : (s : State) (v n : ℕ) (d : List ℕ) → AllIn Known (commits_in keys s v n d)
  commits s v n d = cond_both (prepared s.f s.me (known s) v n d) (said_once keys s (Commit (own_vote s v n d))) [] (AllIn Known) (λ _. once s (Commit (own_vote s v n d)) tt) (λ _. none_in Known)

  answered : (s : State) (h : Header) → AllIn Known (answers_in keys s h)
  answered s h =
      let ps = prepares_in keys s h.view h.number h.digest in
      cond_both (h.tag == 2) (votes_in keys s h.view h.number h.digest) (cond (h.tag == 3) (commits_in keys s h.view h.number h.digest) []) (AllIn Known)
      (λ _. both_in Known ps _ (prepares s h.view h.number h.digest) (commits (with_more s ps) h.view h.number h.digest))
      (λ _. cond_both (h.tag == 3) (commits_in keys s h.view h.number h.digest) [] (AllIn Known) (λ _. commits s h.view h.number h.digest) (λ _. none_in Known))

  over : (s : State) (ms : List (Signed OrderMessage)) → AllIn Known (all_taken_over keys s ms).sent
  over s [] = none_in Known
  over s (m ∷ ms) = either_way (λ o. AllIn Known (o.sent ++ (all_taken_over keys o.now ms).sent)) (place_refusal s (header m)) s (accepted keys s m)
      (λ _. both_in Known (accepted keys s m).sent _ (answered (with_message s m) (header m)) (over (accepted keys s m).now ms)) (over s ms)

  proposals : (s : State) (batch : model.Batch) → BatchIsOfBytes batch → AllIn Known (proposing.proposed keys s batch).sent
  proposals s batch is = more_in Known (proposing.proposal keys s batch) (proposing.proposal_commits keys s batch) is
      (cond_both (s.f == 0) (commits_in keys (with_message s (proposing.proposal keys s batch)) s.view (proposing.next_number s) (proposing.batch_digest batch)) [] (AllIn Known)
      (λ _. commits (with_message s (proposing.proposal keys s batch)) s.view (proposing.next_number s) (proposing.batch_digest batch)) (λ _. none_in Known))

votes_known : (s : State) (call : order.Call) → Offers Known s call → AllIn Known (votes_by s call)
votes_known s (order.Takes keys m) offers = either_way (λ o. AllIn Known o.sent) (refusal keys s m) s (accepted keys s m) (λ _. answered keys (with_message s m) (header m)) (none_in Known)
votes_known s (order.Proposes keys batch) offers = either_way (λ o. AllIn Known o.sent) (proposing.proposal_refusal s) s (proposing.proposed keys s batch) (λ _. proposals keys s batch offers) (none_in Known)
votes_known s (order.Enters keys view stable handed) offers = either_way (λ o. AllIn Known o.sent) (views.entering_refusal s view) s (views.entered keys s view stable handed)
    (λ _. over keys (opened (raised keys s stable) view (number_of stable) handed) (as_proposals handed)) (none_in Known)
votes_known s call offers = none_in Known

deeds_say : (deeds : List ViewDeed) (o : OrderReplica) → AllIn Known o.sent → OfferAll Known o.state deeds → AllIn Known (after_deeds o deeds).sent
deeds_say [] o all offers = all
deeds_say (deed ∷ deeds) o all offers =
    let call = called o.state deed in
    deeds_say deeds (after_order_deed o (ordered_deed o.state deed)) (both_in Known (votes_by o.state call) o.sent (votes_known o.state call offers.0) all) offers.1

shown_known : (keys : Keys) (s : State) (stable : Option StableCheckpoint) → Shows Known s keys stable
shown_known keys s None = tt
shown_known keys s (Some c) = λ _. map_in Known (as_message Checkpoint) c.checkpoints (λ x i. tt)

-- What a node holds ---------------------------------------------------------------------------------------------------

-- an order of which nothing is known but its state
abbrev bare : State → OrderReplica
bare s = record { state = s; sent = []; offers = []; changes = []; executed = [] }

pub record HoldsBytes (f : ℕ) (node : Node) : Type 0 where
  pub bounded : IsBounded node.order
  pub log : AllIn Known node.order.log
  pub pending : AllIn Asks node.pending
  pub changes : AreKept OfChange f node.changes

module _ (f : ℕ) where
  -- what a step does, but that its order accepts it
  record Does (s : State) (files : Option FileSystem) (table : Table) (deeds : List ViewDeed) (now : Node) : Type 0 where
    brings : BringAll Known s deeds
    offers : OfferAll Known s deeds
    pending : AllIn Asks now.pending
    changes : AreKept OfChange f now.changes
    still : (now.files ≡ files) × (now.table ≡ table)

  nothing : (node : Node) → HoldsBytes f node → Does node.order node.files node.table [] node
  nothing node holds = record { brings = tt; offers = tt; pending = holds.pending; changes = holds.changes; still = (refl, refl) }

  begun_does : (node : Node) → HoldsBytes f node → Does node.order node.files node.table (begun_deeds node) (begun_if_due node).now
  begun_does node holds =
      let asked = node.order.asked in
      let changes = changes_for asked node.changes in
      let new = own_new_view node in
      let deed : ViewDeed = turns.ChangesView node.keys asked changes new.proposals in
      let chosen = chosen_so BatchIsOfBytes tt (messages_of changes)
      (map_in (AreSo BatchIsOfBytes) (λ (s : Signed model.ViewChange). s.message) changes (λ s i. (good_for OfChange asked 0 node.changes.changes holds.changes.1 s i).1)) in
      let handed : AllIn Known (as_proposals new.proposals) = map_in Known (as_message PrePrepare) new.proposals
      (map_in (λ (p : Signed model.PrePrepare). BatchIsOfBytes p.message.batch) (λ (c : Chosen). signed_proposal node.keys (chosen_proposal node.order.me asked c)) (choice (messages_of changes)).chosen chosen) in
      elim (may_begin node) as (λ b. Does node.order node.files node.table (cond b (deed ∷ []) []) (cond b (begun node) (still node)).now) [
        | false ↦ nothing node holds
        | true ↦ record {
          brings = ((handed, shown_known node.keys node.order (latest_checkpoint (messages_of changes))), tt);
          offers = (tt, tt);
          pending = holds.pending;
          changes = kept_above OfChange f asked node.changes holds.changes;
          still = (refl, refl);
        }
      ]

  change_does : (node : Node) (s : Signed model.ViewChange) → HoldsBytes f node → OfChange s → Does node.order node.files node.table (change_deeds node s) (with_view_change node s).now
  change_does node s holds is =
      let there = record node { changes = with_change node.changes s } in
      let noted = record node { changes = with_asked node.changes s.message } in
      let then : HoldsBytes f there = record { bounded = holds.bounded; log = holds.log; pending = holds.pending; changes = kept_with OfChange f node.changes s is holds.changes } in
      elim (leads node s.message.view) as (λ b. Does node.order node.files node.table (cond b (begun_deeds there) []) (cond b (begun_if_due there) (still noted)).now) [
        | true ↦ begun_does there then
        | false ↦ record { brings = tt; offers = tt; pending = holds.pending; changes = holds.changes; still = (refl, refl) }
      ]

  -- A message comes -----------------------------------------------------------------------------------------------------

  message_does : (node : Node) → HoldsBytes f node → (m : Message) (auth : Authenticator) → MessageIsOfBytes m
      → Does node.order node.files node.table (message_deeds node (record { message = m; auth = auth }) m)
      (unless (message_refusal node (record { message = m; auth = auth }) m) node (message_delivered node (record { message = m; auth = auth }) m)).now
  message_does node holds (Request request) auth is =
      let s : Signed model.Request = record { message = request; auth = auth } in
      elim (request_refusal node s) as (λ r. Does node.order node.files node.table [] (unless r node (with_request node s)).now) [
        | None ↦ record { brings = tt; offers = tt; pending = both_in Asks node.pending (s ∷ []) holds.pending (one_in Asks s is); changes = holds.changes; still = (refl, refl) }
        | Some refused ↦ nothing node holds
      ]
  message_does node holds (Order message) auth is =
      let m : Signed OrderMessage = record { message = message; auth = auth } in
      elim (refusal node.keys node.order m) as (λ r. Does node.order node.files node.table (turns.Orders (order.Takes node.keys m) ∷ []) (unless (option_map of_order r) node (ordered node m)).now) [
        | None ↦ record { brings = (λ _. is, tt); offers = (tt, tt); pending = holds.pending; changes = holds.changes; still = (refl, refl) }
        | Some refused ↦ record { brings = (λ _. is, tt); offers = (tt, tt); pending = holds.pending; changes = holds.changes; still = (refl, refl) }
      ]
  message_does node holds (ViewChange change) auth is =
      let s : Signed model.ViewChange = record { message = change; auth = auth } in
      elim (change_refusal node s) as (λ r. Does node.order node.files node.table (where_taken r (change_deeds node s)) (unless r node (with_view_change node s)).now) [
        | None ↦ change_does node s holds is
        | Some refused ↦ nothing node holds
      ]
  message_does node holds (NewView new) auth is =
      let s : Signed model.NewView = record { message = new; auth = auth } in
      let deed : ViewDeed = turns.ChangesView node.keys new.view new.changes new.proposals in
      elim (view_refusal node s) as (λ r. Does node.order node.files node.table (where_taken r (deed ∷ [])) (unless r node (with_new_view node s)).now) [
        | None ↦ record {
          brings = ((map_in Known (as_message PrePrepare) new.proposals is, shown_known node.keys node.order (latest_checkpoint (messages_of new.changes))), tt);
          offers = (tt, tt);
          pending = holds.pending;
          changes = kept_above OfChange f new.view node.changes holds.changes;
          still = (refl, refl);
        }
        | Some refused ↦ nothing node holds
      ]
  message_does node holds (Reply reply) auth is = nothing node holds

  bytes_does : (node : Node) → HoldsBytes f node → (bytes : List ℕ) → StepIsOfBytes (Delivers bytes) → Does node.order node.files node.table (deeds_of node (Delivers bytes)) (outcome node (Delivers bytes)).now
  bytes_does node holds bytes is = go (message_of bytes) refl
    where
      go : (o : Option (Signed Message)) → message_of bytes ≡ o → Does node.order node.files node.table (bytes_deeds node o) (unless (bytes_refusal node o) node (bytes_delivered node o)).now
      go None e = nothing node holds
      go (Some m) e = message_does node holds m.message m.auth (is m e)

  -- but for requests that wait it is the node
  abbrev WaitsOn : (node now : Node) → Type 0
  WaitsOn node now = (pending : List (Signed model.Request)) × (now ≡ record node { pending = pending }) × AllIn Asks pending

  request_waits : (node : Node) (signed : Signed Message) (m : Message) → MessageIsOfBytes m → AllIn Asks node.pending → WaitsOn node (after_request node signed m)
  request_waits node signed (Request request) is all =
      let s = request_in signed request in
      elim (request_refusal node s) as (λ r. WaitsOn node (if_taken r (with_request node s).now node)) [
        | None ↦ ((with_request node s).now.pending, refl, both_in Asks node.pending (s ∷ []) all (one_in Asks s is))
        | Some refused ↦ (node.pending, refl, all)
      ]
  request_waits node signed other is all = (node.pending, refl, all)

  requests_wait : (messages : Messages) (node : Node) → StepIsOfBytes (TakesRequests messages) → AllIn Asks node.pending → WaitsOn node (after_requests node messages)
  requests_wait [] node is all = (node.pending, refl, all)
  requests_wait (s ∷ rest) node is all =
      let first = request_waits node s s.message (is s (inl refl)) all in
      let more = requests_wait rest (record node { pending = first.0 }) (λ x i. is x (inr i)) first.2 in
      (more.0, ap (λ (n : Node). after_requests n rest) first.1 ∙ more.1, more.2)

  offered_waits : (node : Node) (request : Signed model.Request) → Asks request → AllIn Asks node.pending → WaitsOn node (outcome node (TakesOffered request)).now
  offered_waits node request is all = elim (offer_refusal node request) as (λ r. WaitsOn node (unless r node (with_offered node request)).now) [
    | None ↦ waits (offered node request)
    | Some refused ↦ (node.pending, refl, all)
  ]
    where
      waits : (o : Offered) → WaitsOn node (after_offered node request o)
      waits Waits = ((with_request node request).now.pending, refl, both_in Asks node.pending (request ∷ []) all (one_in Asks request is))
      waits other = (node.pending, refl, all)

  waiting_does : (node now : Node) → HoldsBytes f node → WaitsOn node now → Does node.order node.files node.table [] now
  waiting_does node now holds wait = subst (λ (n : Node). Does node.order node.files node.table [] n) (sym wait.1)
      (record { brings = tt; offers = tt; pending = wait.2; changes = holds.changes; still = (refl, refl) })

  -- Calls ---------------------------------------------------------------------------------------------------------------

  leaving_does : (node : Node) (view : ℕ) → HoldsBytes f node → Does node.order node.files node.table (deeds_of node (LeavesFor view)) (outcome node (LeavesFor view)).now
  leaving_does node view holds =
      let gone = record node { order = (views.left node.order view).now } in
      let own = own_change node view in
      let deeds = change_deeds gone own in
      (elim (leaving_refusal node view) as (λ r. leaving_refusal node view ≡ r → Does node.order node.files node.table (where_taken r (leaving_deeds node view)) (unless r node (left_for node view)).now) [
        | Some refused ↦ λ _. nothing node holds
        | None ↦ λ e.
            let may = not_refused (views.leaving_refusal node.order view) e in
            let left_is : (order.outcome node.order (order.Leaves view)).now ≡ gone.order = ap (λ (r : Option OrderError). (outcomes.unless r node.order (views.left node.order view)).now) may in
            let told : OfChange own = λ c i. made_holds node.order c i Known holds.log (as_message PrePrepare c.proposal) (inl refl) in
            let done = change_does gone own (record { bounded = left_bounded node.order view may; log = holds.log; pending = holds.pending; changes = holds.changes }) told in
            record {
              brings = (tt, subst (λ (s : State). BringAll Known s deeds) (sym left_is) done.brings);
              offers = (tt, subst (λ (s : State). OfferAll Known s deeds) (sym left_is) done.offers);
              pending = done.pending;
              changes = done.changes;
              still = done.still;
            }
      ]) refl

  proposes_does : (node : Node) (time : Time) → HoldsBytes f node → IsTime time → Does node.order node.files node.table (deeds_of node (Proposes time)) (outcome node (Proposes time)).now
  proposes_does node time holds is = elim (proposing.proposal_refusal node.order) as (λ r. Does node.order node.files node.table (deeds_of node (Proposes time)) (unless (option_map of_order r) node (proposed node time)).now) [
    | None ↦ record { brings = (tt, tt); offers = ((is, holds.pending), tt); pending = holds.pending; changes = holds.changes; still = (refl, refl) }
    | Some refused ↦ record { brings = (tt, tt); offers = ((is, holds.pending), tt); pending = holds.pending; changes = holds.changes; still = (refl, refl) }
  ]

  tells_does : (node : Node) → HoldsBytes f node → Does node.order node.files node.table (deeds_of node Checkpoints) (outcome node Checkpoints).now
  tells_does node holds = go (checkpoint_refusal node) node.files refl
    where
      go : (r : Option NodeError) (files : Option FileSystem) → node.files ≡ files
          → Does node.order node.files node.table (where_taken r (checkpoint_deeds node files)) (unless r node (or_still node (option_map (checkpointed node) files))).now
      go (Some refused) files e = nothing node holds
      go None None e = nothing node holds
      go None (Some files) e = record { brings = (tt, tt); offers = (tt, tt); pending = holds.pending; changes = holds.changes; still = (refl, refl) }

  settles_does : (node : Node) (c : StableCheckpoint) → HoldsBytes f node → Does node.order node.files node.table (deeds_of node (Settles c)) (outcome node (Settles c)).now
  settles_does node c holds = elim (settling_refusal node c) as (λ r. Does node.order node.files node.table (where_taken r (turns.Orders (order.Installs node.keys c) ∷ [])) (unless r node (still (settling node c))).now) [
    | None ↦ record { brings = (λ _. map_in Known (as_message Checkpoint) c.checkpoints (λ x i. tt), tt); offers = (tt, tt); pending = holds.pending; changes = holds.changes; still = (refl, refl) }
    | Some refused ↦ nothing node holds
  ]

  -- but that it holds another state then
  adopts_does : (node : Node) (c : StableCheckpoint) (files : FileSystem) (table : Table) → HoldsBytes f node
      → let now = (outcome node (Adopts c files table)).now in Does node.order now.files now.table (deeds_of node (Adopts c files table)) now
  adopts_does node c files table holds = elim (may_adopt node c && bytes_eq (node_digest files table) c.digest) as
      (λ b. let now = (cond b (still (adopted node c files table)) (still node)).now in Does node.order now.files now.table (cond b (turns.Orders (order.Installs node.keys c) ∷ []) []) now) [
        | true ↦ record { brings = (λ _. map_in Known (as_message Checkpoint) c.checkpoints (λ x i. tt), tt); offers = (tt, tt); pending = holds.pending; changes = holds.changes; still = (refl, refl) }
        | false ↦ nothing node holds
      ]

  executes_does : (node : Node) → HoldsBytes f node → let now = (outcome node Executes).now in Does node.order now.files now.table (deeds_of node Executes) now
  executes_does node holds = go node.files (next_committed node.order)
    where
      found : Option FileSystem → Option Committed → Option (Option Outcome)
      found files next = option_map (λ (live : FileSystem). option_map (executed_on node live) next) files

      go : (files : Option FileSystem) (next : Option Committed)
          → let now = (after_execution node (found files next)).now in Does node.order now.files now.table (cond (is_next (found files next)) (turns.Orders order.Executes ∷ []) []) now
      go None next = nothing node holds
      go (Some files) None = nothing node holds
      go (Some files) (Some next) =
          record { brings = (tt, tt); offers = (tt, tt); pending = filter_in Asks (λ s. not (is_among next.batch s)) node.pending holds.pending; changes = holds.changes; still = (refl, refl) }

  -- All steps -----------------------------------------------------------------------------------------------------------

  module _ (same : order.CallsKeepTheReplica) (node : Node) (holds : HoldsBytes f node) where
    leaves : (step : NodeStep) (files : Option FileSystem) (table : Table) → Does node.order files table (deeds_of node step) (outcome node step).now → HoldsBytes f (outcome node step).now
    leaves step files table done =
        let deeds = deeds_of node step in
        let is = (step_leads node step holds.bounded (bare node.order) refl).0 in
        record {
          bounded = subst IsBounded is (stays_kept IsBounded kept deeds (bare node.order) holds.bounded);
          log = subst (λ (s : State). AllIn Known s.log) is
              (deeds_keep Known same deeds (bare node.order) node.order.me refl holds.log done.brings (λ m i _. deeds_say deeds (bare node.order) (none_in Known) done.offers m i));
          pending = done.pending;
          changes = done.changes;
        }

    -- its state stays, but where it executes, fails or adopts
    abbrev pub StaysBy : NodeStep → Type 0
    StaysBy Executes = Unit {0}
    StaysBy Fails = Unit {0}
    StaysBy (Adopts certificate files table) = Unit {0}
    StaysBy step = ((outcome node step).now.files ≡ node.files) × ((outcome node step).now.table ≡ node.table)

    pub step_holds : (step : NodeStep) → StepIsOfBytes step → HoldsBytes f (outcome node step).now × StaysBy step
    step_holds (Delivers bytes) is = let done = bytes_does node holds bytes is in (leaves (Delivers bytes) node.files node.table done, done.still)
    step_holds (Takes signed) is = let done = message_does node holds signed.message signed.auth is in (leaves (Takes signed) node.files node.table done, done.still)
    step_holds (TakesRequests messages) is = let done = waiting_does node (outcome node (TakesRequests messages)).now holds (requests_wait messages node is holds.pending) in (leaves (TakesRequests messages) node.files node.table done, done.still)
    step_holds (TakesOffered request) is = let done = waiting_does node (outcome node (TakesOffered request)).now holds (offered_waits node request is holds.pending) in (leaves (TakesOffered request) node.files node.table done, done.still)
    step_holds (Proposes time) is = let done = proposes_does node time holds is in (leaves (Proposes time) node.files node.table done, done.still)
    step_holds Executes is = (leaves Executes _ _ (executes_does node holds), tt)
    step_holds Fails is = (record { bounded = holds.bounded; log = holds.log; pending = holds.pending; changes = holds.changes }, tt)
    step_holds Checkpoints is = let done = tells_does node holds in (leaves Checkpoints node.files node.table done, done.still)
    step_holds TimesOut is = let done = leaving_does node (next_view node.order) holds in (leaves TimesOut node.files node.table done, done.still)
    step_holds (LeavesFor view) is = let done = leaving_does node view holds in (leaves (LeavesFor view) node.files node.table done, done.still)
    step_holds ForgetsAnswered is =
        (record { bounded = holds.bounded; log = holds.log; pending = filter_in Asks (is_new node.table) node.pending holds.pending; changes = holds.changes }, (refl, refl))
    step_holds ForgetsProposed is =
        (record { bounded = holds.bounded; log = holds.log; pending = filter_in Asks (λ one. not (list_any (is_same one) (open_requests node.order))) node.pending holds.pending; changes = holds.changes }, (refl, refl))
    step_holds (Adopts c files table) is = (leaves (Adopts c files table) _ _ (adopts_does node c files table holds), tt)
    step_holds (Settles c) is = let done = settles_does node c holds in (leaves (Settles c) node.files node.table done, done.still)

pub begins_holding : (f me : ℕ) (keys : Keys) (files : FileSystem) (table : Table) → HoldsBytes f (node_with f me keys files table)
begins_holding f me keys files table =
    record { bounded = refl; log = none_in Known; pending = none_in Asks; changes = (length-replicate (replicas f) None, none_kept OfChange 0 (replicas f)) }
