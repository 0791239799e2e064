-- Each step of a node is turns that its order may take.
use Rattle.std.proofs.Common.{◌≡◌, ℕ, Bool, true, false, cond, ◌&&◌, List, [], ◌∷◌, length, Option, Some, None, option_map, map, inl, inr, refl, sym, ap, subst, ◌∙◌, arith}
use Rattle.std.specs.Prelude.{max, nat_le, nat_lt, bytes_eq, not}
use Rattle.std.specs.List.{list_all, list_any}
use Rattle.std.proofs.lemmas.Bool.{and_from, and_parts, leb-true}
use Rattle.bfs_model.specs.Bytes.Call.{◌>>=◌}
use Rattle.bfs_model.specs.Server.Stored.{AreBytes}
use Rattle.bfs_model.specs.Server.Tree.{FileSystem, Time}
use Rattle.bfs_auth.specs.Keys.{Keys}
use Rattle.bfs_auth.specs.declared.principals.Principal.TheVariants as principal
use Rattle.bfs_auth.specs.declared.authenticators.Authenticator.{Authenticator}
use Rattle.bfs_votes.specs.Votes.{Told}
use Rattle.bfs_checkpoints.specs.Snapshots.{snapshot_of}
use Rattle.bfs_checkpoints.specs.Texts.{node_digest}
use Rattle.bfs_log.specs.Batches.{Committed}
use Rattle.bfs_log.specs.Certificates.{StableCheckpoint, as_checkpoints, checkpoints_in, is_shown, messages_in}
use Rattle.bfs_log.proofs.Public.{IsVoucher, vouched}
use Rattle.bfs_log.specs.Headers.{header}
use Rattle.bfs_log.specs.Logs.{headers}
use Rattle.bfs_messages.specs.Fits.{FitsMessage, FitsOrder}
use Rattle.bfs_codec.specs.Laws.{MessageWasWritten, OneBatch}
use Rattle.bfs_messages.specs.Messages as model
use Rattle.bfs_codec.specs.Reading.{message_of, signed_from}
use Rattle.bfs_messages.specs.Signing.{as_message, carried_are_signed, is_signed, order_is_signed, request_is_signed, sender_of}
use Rattle.bfs_messages.specs.declared.signed.Signed.{Signed}
use Rattle.bfs_messages.specs.declared.message.Message.{Message}
use Rattle.bfs_messages.specs.declared.message.Message.TheVariants.{Request, Order, ViewChange, NewView, Reply}
use Rattle.bfs_messages.specs.declared.order_messages.OrderMessage.{OrderMessage}
use Rattle.bfs_messages.specs.declared.order_messages.OrderMessage.TheVariants.{PrePrepare, Checkpoint}
use Rattle.bfs_order.specs.Laws.Calls as order
use Rattle.bfs_order.specs.Replica.Accepting.{accepted}
use Rattle.bfs_order.specs.Replica.Checkpoints.{checkpoint}
use Rattle.bfs_order.specs.Replica.Executing.{next_committed}
use Rattle.bfs_order.specs.Replica.Outcomes as outcomes
use Rattle.bfs_order.specs.Replica.Proposing as proposing
use Rattle.bfs_order.specs.Replica.Refusals.{is_authentic, place_refusal, refusal}
use Rattle.bfs_order.specs.Replica.States.{State, with_message}
use Rattle.bfs_order.specs.Replica.Views as views
use Rattle.bfs_order.specs.Replica.Views.{as_proposals}
use Rattle.bfs_order.specs.declared.error.OrderError.{OrderError}
use Rattle.bfs_outcome.specs.Outcome as results
use Rattle.bfs_pending.specs.Requests.{is_among, is_same}
use Rattle.bfs_agreement.specs.Histories as agreement
use Rattle.bfs_agreement.specs.Histories.{IsIn, World}
use Rattle.bfs_agreement.proofs.Public.{in_told}
use Rattle.bfs_nodes_agree.specs.Orders.Replicas as ordered
use Rattle.bfs_nodes_agree.specs.Orders.Replicas.{MayDoOrderDeed, after_order_deed, histories, votes_by, with_replica}
use Rattle.bfs_nodes_agree.proofs.Orders.Lists.{AllIn, both_in, filter_in, left_in, one_in, out_of_filter_map, some_is}
use Rattle.bfs_nodes_agree.proofs.Orders.Logs.{Brings, IsChecked, IsOwn, IsWhole, Offers, Shows}
use Rattle.bfs_nodes_agree.proofs.Orders.Results.{not_hit, passed}
use Rattle.bfs_nodes_agree.proofs.Orders.Rising.{entered_same}
use Rattle.bfs_replies.specs.Answers.{Answer}
use Rattle.bfs_replies.specs.Answers.{last_answer}
use Rattle.bfs_replies.specs.Tables.{Last, Table, last_of}
use Rattle.bfs_replies.specs.declared.tables.Class.{Class}
use Rattle.bfs_replies.specs.declared.tables.Class.TheVariants.{New, Repeat, Old, Unknown}
use Rattle.bfs_view_change.specs.Changes.Keeping.{changes_for, with_asked, with_change, was_asked}
use Rattle.bfs_view_change.specs.Changes.Making.{signed_new_view}
use Rattle.bfs_view_change.specs.Changes.NewViews.{latest_checkpoint, new_view_refusal}
use Rattle.bfs_view_change.specs.Changes.ViewChanges.{messages_of, valid_view_change}
use Rattle.bfs_nodes_agree.specs.Views.Changes.{told_change}
use Rattle.bfs_nodes_agree.specs.Views.Replicas as turns
use Rattle.bfs_nodes_agree.specs.Views.Replicas.{ViewDeed, ordered_deed}
use Rattle.bfs_nodes_agree.proofs.Views.Lists.{at_in, in_map, map_in}
use Rattle.bfs_nodes_agree.proofs.Views.OfLog.{made_holds, made_proves, stable_holds}
use Rattle.bfs_nodes_agree.proofs.Views.Proved.{is_valid, latest_among, valid_proves}
use Rattle.bfs_node.specs.Adopting.{adopted, may_adopt}
use Rattle.bfs_node.specs.Changing.{begun, begun_if_due, change_refusal, leads, leaving_refusal, left_for, may_begin, next_view, own_change, own_new_view, view_refusal, with_new_view, with_view_change}
use Rattle.bfs_node.specs.Checkpoints.{checkpointed, checkpoint_refusal}
use Rattle.bfs_node.specs.Delivering.{after_request, after_requests, bytes_delivered, bytes_refusal, if_taken, message_delivered, message_refusal, ordered as taken, request_in, request_refusal, with_request}
use Rattle.bfs_node.specs.Errors.{of_order, of_view}
use Rattle.bfs_node.specs.Executing.{executed_on, is_next, reply_to, told}
use Rattle.bfs_node.specs.Forgetting.{is_new, open_requests}
use Rattle.bfs_node.specs.Nodes.{Messages, Node, Outcome}
use Rattle.bfs_node.specs.Offering as offering
use Rattle.bfs_node.specs.Offering.{after_offered, answered, offer_refusal, offered_as, refusal_as, sent_for, told_again, waits_already, with_offered}
use Rattle.bfs_node.specs.declared.offering.Offered.{Offered}
use Rattle.bfs_node.specs.declared.offering.Offered.TheVariants.{Waits, WaitsAlready, Answered, PassedOver}
use Rattle.bfs_node.specs.Proposing.{pending_batch, proposed}
use Rattle.bfs_node.specs.Settling.{may_settle, settling}
use Rattle.bfs_node.specs.declared.error.NodeError.{NodeError}
use Rattle.bfs_node.specs.declared.error.NodeError.TheVariants as error
use Rattle.bfs_nodes_agree.specs.Nodes.Premises.{Comes, IsAmong, IsAuthentic, IsWholly, offers_in}
use Rattle.bfs_nodes_agree.specs.Nodes.Replicas.{NodeReplicas, turn_of}
use Rattle.bfs_nodes_agree.specs.Nodes.Steps.{NodeStep, Delivers, Takes, TakesRequests, TakesOffered, Proposes, Executes, Fails, Checkpoints, TimesOut, LeavesFor, ForgetsAnswered, ForgetsProposed, Adopts, Settles, still, unless, or_still, after_execution, outcome, where_taken, begun_deeds, change_deeds, message_deeds, bytes_deeds, checkpoint_deeds, leaving_deeds, deeds_of}
use Rattle.bfs_nodes_agree.proofs.Nodes.Bounds.{left_bounded, left_later}
use Rattle.bfs_nodes_agree.proofs.Nodes.Doing.{After, ArePassed, BringAll, Done, Goes, IsAnswer, IsLast, IsStill, MaySend, NoReply, OfferAll, RepliesBy, Stands, StandsBy, Tells, WereKept, at_who, deed_done, extends_deeds, here_is, nothing_done, offered, other_sent, own_said, said_alone, tells_nothing}
use Rattle.bfs_nodes_agree.proofs.Nodes.Hearing.{HaveGrown, IsGood, IsHeard, IsSaid, IsSpoken, IsWhollySaid, change_on, change_signed, genuine_of, grown, heard_on, GoesOut, lone_stays, proof_small, reply_is, said_later, vote_heard}
use Rattle.bfs_nodes_agree.proofs.Nodes.NewViews.{begun_right, own_checked, own_handed, taken_heard, taken_right, taken_said}
use Rattle.bfs_nodes_agree.proofs.Nodes.Keeping.{good_for, good_on, kept_above, kept_with}
use Rattle.bfs_nodes_agree.proofs.Nodes.Steps.{after_deeds, begins_open, not_refused, not_second, waits, waits_once}

-- Messages that are read keep the limits --------------------------------------------------------------------------------------

pub fits_read : MessageWasWritten → (bytes : List ℕ) (m : Signed Message) → AreBytes bytes → message_of bytes ≡ Some m → FitsMessage m.message
unfolding message_of
fits_read written bytes m are e = go (signed_from bytes) refl e
  where
    go : (o : Option (Signed Message × List ℕ)) → signed_from bytes ≡ o
        → (o >>= (λ (read : Signed Message × List ℕ). cond (nat_lt 0 (length read.1)) None (Some read.0))) ≡ Some m → FitsMessage m.message
    go None is h = absurd cc
    go (Some read) is h = (elim (nat_lt 0 (length read.1)) as (λ b. cond b None (Some read.0) ≡ Some m → FitsMessage m.message) [
      | true ↦ λ f. absurd cc
      | false ↦ λ f. subst (λ (x : Signed Message). FitsMessage x.message) (some_is read.0 m f) (written bytes read.0 read.1 are is).1.0
    ]) h

-- what is not refused is signed
taken_signed : (keys : Keys) (s : State) (m : Signed OrderMessage) → refusal keys s m ≡ None → (order_is_signed keys m ≡ true) × (carried_are_signed keys m.message ≡ true)
taken_signed keys s m none =
    let a = passed (is_authentic keys s m) _ (place_refusal s (header m)) none in
    let b = and_parts _ (order_is_signed keys m && carried_are_signed keys m.message) a.0 in
    and_parts (order_is_signed keys m) (carried_are_signed keys m.message) b.1

-- Requests that wait ------------------------------------------------------------------------------------------------------------

request_passes : (node : Node) (s : Signed model.Request) → request_refusal node s ≡ None → ArePassed node.keys node.pending → ArePassed node.keys (with_request node s).now.pending
request_passes node s none waiting =
    both_in (λ (r : Signed model.Request). request_is_signed node.keys r ≡ true) node.pending (s ∷ []) waiting
    (one_in (λ (r : Signed model.Request). request_is_signed node.keys r ≡ true) s (passed (request_is_signed node.keys s) _ _ none).0)

one_comes : (node : Node) (signed : Signed Message) (message : Message) → ArePassed node.keys node.pending → ArePassed node.keys (after_request node signed message).pending
one_comes node signed (Request request) waiting =
    let s = request_in signed request in
    (elim (request_refusal node s) as (λ r. request_refusal node s ≡ r → ArePassed node.keys (if_taken r (with_request node s).now node).pending) [
      | None ↦ λ none. request_passes node s none waiting
      | Some refused ↦ λ _. waiting
    ]) refl
one_comes node signed other waiting = waiting

all_come : (node : Node) (messages : Messages) → ArePassed node.keys node.pending → ArePassed node.keys (after_requests node messages).pending
all_come node [] waiting = waiting
all_come node (signed ∷ rest) waiting =
    let first = waits_once node signed signed.message in
    let next = record node { pending = first.0 } in
    subst (λ (n : Node). ArePassed node.keys (after_requests n rest).pending) (sym first.1)
    (all_come next rest (subst (λ (n : Node). ArePassed node.keys n.pending) first.1 (one_comes node signed signed.message waiting)))

-- The last reply once more --------------------------------------------------------------------------------------------------------

told_is : (o : Option (Signed Message)) (s : Signed Message) → answered o ≡ Answered s → o ≡ Some s
told_is None s e = absurd cc
told_is (Some x) s e = let same : x ≡ s = cc in ap (λ (y : Signed Message). Some y) same

-- what is answered again is the last reply
again_is : (node : Node) (request : Signed model.Request) (s : Signed Message) (class : Class) → offered_as class node request ≡ Answered s
    → (last : Last) × (last_of node.table request.message.client ≡ Some last) × (told node.keys (reply_to node.order (last_answer request.message.client last)) ≡ Some s)
again_is node request s New e = absurd (go (waits_already node request) e)
  where
    go : (b : Bool) → cond b WaitsAlready Waits ≡ Answered s → ⊥
    go true e = absurd cc
    go false e = absurd cc
again_is node request s Repeat e = go (last_of node.table request.message.client) refl e
  where
    go : (o : Option Last) → last_of node.table request.message.client ≡ o → answered (told_again node (option_map (last_answer request.message.client) o)) ≡ Answered s
        → (last : Last) × (last_of node.table request.message.client ≡ Some last) × (told node.keys (reply_to node.order (last_answer request.message.client last)) ≡ Some s)
    go None is e = absurd cc
    go (Some last) is e = (last, is, told_is (told node.keys (reply_to node.order (last_answer request.message.client last))) s e)
again_is node request s Old e = absurd cc
again_is node request s Unknown e = absurd cc

pending_pass : (keys : Keys) (requests : List (Signed model.Request)) → ArePassed keys requests → list_all (request_is_signed keys) requests ≡ true
pending_pass keys [] all = refl
pending_pass keys (s ∷ rest) all = and_from (request_is_signed keys s) _ (all s (inl refl)) (pending_pass keys rest (λ x i. all x (inr i)))

-- A view begins -----------------------------------------------------------------------------------------------------------------

-- what is handed over changes nothing of what is executed, nor does the checkpoint behind which the view begins
entered_last : (keys : Keys) (s : State) (view : ℕ) (stable : Option StableCheckpoint) (handed : List (Signed model.PrePrepare)) → (views.entered keys s view stable handed).now.last ≡ s.last
entered_last = entered_same (λ (s : State). s.last) (λ s low log. refl)

-- a VIEW-CHANGE that is taken is valid
pub change_valid : (node : Node) (s : Signed model.ViewChange) → change_refusal node s ≡ None → valid_view_change node.keys s ≡ true
change_valid node s none =
    let a = passed (is_signed node.keys (as_message ViewChange s)) _ _ none in
    let b = passed (nat_lt node.order.view s.message.view) _ _ a.1 in
    let c = not_hit (was_asked node.changes s.message) _ _ b.1 in
    (passed (valid_view_change node.keys s) _ _ c.1).0

-- a PRE-PREPARE that fits tells the digest of its batch
fits_whole : (m : OrderMessage) → FitsOrder m → IsWhole m
fits_whole (PrePrepare proposal) fits = fits.digest
fits_whole other fits = tt

-- a checkpoint that it settles was executed
settles_last : (node : Node) (certificate : StableCheckpoint) → may_settle node certificate ≡ true → max node.order.last certificate.number ≡ node.order.last
settles_last node certificate may =
    let n = certificate.number in
    let within = and_parts (is_shown node.keys node.order.f certificate) (nat_lt node.order.low n && nat_le n node.order.last) may in
    let le = leb-true n node.order.last (and_parts (nat_lt node.order.low n) (nat_le n node.order.last) within.1).1 in
    omega (arith, le)

module _ (faulty : ℕ → Bool) (after : NodeReplicas) (who : ℕ) where
  -- what a step does, where what it sends is sent
  abbrev Does : (v : ordered.OrderReplicas) (node : Node) → Stands faulty after who v node → (S : Type 0) → (Replies : model.Reply → Type 0) → List ViewDeed → Outcome → Type 0
  Does v node know S Replies deeds out = Goes faulty after who out → Done faulty after who v node know S Replies deeds out

  -- without a REPLY
  abbrev DoesQuietly : (v : ordered.OrderReplicas) (node : Node) → Stands faulty after who v node → (S : Type 0) → List ViewDeed → Outcome → Type 0
  DoesQuietly v node know S deeds out = Does v node know S NoReply deeds out

  checkpoint_heard : (keys : Keys) (h : World) (m : Signed OrderMessage) → (header m).tag ≡ 5 → IsSaid faulty after (Order m.message) → IsWhole m.message → IsChecked keys m → IsHeard faulty keys h after m
  checkpoint_heard keys h m five said whole checked = record { sent = λ small. absurd (omega (arith, five, small)); said = λ _. said; whole = whole; checked = checked }

  -- the CHECKPOINTs of a certificate, each of which was said
  told_heard : (keys : Keys) (h : World) (c : StableCheckpoint) → AllIn (λ (m : Signed OrderMessage). IsSaid faulty after (Order m.message)) (checkpoints_in c) → AllIn (IsHeard faulty keys h after) (checkpoints_in c)
  told_heard keys h c said = map_in (IsHeard faulty keys h after) (as_message Checkpoint) c.checkpoints (λ x i.
      let m = as_message Checkpoint x in
      checkpoint_heard keys h m refl (said m (in_map (as_message Checkpoint) c.checkpoints x i)) tt refl)

  -- those behind which a view begins are within one of its VIEW-CHANGEs
  shows_heard : (keys : Keys) (s : State) (h : World) (changes : List (Signed model.ViewChange)) → AllIn (λ (x : Signed model.ViewChange). IsWhollySaid faulty after (as_message ViewChange x)) changes
      → Shows (IsHeard faulty keys h after) s keys (latest_checkpoint (messages_of changes))
  shows_heard keys s h changes said = go (latest_checkpoint (messages_of changes)) refl
    where
      go : (o : Option StableCheckpoint) → latest_checkpoint (messages_of changes) ≡ o → Shows (IsHeard faulty keys h after) s keys o
      go None e = tt
      go (Some c) e = λ _.
          let from = latest_among changes c e in
          told_heard keys h c (λ m i. said from.0 from.1 (as_message Order m)
          (inr (inl (in_map (as_message Order) (as_checkpoints from.0.message.checkpoints) m (subst (λ (x : StableCheckpoint). IsIn m (checkpoints_in x)) from.2 i)))))

  offer_said : (first : Signed Message) → IsIn first (after who).sent → (me : ℕ) → me ≡ who → (p : Signed OrderMessage) → IsIn p (offers_in first.message) → IsOwn me p → IsSaid faulty after (Order p.message)
  offer_said first there me is p i own k e correct =
      let sender = own.sender in
      let same : who ≡ k = cc in
      (first, subst (λ (j : ℕ). IsIn first (after j).sent) same there, inr (p, i, refl))

  begun_done : (v : ordered.OrderReplicas) (node : Node) (know : Stands faulty after who v node) → DoesQuietly v node know (IsStill node (begun_if_due node).now) (begun_deeds node) (begun_if_due node)
  begun_done v node know =
      let asked = node.order.asked in
      let new = own_new_view node in
      let deed : ViewDeed = turns.ChangesView node.keys asked (changes_for asked node.changes) new.proposals in
      let stable = latest_checkpoint (messages_of new.changes) in
      let done = views.entered node.keys node.order asked stable new.proposals in
      (elim (may_begin node) as (λ b. may_begin node ≡ b → DoesQuietly v node know (IsStill node (cond b (begun node) (still node)).now) (cond b (deed ∷ []) []) (cond b (begun node) (still node))) [
        | false ↦ λ e goes. nothing_done faulty after who v node know (IsStill node node) NoReply node know.kept know.waiting refl (refl, refl, refl)
        | true ↦ λ e goes.
            let first = as_message NewView (signed_new_view node.keys new) in
            let there = goes first (inl refl) in
            let good = IsGood faulty node.keys node.order.f (histories v) after in
            let opened = begins_open node know.bounded e in
            let led = (and_parts (leads node asked) _ (and_parts (nat_lt node.order.view asked) _ e).1).0 in
            let offers = offered faulty after who v node know asked (changes_for asked node.changes) new.proposals opened led in
            let offer : (p : Signed OrderMessage) → IsIn p (as_proposals new.proposals) → IsSaid faulty after (Order p.message) = λ p i. offer_said first there node.order.me know.me p i (own_handed node p i).1 in
            let w = After faulty after who v node know (deed ∷ []) in
            let said : IsWhollySaid faulty after first = λ p of. elim of as (λ _. IsSaid faulty after p.message) [
              | inl same ↦ subst (λ (x : Signed Message). IsSaid faulty after x.message) (sym same) (own_said faulty after who first there (ap principal.Replica know.me))
              | inr within ↦ elim within as (λ _. IsSaid faulty after p.message) [
                | inl i ↦ map_in (λ (x : Signed Message). IsSaid faulty after x.message) (as_message Order) (as_proposals new.proposals) offer p i
                | inr change ↦ (good_for good asked 0 node.changes.changes know.kept.1 change.0 change.1).1.said p change.2
              ]
            ] in
            let tells : Tells NoReply node first.message = tells_nothing NoReply node first.message (λ c e. absurd cc) (λ reply e. absurd cc) in
            deed_done faulty after who v node know (IsStill node (begun node).now) NoReply deed (begun node) done.sent (ap (λ (r : Option OrderError). (outcomes.unless r node.order done).sent) opened)
            (begun_right faulty (histories v) after node e know.kept) refl (kept_above good node.order.f asked node.changes know.kept) know.waiting
            (λ s i. elim i [ inl same ↦ inr (subst (MaySend faulty after who NoReply node (after_deeds (v who) (deed ∷ []))) (sym same) (offers, tells, said)) | inr j ↦ inl j ])
            (λ m i small. inr (in_map (as_message Order) done.sent m i)) (
              (λ m i.
                  let own = own_handed node m i in
                  let told = λ (k t : ℕ). Told (headers (w k).offers) t (header m).sender (header m).view (header m).number (header m).digest in
                  let mine = subst (λ (o : ordered.OrderReplica). IsIn m o.offers) (sym (at_who (deed ∷ []) v who)) (offers m i) in
                  let tells : told who (header m).tag = in_told (headers (w who).offers) (header m) (in_map header (w who).offers m mine) in
                  record {
                    sent = λ small correct. inr (own.0, subst (told (header m).sender) own.0 (subst (λ (k : ℕ). told k (header m).tag) (sym (own.1.sender ∙ know.me)) tells));
                    said = λ _. offer m i;
                    whole = own.1.whole;
                    checked = own_checked faulty (histories v) after node know.kept m i;
                  }),
              shows_heard node.keys node.order (histories w) new.changes (λ x i. (good_for good asked 0 node.changes.changes know.kept.1 x i).1.said),
            )
            tt (refl, refl, entered_last node.keys node.order asked stable new.proposals) goes
      ]) refl

  change_done : (v : ordered.OrderReplicas) (node : Node) (know : Stands faulty after who v node) (s : Signed model.ViewChange) → IsGood faulty node.keys node.order.f (histories v) after s
      → DoesQuietly v node know (IsStill node (with_view_change node s).now) (change_deeds node s) (with_view_change node s)
  change_done v node know s good =
      let there = record node { changes = with_change node.changes s } in
      let noted = record node { changes = with_asked node.changes s.message } in
      let stands : Stands faulty after who v there = assumption (kept_with (IsGood faulty node.keys node.order.f (histories v) after) node.order.f node.changes s good know.kept) in
      elim (leads node s.message.view) as (λ b. DoesQuietly v node know (IsStill node (cond b (begun_if_due there) (still noted)).now) (cond b (begun_deeds there) []) (cond b (begun_if_due there) (still noted))) [
        | true ↦ λ goes. let done = begun_done v there stands goes in assumption done
        | false ↦ λ goes. nothing_done faulty after who v node know (IsStill node noted) NoReply noted know.kept know.waiting refl (refl, refl, refl)
      ]

  module _ (one : OneBatch) (w : NodeReplicas) (on : HaveGrown w after) (v : ordered.OrderReplicas) (spoken : (k : ℕ) → AllIn (IsSpoken (v k)) (w k).sent) (node : Node) (know : Stands faulty after who v node) where
    abbrev DoneBy : List ViewDeed → Outcome → Type 0
    DoneBy deeds out = DoesQuietly v node know (IsStill node out.now) deeds out

    rests : (now : Node) → WereKept faulty after who v node know now.changes → ArePassed node.keys now.pending → now.keys ≡ node.keys → IsStill node now → DoneBy [] (still now)
    rests now kept waiting keys stands goes = nothing_done faulty after who v node know (IsStill node now) NoReply now kept waiting keys stands

    nothing_is : DoneBy [] (still node)
    nothing_is = rests node know.kept know.waiting refl (refl, refl, refl)

    heard_then : (deeds : List ViewDeed) (m : Signed OrderMessage) → IsHeard faulty node.keys (histories v) w m → IsHeard faulty node.keys (histories (After faulty after who v node know deeds)) after m
    heard_then deeds = heard_on faulty node.keys (histories v) (histories (After faulty after who v node know deeds)) w after (grown (map (turn_of who) deeds) v) on

    -- a call of its order that may be refused
    call_done : (call : order.Call) (r : Option OrderError) (done : outcomes.Outcome) (out : Outcome) → votes_by node.order call ≡ (outcomes.unless r node.order done).sent
        → MayDoOrderDeed faulty (histories v) node.order (ordered.Orders call) → out.now.keys ≡ node.keys → WereKept faulty after who v node know out.now.changes → out.now.pending ≡ node.pending → IsStill node out.now
        → ((s : Signed Message) → IsIn s out.sent → IsAmong s done.sent) → ((m : Signed OrderMessage) → IsIn m done.sent → GoesOut node.order.f m → IsIn (as_message Order m) out.sent)
        → Brings (IsHeard faulty node.keys (histories (After faulty after who v node know (turns.Orders call ∷ []))) after) node.order call → Offers (IsChecked node.keys) node.order call
        → DoneBy (turns.Orders call ∷ []) (unless (option_map of_order r) node out)
    call_done call r done out is may keys kept waiting stands sent gives brings offers = go r is
      where
        go : (r : Option OrderError) → votes_by node.order call ≡ (outcomes.unless r node.order done).sent → DoneBy (turns.Orders call ∷ []) (unless (option_map of_order r) node out)
        go None e = deed_done faulty after who v node know (IsStill node out.now) NoReply (turns.Orders call) out done.sent e may keys kept (subst (ArePassed node.keys) (sym waiting) know.waiting)
            (λ s i. inl (sent s i)) gives brings offers stands
        go (Some refused) e = deed_done faulty after who v node know (IsStill node node) NoReply (turns.Orders call) (still node) [] e may refl know.kept know.waiting
            (λ s i. absurd i) (λ m i small. absurd i) brings offers (refl, refl, refl)

    message_done : (m : Message) (auth : Authenticator) → IsWholly (IsAuthentic faulty w node.keys) (record { message = m; auth = auth }) → FitsMessage m
        → DoneBy (message_deeds node (record { message = m; auth = auth }) m)
        (unless (message_refusal node (record { message = m; auth = auth }) m) node (message_delivered node (record { message = m; auth = auth }) m))
    message_done (Request request) auth authentic fits =
        let s : Signed model.Request = record { message = request; auth = auth } in
        let taken = with_request node s in
        (elim (request_refusal node s) as (λ r. request_refusal node s ≡ r → DoneBy [] (unless r node taken)) [
          | None ↦ λ none. rests taken.now know.kept (request_passes node s none know.waiting) refl (refl, refl, refl)
          | Some refused ↦ λ _. nothing_is
        ]) refl
    message_done (Order message) auth authentic fits =
        let m : Signed OrderMessage = record { message = message; auth = auth } in
        let call = order.Takes node.keys m in
        let done = accepted node.keys node.order m in
        let heard = λ (none : refusal node.keys node.order m ≡ None).
        let signed = taken_signed node.keys node.order m none in
        vote_heard faulty w v spoken node.keys m (λ k e correct. authentic (as_message Order m) (inl refl) k e signed.0 correct) (fits_whole message fits) signed.1 in
        call_done call (refusal node.keys node.order m) done (taken node m) refl (λ none small. (heard none).sent small) refl know.kept refl (refl, refl, refl)
        (λ s i. i) (λ x i small. in_map (as_message Order) done.sent x i) (λ none. heard_then (turns.Orders call ∷ []) m (heard none)) tt
    message_done (ViewChange change) auth authentic fits =
        let s : Signed model.ViewChange = record { message = change; auth = auth } in
        (elim (change_refusal node s) as (λ r. change_refusal node s ≡ r → DoneBy (where_taken r (change_deeds node s)) (unless r node (with_view_change node s))) [
          | None ↦ λ none.
              let valid = change_valid node s none in
              let said : IsWhollySaid faulty w (as_message ViewChange s) = λ p of k e correct. authentic p of k e (change_signed node.keys s valid p of) correct in
              change_done v node know s (record {
                proved = valid_proves node.keys node.order.f change.view s know.fit refl valid;
                genuine = genuine_of faulty w v spoken s said fits;
                said = λ p of. said_later faulty w after on p.message (said p of);
                checked = (is_valid node.keys s valid).carried;
              })
          | Some refused ↦ λ _. nothing_is
        ]) refl
    message_done (NewView new) auth authentic fits =
        let s : Signed model.NewView = record { message = new; auth = auth } in
        let deed : ViewDeed = turns.ChangesView node.keys new.view new.changes new.proposals in
        let stable = latest_checkpoint (messages_of new.changes) in
        let done = views.entered node.keys node.order new.view stable new.proposals in
        (elim (view_refusal node s) as (λ r. view_refusal node s ≡ r → DoneBy (where_taken r (deed ∷ [])) (unless r node (with_new_view node s))) [
          | None ↦ λ e.
              let opened = not_refused _ (not_second (option_map of_view (new_view_refusal node.keys s)) (option_map of_order (views.entering_refusal node.order new.view)) e) in
              deed_done faulty after who v node know (IsStill node (with_new_view node s).now) NoReply deed (with_new_view node s) done.sent (ap (λ (r : Option OrderError). (outcomes.unless r node.order done).sent) opened)
              (taken_right node s know.fit fits e faulty w v spoken authentic) refl (kept_above (IsGood faulty node.keys node.order.f (histories v) after) node.order.f new.view node.changes know.kept) know.waiting
              (λ x i. inl i) (λ m i small. in_map (as_message Order) done.sent m i) (
                (λ m i. heard_then (deed ∷ []) m (taken_heard node s know.fit fits e faulty w v spoken authentic one m i)),
                shows_heard node.keys node.order (histories (After faulty after who v node know (deed ∷ []))) new.changes
                    (λ x i p of. said_later faulty w after on p.message (taken_said node s know.fit fits e faulty w v spoken authentic x i p of)),
              )
              tt (refl, refl, entered_last node.keys node.order new.view stable new.proposals)
          | Some refused ↦ λ _. nothing_is
        ]) refl
    message_done (Reply reply) auth authentic fits = nothing_is

    -- Calls -------------------------------------------------------------------------------------------------------------------------

    proposes_done : (time : Time) → DoneBy (deeds_of node (Proposes time)) (outcome node (Proposes time))
    proposes_done time =
        let batch = pending_batch node time in
        let own = proposing.proposal node.keys node.order batch in
        call_done (order.Proposes node.keys batch) (proposing.proposal_refusal node.order) (proposing.proposed node.keys node.order batch) (proposed node time) refl tt refl know.kept refl (refl, refl, refl)
        (λ s i. elim i [ inl e ↦ inl e | inr j ↦ absurd j ])
        (λ m i small. elim i [
          | inl same ↦ inl (ap (as_message Order) same)
          | inr j ↦ absurd (lone_stays node.keys (with_message node.order own) node.order.view (proposing.next_number node.order) (proposing.batch_digest batch) m j small)
        ])
        tt (pending_pass node.keys node.pending know.waiting)

    reply_sent : (files : FileSystem) (next : Committed) → node.files ≡ Some files → next_committed node.order ≡ Some next → (o : ordered.OrderReplica) (s : Signed Message)
        → IsIn s (executed_on node files next).sent → IsIn s (after who).sent → MaySend faulty after who (IsAnswer node) node o s
    reply_sent files next live committed o s i there =
        let from = out_of_filter_map (λ (answer : Answer). told node.keys (reply_to node.order answer)) (results.outcome files node.table next.batch).answers s i in
        let is = reply_is (reply_to node.order from.0) _ s from.2 in
        other_sent faulty after who (IsAnswer node) node know.me o s there (ap sender_of is, inl (reply_to node.order from.0, is, (files, live, next, committed, from.0, from.1, refl)))

    again_sent : (request : Signed model.Request) (s : Signed Message) → offering.offered node request ≡ Answered s → IsIn s (after who).sent → MaySend faulty after who (IsLast node) node (v who) s
    again_sent request s e there =
        let again = again_is node request s (offering.class_at node request.message) e in
        let reply = reply_to node.order (last_answer request.message.client again.0) in
        let is = reply_is reply _ s again.2 in
        other_sent faulty after who (IsLast node) node know.me (v who) s there (ap sender_of is, inl (reply, is, (again.0, again.1, refl, refl)))

    offer_done : (request : Signed model.Request) → Does v node know (IsStill node (outcome node (TakesOffered request)).now) (IsLast node) [] (outcome node (TakesOffered request))
    offer_done request = go (offer_refusal node request) refl
      where
        quiet : (now : Node) → now.changes ≡ node.changes → ArePassed node.keys now.pending → now.keys ≡ node.keys → IsStill node now → Does v node know (IsStill node now) (IsLast node) [] (still now)
        quiet now changes waiting keys stands goes = nothing_done faulty after who v node know (IsStill node now) (IsLast node) now (subst (WereKept faulty after who v node know) (sym changes) know.kept) waiting keys stands

        comes : offer_refusal node request ≡ None → (it : Offered) → offering.offered node request ≡ it
            → Does v node know (IsStill node (after_offered node request it)) (IsLast node) [] (record { now = after_offered node request it; sent = sent_for it })
        comes none Waits e =
            let signed = (passed (request_is_signed node.keys request) _ (refusal_as (offering.class_at node request.message) node request) none).0 in
            quiet (with_request node request).now refl
            (both_in (λ (r : Signed model.Request). request_is_signed node.keys r ≡ true) node.pending (request ∷ []) know.waiting (one_in (λ (r : Signed model.Request). request_is_signed node.keys r ≡ true) request signed))
            refl (refl, refl, refl)
        comes none WaitsAlready e = quiet node refl know.waiting refl (refl, refl, refl)
        comes none (Answered reply) e = λ goes.
            said_alone faulty after who v node know (IsStill node node) (IsLast node) (record { now = node; sent = reply ∷ [] }) know.kept know.waiting refl
            (one_in (MaySend faulty after who (IsLast node) node (v who)) reply (again_sent request reply e (goes reply (inl refl)))) (refl, refl, refl)
        comes none PassedOver e = quiet node refl know.waiting refl (refl, refl, refl)

        go : (r : Option NodeError) → offer_refusal node request ≡ r → Does v node know (IsStill node (unless r node (with_offered node request)).now) (IsLast node) [] (unless r node (with_offered node request))
        go None e = comes e (offering.offered node request) refl
        go (Some refused) e = quiet node refl know.waiting refl (refl, refl, refl)

    executes_done : Does v node know (Unit {0}) (IsAnswer node) (deeds_of node Executes) (outcome node Executes)
    executes_done = go node.files (next_committed node.order) refl refl
      where
        found : Option FileSystem → Option Committed → Option (Option Outcome)
        found files next = option_map (λ (f : FileSystem). option_map (executed_on node f) next) files

        go : (files : Option FileSystem) (next : Option Committed) → node.files ≡ files → next_committed node.order ≡ next
            → Does v node know (Unit {0}) (IsAnswer node) (cond (is_next (found files next)) (turns.Orders order.Executes ∷ []) []) (after_execution node (found files next))
        go None next live committed goes = nothing_done faulty after who v node know (Unit {0}) (IsAnswer node) node know.kept know.waiting refl tt
        go (Some files) None live committed goes = nothing_done faulty after who v node know (Unit {0}) (IsAnswer node) node know.kept know.waiting refl tt
        go (Some files) (Some next) live committed goes =
            deed_done faulty after who v node know (Unit {0}) (IsAnswer node) (turns.Orders order.Executes) (executed_on node files next) [] refl tt refl know.kept
            (filter_in (λ (s : Signed model.Request). request_is_signed node.keys s ≡ true) (λ s. not (is_among next.batch s)) node.pending know.waiting)
            (λ s i. inr (reply_sent files next live committed (after_deeds (v who) (turns.Orders order.Executes ∷ [])) s i (goes s i))) (λ m i small. absurd i) tt tt tt goes

    tells_done : DoneBy (deeds_of node Checkpoints) (outcome node Checkpoints)
    tells_done = go (checkpoint_refusal node) node.files refl
      where
        go : (r : Option NodeError) (files : Option FileSystem) → node.files ≡ files → DoneBy (where_taken r (checkpoint_deeds node files)) (unless r node (or_still node (option_map (checkpointed node) files)))
        go (Some refused) files is goes = nothing_is goes
        go None None is goes = nothing_is goes
        go None (Some files) is goes =
            let deed = turns.Orders (order.Checkpoints node.keys node.order.last (snapshot_of files node.table).digest) in
            let told = checkpoint node.keys node.order node.order.last (snapshot_of files node.table).digest in
            deed_done faulty after who v node know (IsStill node (checkpointed node files).now) NoReply deed (checkpointed node files) [] refl tt refl know.kept know.waiting
            (λ s i. elim i [
              | inl e ↦
                  let is_own = ap (λ (x : Signed Message). x.message) e in
                  inr (other_sent faulty after who NoReply node know.me (after_deeds (v who) (deed ∷ [])) s (goes s (inl e)) (ap sender_of is_own, inr (_, is_own, (files, is, refl, refl))))
              | inr j ↦ absurd j
            ])
            (λ m i small. absurd i)
            (checkpoint_heard node.keys (histories (After faulty after who v node know (deed ∷ []))) told refl
            (own_said faulty after who (as_message Order told) (goes (as_message Order told) (inl refl)) (ap principal.Replica know.me)) tt refl)
            tt (refl, refl, refl) goes

    -- each CHECKPOINT of a certificate that is shown was said
    shown_said : (certificate : StableCheckpoint) → ((m : Signed Message) → IsAmong m (checkpoints_in certificate) → IsAuthentic faulty w node.keys m)
        → is_shown node.keys node.order.f certificate ≡ true → AllIn (λ (m : Signed OrderMessage). IsSaid faulty after (Order m.message)) (checkpoints_in certificate)
    shown_said certificate authentic right m i =
        let signed = (at_in (IsVoucher node.keys node.order.f certificate.number certificate.digest) (checkpoints_in certificate) (vouched node.keys node.order.f certificate right).each m i).signed in
        said_later faulty w after on (Order m.message) (λ k e correct. authentic (as_message Order m) (in_map (as_message Order) (checkpoints_in certificate) m i) k e signed correct)

    adopts_done : (certificate : StableCheckpoint) (files : FileSystem) (table : Table) → ((m : Signed Message) → IsAmong m (checkpoints_in certificate) → IsAuthentic faulty w node.keys m) → DoesQuietly v node know (Unit {0}) (deeds_of node (Adopts certificate files table)) (outcome node (Adopts certificate files table))
    adopts_done certificate files table authentic =
        let deed = turns.Orders (order.Installs node.keys certificate) in
        let said : is_shown node.keys node.order.f certificate ≡ true → AllIn (λ (m : Signed OrderMessage). IsSaid faulty after (Order m.message)) (checkpoints_in certificate) = shown_said certificate authentic in
        elim (may_adopt node certificate && bytes_eq (node_digest files table) certificate.digest) as (λ b. DoesQuietly v node know (Unit {0}) (cond b (deed ∷ []) []) (cond b (still (adopted node certificate files table)) (still node))) [
          | true ↦ deed_done faulty after who v node know (Unit {0}) NoReply deed (still (adopted node certificate files table)) [] refl tt refl know.kept know.waiting (λ s i. absurd i) (λ m i small. absurd i)
              (λ right. told_heard node.keys (histories (After faulty after who v node know (deed ∷ []))) certificate (said right)) tt tt
          | false ↦ λ goes. nothing_done faulty after who v node know (Unit {0}) NoReply node know.kept know.waiting refl tt
        ]

    settles_done : (certificate : StableCheckpoint) → ((m : Signed Message) → IsAmong m (checkpoints_in certificate) → IsAuthentic faulty w node.keys m) → DoneBy (deeds_of node (Settles certificate)) (outcome node (Settles certificate))
    settles_done certificate authentic =
        let deed = turns.Orders (order.Installs node.keys certificate) in
        let said : is_shown node.keys node.order.f certificate ≡ true → AllIn (λ (m : Signed OrderMessage). IsSaid faulty after (Order m.message)) (checkpoints_in certificate) = shown_said certificate authentic in
        (elim (may_settle node certificate) as (λ b. may_settle node certificate ≡ b → DoneBy (where_taken (cond (not b) (Some error.NoCertificate) None) (deed ∷ [])) (unless (cond (not b) (Some error.NoCertificate) None) node (still (settling node certificate)))) [
          | true ↦ λ e. deed_done faulty after who v node know (IsStill node (settling node certificate)) NoReply deed (still (settling node certificate)) [] refl tt refl know.kept know.waiting (λ s i. absurd i) (λ m i small. absurd i)
              (λ right. told_heard node.keys (histories (After faulty after who v node know (deed ∷ []))) certificate (said right)) tt (refl, refl, settles_last node certificate e)
          | false ↦ λ e. nothing_is
        ]) refl

    leaves_done : (view : ℕ) → DoneBy (deeds_of node (LeavesFor view)) (outcome node (LeavesFor view))
    leaves_done view =
        let gone = record node { order = (views.left node.order view).now } in
        let own = own_change node view in
        let whole = as_message ViewChange own in
        let change = told_change own.message in
        let q = after_order_deed (v who) (ordered_deed (v who).state (turns.TimesOut view)) in
        let u = with_replica v who q in
        let deeds = change_deeds gone own in
        let more = grown (turn_of who (turns.TimesOut view) ∷ []) v in
        let here = here_is v who q in
        let heard : AllIn (IsHeard faulty node.keys (histories u) after) node.order.log = λ m i. heard_on faulty node.keys (histories v) (histories u) after after more (λ k s j. j) m (know.log m i) in
        let proofs : (c : model.PreparedBatch) → IsIn c own.message.certificates → AllIn (IsHeard faulty node.keys (histories u) after) (messages_in c) =
        λ c i. made_holds node.order c i (IsHeard faulty node.keys (histories u) after) heard in
        (elim (leaving_refusal node view) as (λ r. leaving_refusal node view ≡ r → DoneBy (where_taken r (leaving_deeds node view)) (unless r node (left_for node view))) [
          | Some refused ↦ λ e. nothing_is
          | None ↦ λ e goes.
              let may = not_refused (views.leaving_refusal node.order view) e in
              let left_is : (order.outcome node.order (order.Leaves view)).now ≡ gone.order = ap (λ (r : Option OrderError). (outcomes.unless r node.order (views.left node.order view)).now) may in
              let said : IsWhollySaid faulty after whole = λ p of. elim of as (λ _. IsSaid faulty after p.message) [
                | inl same ↦ subst (λ (x : Signed Message). IsSaid faulty after x.message) (sym same) (own_said faulty after who whole (goes whole (inl refl)) (ap principal.Replica know.me))
                | inr within ↦ elim within as (λ _. IsSaid faulty after p.message) [
                  | inl told ↦ map_in (λ (x : Signed Message). IsSaid faulty after x.message) (as_message Order) (as_checkpoints own.message.checkpoints)
                      (map_in (λ (m : Signed OrderMessage). IsSaid faulty after (Order m.message)) (as_message Checkpoint) own.message.checkpoints (λ x i.
                      let m = as_message Checkpoint x in
                      (stable_holds node.order (IsHeard faulty node.keys (histories u) after) heard m (in_map (as_message Checkpoint) own.message.checkpoints x i)).said (λ four. absurd (omega (arith, four))))) p told
                  | inr proof ↦ map_in (λ (x : Signed Message). IsSaid faulty after x.message) (as_message Order) (messages_in proof.0)
                      (λ m i. (proofs proof.0 proof.1 m i).said (λ four. let small = proof_small proof.0 m i in absurd (omega (arith, four, small)))) p proof.2
                ]
              ] in
              let by = λ (s : State). ordered.changes_by s (ordered_deed s (turns.TimesOut view)) in
              let told_now : IsIn change q.changes = left_in (by (v who).state) (v who).changes change
              (subst (λ (l : List agreement.ViewChange). IsIn change l) (sym (ap by know.at ∙ ap (λ (r : Option OrderError). ordered.where_taken r (change ∷ [])) may)) (inl refl)) in
              let stands : Stands faulty after who u gone = record {
                at = ap (λ (o : ordered.OrderReplica). o.state) here ∙ ap (λ (s : State). (order.outcome s (order.Leaves view)).now) know.at ∙ left_is;
                bounded = left_bounded node.order view may;
                fit = know.fit;
                me = know.me;
                later = know.later;
                log = heard;
                kept = (
                  know.kept.0,
                  good_on (IsGood faulty node.keys node.order.f (histories v) after) (IsGood faulty node.keys node.order.f (histories u) after)
                      (change_on faulty node.keys node.order.f (histories v) (histories u) after after more (λ k s j. j)) 0 node.changes.changes know.kept.1,
                );
                waiting = know.waiting;
              } in
              let good : IsGood faulty node.keys node.order.f (histories u) after own = record {
                proved = made_proves node.order view (left_later node.order view may) know.later;
                genuine = record {
                  sent = λ correct. subst (λ (k : ℕ). IsIn change (u k).changes) (sym know.me) (subst (λ (o : ordered.OrderReplica). IsIn change o.changes) (sym here) told_now);
                  certificates = λ c m i j. (proofs c i m j).sent (let small = proof_small c m j in omega (arith, small));
                  whole = λ c i. (proofs c i (as_message PrePrepare c.proposal) (inl refl)).whole;
                };
                said = said;
                checked = λ c i. (proofs c i (as_message PrePrepare c.proposal) (inl refl)).checked;
              } in
              let tells : Tells NoReply node whole.message = tells_nothing NoReply node whole.message (λ c e. absurd cc) (λ reply e. absurd cc) in
              let done = change_done u gone stands own good (λ s i. goes s (inr i)) in
              record {
                may = (tt, done.may);
                keys = done.keys;
                kept = done.kept;
                waiting = done.waiting;
                sends = λ s i. elim i [
                  | inl same ↦ subst (MaySend faulty after who NoReply node (after_deeds q deeds)) (sym same) ((extends_deeds deeds q).changes change told_now, tells, said)
                  | inr j ↦ subst (λ (o : ordered.OrderReplica). MaySend faulty after who NoReply node (after_deeds o deeds) s) here (done.sends s j)
                ];
                gives = λ m i small. elim (done.gives m (subst (λ (o : ordered.OrderReplica). IsIn m (after_deeds o deeds).sent) (sym here) i) small) [
                  | inl j ↦ inl (subst (λ (o : ordered.OrderReplica). IsIn m o.sent) here j)
                  | inr j ↦ inr (inr j)
                ];
                brings = (tt, subst (λ (s : State). BringAll (IsHeard faulty node.keys (histories (turns.after_view_turns u (map (turn_of who) deeds))) after) s deeds) (sym left_is) done.brings);
                offers = (tt, subst (λ (s : State). OfferAll (IsChecked node.keys) s deeds) (sym left_is) done.offers);
                stands = done.stands;
              }
        ]) refl

    pub step_done : MessageWasWritten → (step : NodeStep) → Comes (IsAuthentic faulty w node.keys) step → Does v node know (StandsBy node step) (RepliesBy node step) (deeds_of node step) (outcome node step)
    step_done written (Delivers bytes) comes =
        (elim (message_of bytes) as (λ o. message_of bytes ≡ o → DoneBy (bytes_deeds node o) (unless (bytes_refusal node o) node (bytes_delivered node o))) [
          | None ↦ λ _. nothing_is
          | Some m ↦ λ e. message_done m.message m.auth (comes.1 m e) (fits_read written bytes m comes.0 e)
        ]) refl
    step_done written (Takes signed) comes = message_done signed.message signed.auth comes.1 comes.0
    step_done written (TakesRequests messages) comes =
        let wait = waits node messages in
        subst (λ (n : Node). DoneBy [] (still n)) (sym wait.1)
        (rests (record node { pending = wait.0 }) know.kept (subst (λ (n : Node). ArePassed node.keys n.pending) wait.1 (all_come node messages know.waiting)) refl (refl, refl, refl))
    step_done written (TakesOffered request) comes = offer_done request
    step_done written (Proposes time) comes = proposes_done time
    step_done written Executes comes = executes_done
    step_done written Fails comes = λ goes. nothing_done faulty after who v node know (Unit {0}) NoReply (record node { files = None }) know.kept know.waiting refl tt
    step_done written Checkpoints comes = tells_done
    step_done written TimesOut comes = leaves_done (next_view node.order)
    step_done written (LeavesFor view) comes = leaves_done view
    step_done written ForgetsAnswered comes =
        rests (outcome node ForgetsAnswered).now know.kept (filter_in (λ (s : Signed model.Request). request_is_signed node.keys s ≡ true) (is_new node.table) node.pending know.waiting) refl (refl, refl, refl)
    step_done written ForgetsProposed comes =
        rests (outcome node ForgetsProposed).now know.kept
        (filter_in (λ (s : Signed model.Request). request_is_signed node.keys s ≡ true) (λ one. not (list_any (is_same one) (open_requests node.order))) node.pending know.waiting) refl (refl, refl, refl)
    step_done written (Adopts certificate files table) comes = adopts_done certificate files table comes
    step_done written (Settles certificate) comes = settles_done certificate comes
