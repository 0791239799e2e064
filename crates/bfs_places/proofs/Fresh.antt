-- What a step says of a place that is no vote's is one message, and the place was not spent before.
use Rattle.std.proofs.Common.{◌≡◌, ℕ, ◌<◌, ◌≤◌, ◌==◌, ◌%◌, Bool, true, false, cond, ◌&&◌, List, [], Option, Some, None, option_map, refl, sym, ap, subst, ◌∙◌, arith}
use Rattle.std.specs.Prelude.{bytes_eq, max, nat_lt, not}
use Rattle.std.proofs.lemmas.Bool.{and_parts, ltb-true}
use Rattle.bfs_auth.specs.Authenticators.{signature_for_client}
use Rattle.bfs_auth.specs.Keys.{Keys}
use Rattle.bfs_auth.specs.declared.authenticators.Authenticator.{Authenticator}
use Rattle.bfs_auth.specs.declared.places.Place.{Place}
use Rattle.bfs_auth.specs.declared.places.Place.TheVariants.{Checkpoint, NewView, ViewChange, Vote}
use Rattle.bfs_model.specs.Server.Limits.{checkpoint_interval}
use Rattle.bfs_model.specs.Server.Tree.{FileSystem}
use Rattle.bfs_checkpoints.specs.Snapshots.{snapshot_of}
use Rattle.bfs_checkpoints.specs.Texts.{node_digest}
use Rattle.bfs_codec.specs.Reading.{message_of}
use Rattle.bfs_log.specs.Batches.{Committed}
use Rattle.bfs_log.specs.Headers.{header}
use Rattle.bfs_log.specs.Logs.{Log, as_messages}
use Rattle.bfs_messages.specs.Messages as model
use Rattle.bfs_messages.specs.Signing.{as_message}
use Rattle.bfs_messages.specs.Spelling.{body_text}
use Rattle.bfs_messages.specs.declared.message.Message.{Message}
use Rattle.bfs_messages.specs.declared.message.Message.TheVariants as message
use Rattle.bfs_messages.specs.declared.message.Message.TheVariants.{Order, Reply, Request}
use Rattle.bfs_messages.specs.declared.order_messages.OrderMessage.{OrderMessage}
use Rattle.bfs_messages.specs.declared.order_messages.OrderMessage.TheVariants as ordering
use Rattle.bfs_messages.specs.declared.signed.Signed.{Signed}
use Rattle.bfs_order.specs.Laws.Calls as order
use Rattle.bfs_order.specs.Replica.Accepting.{accepted}
use Rattle.bfs_order.specs.Replica.Checkpoints as checkpoints
use Rattle.bfs_order.specs.Replica.Executing.{next_committed}
use Rattle.bfs_order.specs.Replica.Outcomes as outcomes
use Rattle.bfs_order.specs.Replica.Proposing as proposing
use Rattle.bfs_order.specs.Replica.Refusals.{refusal}
use Rattle.bfs_order.specs.Replica.States.{State}
use Rattle.bfs_order.specs.Replica.Views as views
use Rattle.bfs_order.specs.declared.error.OrderError.{OrderError}
use Rattle.bfs_outcome.specs.Outcome as results
use Rattle.bfs_replies.specs.Answers.{Answer, answer_again}
use Rattle.bfs_replies.specs.declared.tables.Class.{Class}
use Rattle.bfs_replies.specs.declared.tables.Class.TheVariants.{New, Old, Repeat, Unknown}
use Rattle.bfs_view_change.specs.Changes.Keeping.{with_asked, with_change}
use Rattle.bfs_view_change.specs.Changes.NewViews.{latest_checkpoint, new_view_refusal}
use Rattle.bfs_view_change.specs.Changes.ViewChanges.{messages_of}
use Rattle.bfs_node.specs.Adopting.{adopted, may_adopt}
use Rattle.bfs_node.specs.Changing.{begun, begun_if_due, change_refusal, entering_refusal, leads, leaving_refusal, left_for, may_begin, next_view, own_change, own_new_view, view_refusal, with_new_view, with_view_change}
use Rattle.bfs_node.specs.Checkpoints.{checkpoint_refusal, checkpointed, told_refusal}
use Rattle.bfs_node.specs.Delivering.{after_requests, bytes_delivered, bytes_refusal, message_delivered, message_refusal, ordered, request_refusal, with_request}
use Rattle.bfs_node.specs.Errors.{of_order, of_view}
use Rattle.bfs_node.specs.Executing.{executed_on, replies_to, reply_to, told}
use Rattle.bfs_node.specs.Nodes.{Messages, Node, Outcome}
use Rattle.bfs_node.specs.Offering.{answered, class_at, offer_refusal, offered_as, sent_for, told_again, waits_already, with_offered}
use Rattle.bfs_node.specs.Proposing.{pending_batch, proposal_refusal, proposed}
use Rattle.bfs_node.specs.Settling.{settling, settling_refusal}
use Rattle.bfs_node.specs.declared.error.NodeError.{NodeError}
use Rattle.bfs_node.specs.declared.error.NodeError.TheVariants as error
use Rattle.bfs_node.specs.declared.offering.Offered.TheVariants.{Waits, WaitsAlready}
use Rattle.bfs_nodes_agree.specs.Orders.Replicas.{votes_by}
use Rattle.bfs_nodes_agree.specs.Nodes.Steps.{NodeStep, Delivers, Takes, TakesRequests, TakesOffered, Proposes, Executes, Fails, Checkpoints, TimesOut, LeavesFor, ForgetsAnswered, ForgetsProposed, Adopts, Settles, after_execution, or_still, outcome, still, unless}
use Rattle.bfs_nodes_agree.proofs.Public.{AllIn, IsBounded, begins_open, left_bounded, map_in, more_in, none_in, not_refused, not_second, one_in, out_of_filter_map, reply_is, some_is, votes_own}
use Rattle.bfs_places.proofs.Places.{place_of}
use Rattle.bfs_places.proofs.Spent.{IsSpent, left_above, tells_next, tells_past, view_entered}

-- Of no place, or of a vote's -------------------------------------------------------------------------------------------------

abbrev pub IsLone : Place → Type 0
IsLone (Vote view number) = ⊥
IsLone (Checkpoint number) = Unit {0}
IsLone (ViewChange view) = Unit {0}
IsLone (NewView view) = Unit {0}

abbrev pub IsSilent : Signed Message → Type 0
IsSilent s = (place : Place) → place_of s.message ≡ Some place → IsLone place → ⊥

no_place : (m : Message) → place_of m ≡ None → (place : Place) → place_of m ≡ Some place → IsLone place → ⊥
no_place m none place is lone = let no : None ≡ Some place = sym none ∙ is in absurd cc

a_vote : (view number : ℕ) (place : Place) → Some (Vote view number) ≡ Some place → IsLone place → ⊥
a_vote view number place is lone = subst IsLone (sym (some_is (Vote view number) place is)) lone

pub vote_silent : (m : OrderMessage) (auth : Authenticator) → (header (record { message = m; auth = auth })).tag < 5 → IsSilent (record { message = Order m; auth = auth })
vote_silent (ordering.PrePrepare proposal) auth small = a_vote proposal.vote.view proposal.vote.number
vote_silent (ordering.Prepare vote) auth small = a_vote vote.view vote.number
vote_silent (ordering.Commit vote) auth small = no_place (Order (ordering.Commit vote)) refl
vote_silent (ordering.Checkpoint checkpoint) auth small = absurd (omega (arith, small))

reply_silent : (reply : model.Reply) (s : Signed Message) → s.message ≡ Reply reply → IsSilent s
reply_silent reply s is = no_place s.message (ap place_of is)

votes_silent : (votes : Log) → AllIn (λ (m : Signed OrderMessage). (header m).tag < 5) votes → AllIn IsSilent (as_messages votes)
votes_silent votes small = map_in IsSilent (as_message Order) votes (λ m i. vote_silent m.message m.auth (small m i))

call_small : (s : State) (call : order.Call) → AllIn (λ (m : Signed OrderMessage). (header m).tag < 5) (votes_by s call)
call_small s call m i = (votes_own s call m i).kind

-- What is said ----------------------------------------------------------------------------------------------------------------

abbrev IsFresh : (before now : State) (said : Place → Message) → Signed Message → Type 0
IsFresh before now said s = (place : Place) → place_of s.message ≡ Some place → IsLone place → (s.message ≡ said place) × ((IsSpent before place → ⊥) × IsSpent now place)

pub record Fresh (before now : State) (sent : Messages) : Type 0 where
  -- the message of each place
  pub said : Place → Message
  pub each : AllIn (IsFresh before now said) sent

silent_fresh : (before now : State) (said : Place → Message) (s : Signed Message) → IsSilent s → IsFresh before now said s
silent_fresh before now said s silent place is lone = absurd (silent place is lone)

all_silent : (before now : State) (said : Place → Message) (sent : Messages) → AllIn IsSilent sent → AllIn (IsFresh before now said) sent
all_silent before now said sent silent s i = silent_fresh before now said s (silent s i)

abbrev FreshBy : Node → Outcome → Type 0
FreshBy node out = Fresh node.order out.now.order out.sent

quiet : (node : Node) (out : Outcome) → AllIn IsSilent out.sent → FreshBy node out
quiet node out silent =
    let said : Place → Message = λ place. Reply (record { sender = 0; view = 0; client = 0; timestamp = 0; result = [] }) in
    record { said = said; each = all_silent node.order out.now.order said out.sent silent }

nothing : (node : Node) (out : Outcome) → out.sent ≡ [] → FreshBy node out
nothing node out none = quiet node out (subst (AllIn IsSilent) (sym none) (none_in IsSilent))

taken_or_still : (node : Node) (r : Option NodeError) (out : Outcome) → (r ≡ None → FreshBy node out) → FreshBy node (unless r node out)
taken_or_still node r out taken = (elim r as (λ o. r ≡ o → FreshBy node (unless o node out)) [ None ↦ taken | Some refused ↦ λ _. nothing node (still node) refl ]) refl

-- A view begins ---------------------------------------------------------------------------------------------------------------

entered_silent : (node : Node) (new : model.NewView) → views.entering_refusal node.order new.view ≡ None
    → AllIn IsSilent (as_messages (views.entered node.keys node.order new.view (latest_checkpoint (messages_of new.changes)) new.proposals).sent)
entered_silent node new none =
    let stable = latest_checkpoint (messages_of new.changes) in
    let done = views.entered node.keys node.order new.view stable new.proposals in
    votes_silent done.sent (subst (λ (r : Option OrderError). AllIn (λ (m : Signed OrderMessage). (header m).tag < 5) (outcomes.unless r node.order done).sent) none
    (call_small node.order (order.Enters node.keys new.view stable new.proposals)))

abbrev new_said : Node → Place → Message
new_said node place = message.NewView (own_new_view node)

begun_fresh : (node : Node) → IsBounded node.order → AllIn (IsFresh node.order (begun_if_due node).now.order (new_said node)) (begun_if_due node).sent
begun_fresh node bounded =
    (elim (may_begin node) as (λ b. may_begin node ≡ b → AllIn (IsFresh node.order (cond b (begun node) (still node)).now.order (new_said node)) (cond b (begun node) (still node)).sent) [
      | false ↦ λ _. none_in (IsFresh node.order node.order (new_said node))
      | true ↦ λ may.
          let asked = node.order.asked in
          let new = own_new_view node in
          let now = (begun node).now.order in
          let above = ltb-true node.order.view asked (and_parts (nat_lt node.order.view asked) _ may).0 in
          let is = view_entered node.keys node.order asked (latest_checkpoint (messages_of new.changes)) new.proposals in
          let rest = as_messages (views.entered node.keys node.order asked (latest_checkpoint (messages_of new.changes)) new.proposals).sent in
          more_in (IsFresh node.order now (new_said node)) _ rest
          (λ place e lone. subst (λ (p : Place). (message.NewView new ≡ message.NewView new) × ((IsSpent node.order p → ⊥) × IsSpent now p)) (some_is (NewView asked) place e)
          (refl, (λ le. absurd (omega (arith, le, above)), omega (arith, is))))
          (all_silent node.order now (new_said node) rest (entered_silent node new (begins_open node bounded may)))
    ]) refl

change_fresh : (node : Node) (s : Signed model.ViewChange) → IsBounded node.order
    → AllIn (IsFresh node.order (with_view_change node s).now.order (new_said (record node { changes = with_change node.changes s }))) (with_view_change node s).sent
change_fresh node s bounded =
    let there = record node { changes = with_change node.changes s } in
    let noted = record node { changes = with_asked node.changes s.message } in
    elim (leads node s.message.view) as (λ b. AllIn (IsFresh node.order (cond b (begun_if_due there) (still noted)).now.order (new_said there)) (cond b (begun_if_due there) (still noted)).sent) [
      | true ↦ begun_fresh there bounded
      | false ↦ none_in (IsFresh node.order node.order (new_said there))
    ]

-- what was asked for is not forgotten
begun_asks : (node : Node) → node.order.asked ≤ max (begun_if_due node).now.order.view (begun_if_due node).now.order.asked
begun_asks node = elim (may_begin node) as (λ b. node.order.asked ≤ max (cond b (begun node) (still node)).now.order.view (cond b (begun node) (still node)).now.order.asked) [
  | true ↦ let new = own_new_view node in let is = view_entered node.keys node.order node.order.asked (latest_checkpoint (messages_of new.changes)) new.proposals in omega (arith, is)
  | false ↦ omega arith
]

change_asks : (node : Node) (s : Signed model.ViewChange) → node.order.asked ≤ max (with_view_change node s).now.order.view (with_view_change node s).now.order.asked
change_asks node s =
    let there = record node { changes = with_change node.changes s } in
    let noted = record node { changes = with_asked node.changes s.message } in
    elim (leads node s.message.view) as (λ b. node.order.asked ≤ max (cond b (begun_if_due there) (still noted)).now.order.view (cond b (begun_if_due there) (still noted)).now.order.asked) [
      | true ↦ begun_asks there
      | false ↦ omega arith
    ]

-- A view is left --------------------------------------------------------------------------------------------------------------

abbrev left_said : (change : model.ViewChange) (new : Message) → Place → Message
left_said change new (Vote view number) = new
left_said change new (Checkpoint number) = new
left_said change new (ViewChange view) = message.ViewChange change
left_said change new (NewView view) = new

spent_left : (s : State) (view : ℕ) (place : Place) → max s.view s.asked < view → IsSpent s place → IsSpent (views.left s view).now place
spent_left s view (Vote v n) above spent = tt
spent_left s view (Checkpoint n) above spent = spent
spent_left s view (ViewChange v) above spent = omega (arith, above, spent)
spent_left s view (NewView v) above spent = spent

new_alone : (change : model.ViewChange) (new : model.NewView) (place : Place) → place_of (message.NewView new) ≡ Some place → message.NewView new ≡ left_said change (message.NewView new) place
new_alone change new (Vote v n) is = refl
new_alone change new (Checkpoint n) is = refl
new_alone change new (ViewChange v) is = let no : NewView new.view ≡ ViewChange v = some_is (NewView new.view) (ViewChange v) is in absurd cc
new_alone change new (NewView v) is = refl

left_fresh : (node : Node) (view : ℕ) → leaving_refusal node view ≡ None → FreshBy node (left_for node view)
left_fresh node view none =
    let may = not_refused (views.leaving_refusal node.order view) none in
    let above = left_above node.order view may in
    let gone = record node { order = (views.left node.order view).now } in
    let own = own_change node view in
    let new = own_new_view (record gone { changes = with_change gone.changes own }) in
    let done = with_view_change gone own in
    let said = left_said own.message (message.NewView new) in
    let rest : AllIn (IsFresh node.order done.now.order said) done.sent = λ s i place is lone.
    let got = change_fresh gone own (left_bounded node.order view may) s i place is lone in
    (got.0 ∙ new_alone own.message new place (sym (ap place_of got.0) ∙ is), (λ spent. got.1.0 (spent_left node.order view place above spent), got.1.1)) in
    let asked = change_asks gone own in
    record {
      said = said;
      each = more_in (IsFresh node.order done.now.order said) (as_message message.ViewChange own) done.sent
          (λ place e lone. subst (λ (p : Place). (message.ViewChange own.message ≡ said p) × ((IsSpent node.order p → ⊥) × IsSpent done.now.order p)) (some_is (ViewChange view) place e)
          (refl, (λ le. absurd (omega (arith, le, above)), asked))) rest;
    }

leaves_fresh : (node : Node) (view : ℕ) → FreshBy node (outcome node (LeavesFor view))
leaves_fresh node view = taken_or_still node (leaving_refusal node view) (left_for node view) (left_fresh node view)

-- A message comes -------------------------------------------------------------------------------------------------------------

message_fresh : (node : Node) (m : Message) (auth : Authenticator) → IsBounded node.order
    → FreshBy node (unless (message_refusal node (record { message = m; auth = auth }) m) node (message_delivered node (record { message = m; auth = auth }) m))
message_fresh node (Request request) auth bounded =
    let s : Signed model.Request = record { message = request; auth = auth } in
    taken_or_still node (request_refusal node s) (with_request node s) (λ _. nothing node (with_request node s) refl)
message_fresh node (Order m) auth bounded =
    let s : Signed OrderMessage = record { message = m; auth = auth } in
    taken_or_still node (option_map of_order (refusal node.keys node.order s)) (ordered node s) (λ none.
    let small = subst (λ (r : Option OrderError). AllIn (λ (m : Signed OrderMessage). (header m).tag < 5) (outcomes.unless r node.order (accepted node.keys node.order s)).sent)
    (not_refused (refusal node.keys node.order s) none) (call_small node.order (order.Takes node.keys s)) in
    quiet node (ordered node s) (votes_silent (accepted node.keys node.order s).sent small))
message_fresh node (message.ViewChange change) auth bounded =
    let s : Signed model.ViewChange = record { message = change; auth = auth } in
    taken_or_still node (change_refusal node s) (with_view_change node s) (λ _. record { said = new_said (record node { changes = with_change node.changes s }); each = change_fresh node s bounded })
message_fresh node (message.NewView new) auth bounded =
    let s : Signed model.NewView = record { message = new; auth = auth } in
    taken_or_still node (view_refusal node s) (with_new_view node s) (λ none.
    let opened = not_refused (views.entering_refusal node.order new.view) (not_second (option_map of_view (new_view_refusal node.keys s)) (entering_refusal node new) none) in
    quiet node (with_new_view node s) (entered_silent node new opened))
message_fresh node (Reply reply) auth bounded = nothing node (still node) refl

bytes_fresh : (node : Node) (o : Option (Signed Message)) → IsBounded node.order → FreshBy node (unless (bytes_refusal node o) node (bytes_delivered node o))
bytes_fresh node None bounded = nothing node (still node) refl
bytes_fresh node (Some m) bounded = message_fresh node m.message m.auth bounded

-- Replies ---------------------------------------------------------------------------------------------------------------------

told_silent : (keys : Keys) (reply : model.Reply) (s : Signed Message) → told keys reply ≡ Some s → IsSilent s
told_silent keys reply s is = reply_silent reply s (reply_is reply (signature_for_client keys reply.client (body_text (Reply reply))) s is)

replies_silent : (keys : Keys) (state : State) (answers : List Answer) → AllIn IsSilent (replies_to keys state answers)
replies_silent keys state answers s i =
    let got = out_of_filter_map (λ answer. told keys (reply_to state answer)) answers s i in
    told_silent keys (reply_to state got.0) s got.2

again_silent : (node : Node) (o : Option Answer) → AllIn IsSilent (sent_for (answered (told_again node o)))
again_silent node None = none_in IsSilent
again_silent node (Some answer) = go (told node.keys (reply_to node.order answer)) refl
  where
    go : (o : Option (Signed Message)) → told node.keys (reply_to node.order answer) ≡ o → AllIn IsSilent (sent_for (answered o))
    go None is = none_in IsSilent
    go (Some s) is = one_in IsSilent s (told_silent node.keys (reply_to node.order answer) s is)

offered_silent : (class : Class) (node : Node) (request : Signed model.Request) → AllIn IsSilent (sent_for (offered_as class node request))
offered_silent New node request = elim (waits_already node request) as (λ b. AllIn IsSilent (sent_for (cond b WaitsAlready Waits))) [ true ↦ none_in IsSilent | false ↦ none_in IsSilent ]
offered_silent Repeat node request = again_silent node (answer_again node.table request.message.client)
offered_silent Old node request = none_in IsSilent
offered_silent Unknown node request = none_in IsSilent

executes_fresh : (node : Node) → FreshBy node (outcome node Executes)
executes_fresh node = go node.files (next_committed node.order)
  where
    found : Option FileSystem → Option Committed → Option (Option Outcome)
    found files next = option_map (λ (f : FileSystem). option_map (executed_on node f) next) files

    go : (files : Option FileSystem) (next : Option Committed) → FreshBy node (after_execution node (found files next))
    go None next = nothing node (still node) refl
    go (Some files) None = nothing node (still node) refl
    go (Some files) (Some next) = quiet node (executed_on node files next) (replies_silent node.keys node.order (results.outcome files node.table next.batch).answers)

-- A CHECKPOINT ----------------------------------------------------------------------------------------------------------------

may_tell : (b : Bool) (node : Node) (r : Option OrderError) → cond (not b) (Some error.OutsideMarks) (told_refusal node r) ≡ None → r ≡ None
may_tell true node None h = refl
may_tell b node r h = absurd cc

checkpoint_fresh : (node : Node) → FreshBy node (outcome node Checkpoints)
checkpoint_fresh node = go (checkpoint_refusal node) refl node.files
  where
    go : (r : Option NodeError) → checkpoint_refusal node ≡ r → (files : Option FileSystem) → FreshBy node (unless r node (or_still node (option_map (checkpointed node) files)))
    go (Some refused) e files = nothing node (still node) refl
    go None e None = nothing node (still node) refl
    go None e (Some files) =
        let n = node.order.last in
        let d = (snapshot_of files node.table).digest in
        let own = checkpoints.checkpoint node.keys node.order n d in
        let none = may_tell ((n % checkpoint_interval) == 0) node (checkpoints.checkpoint_refusal node.order n) e in
        let now = (checkpoints.checkpointed node.keys node.order n d).now in
        record {
          said = λ place. Order own.message;
          each = one_in (IsFresh node.order now (λ place. Order own.message)) (as_message Order own)
              (λ place is lone. subst (λ (p : Place). (Order own.message ≡ Order own.message) × ((IsSpent node.order p → ⊥) × IsSpent now p)) (some_is (Checkpoint n) place is)
              (refl, ((λ spent. tells_next node.order n none spent.1), tells_past node.keys node.order n d none)));
        }

-- Each step -------------------------------------------------------------------------------------------------------------------

pub step_fresh : (node : Node) (step : NodeStep) → IsBounded node.order → FreshBy node (outcome node step)
step_fresh node (Delivers bytes) bounded = bytes_fresh node (message_of bytes) bounded
step_fresh node (Takes signed) bounded = message_fresh node signed.message signed.auth bounded
step_fresh node (TakesRequests messages) bounded = nothing node (still (after_requests node messages)) refl
step_fresh node (TakesOffered request) bounded = taken_or_still node (offer_refusal node request) (with_offered node request) (λ _. quiet node (with_offered node request) (offered_silent (class_at node request.message) node request))
step_fresh node (Proposes time) bounded = taken_or_still node (proposal_refusal node) (proposed node time)
    (λ _. let own = proposing.proposal node.keys node.order (pending_batch node time) in quiet node (proposed node time) (one_in IsSilent (as_message Order own) (vote_silent own.message own.auth (omega arith))))
step_fresh node Executes bounded = executes_fresh node
step_fresh node Fails bounded = nothing node (outcome node Fails) refl
step_fresh node Checkpoints bounded = checkpoint_fresh node
step_fresh node TimesOut bounded = leaves_fresh node (next_view node.order)
step_fresh node (LeavesFor view) bounded = leaves_fresh node view
step_fresh node ForgetsAnswered bounded = nothing node (outcome node ForgetsAnswered) refl
step_fresh node ForgetsProposed bounded = nothing node (outcome node ForgetsProposed) refl
step_fresh node (Adopts certificate files table) bounded =
    elim (may_adopt node certificate && bytes_eq (node_digest files table) certificate.digest) as (λ b. FreshBy node (cond b (still (adopted node certificate files table)) (still node))) [
      | true ↦ nothing node (still (adopted node certificate files table)) refl
      | false ↦ nothing node (still node) refl
    ]
step_fresh node (Settles certificate) bounded = taken_or_still node (settling_refusal node certificate) (still (settling node certificate)) (λ _. nothing node (still (settling node certificate)) refl)
