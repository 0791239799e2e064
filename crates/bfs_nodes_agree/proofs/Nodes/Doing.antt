-- What the deeds of a node's order may be, and what they leave of what is known.
use Rattle.std.proofs.Common.{◌≡◌, ℕ, ◌<◌, ◌==◌, Bool, true, false, cond, List, [], ◌∷◌, ◌⊎◌, Option, Some, None, map, inl, inr, refl, sym, ap, ap₂, subst, ◌∙◌, arith}
use Rattle.std.proofs.lemmas.Bool.{eq-eqb}
use Rattle.bfs_auth.specs.Keys.{Keys}
use Rattle.bfs_auth.specs.declared.principals.Principal.TheVariants as principal
use Rattle.bfs_model.specs.Server.Tree.{FileSystem}
use Rattle.bfs_checkpoints.specs.Texts.{node_digest}
use Rattle.bfs_log.specs.Batches.{Committed}
use Rattle.bfs_log.specs.Certificates.{faults}
use Rattle.bfs_log.specs.Headers.{message_header}
use Rattle.bfs_log.specs.Logs.{Log}
use Rattle.bfs_messages.specs.Messages as model
use Rattle.bfs_messages.specs.Signing.{as_message, request_is_signed, sender_of}
use Rattle.bfs_messages.specs.declared.signed.Signed.{Signed}
use Rattle.bfs_messages.specs.declared.message.Message.{Message}
use Rattle.bfs_messages.specs.declared.message.Message.TheVariants.{Order, Reply}
use Rattle.bfs_messages.specs.declared.order_messages.OrderMessage.{OrderMessage}
use Rattle.bfs_messages.specs.declared.order_messages.OrderMessage.TheVariants.{Checkpoint}
use Rattle.bfs_order.specs.Laws.Calls as order
use Rattle.bfs_order.specs.Laws.Logs.{HasNoLaterView}
use Rattle.bfs_order.specs.Replica.Executing.{next_committed}
use Rattle.bfs_order.specs.Replica.States as state
use Rattle.bfs_order.specs.Replica.Views as views
use Rattle.bfs_order.specs.Replica.Views.{as_proposals}
use Rattle.bfs_order.specs.declared.error.OrderError.{OrderError}
use Rattle.bfs_outcome.specs.Outcome as results
use Rattle.bfs_replies.specs.Answers.{Answer}
use Rattle.bfs_replies.specs.Tables.{Last, last_of}
use Rattle.bfs_agreement.specs.Histories.{IsIn}
use Rattle.bfs_nodes_agree.specs.Orders.Replicas as ordered
use Rattle.bfs_nodes_agree.specs.Orders.Replicas.{after_order_deed, histories, votes_by, with_replica}
use Rattle.bfs_nodes_agree.proofs.Orders.Lists.{AllIn, both_in, either_in, left_in, none_in}
use Rattle.bfs_nodes_agree.proofs.Orders.Logs.{Brings, IsChecked, IsOwn, Offers, log_keeps, votes_checked, votes_own}
use Rattle.bfs_view_change.specs.Changes.Keeping.{Kept}
use Rattle.bfs_nodes_agree.specs.Views.Replicas as turns
use Rattle.bfs_nodes_agree.specs.Views.Replicas.{ViewDeed, MayDoViewDeed, ordered_deed}
use Rattle.bfs_node.specs.Changing.{leads}
use Rattle.bfs_node.specs.Executing.{reply_to}
use Rattle.bfs_node.specs.Nodes.{Node, Outcome}
use Rattle.bfs_nodes_agree.proofs.Views.Lists.{out_of_map}
use Rattle.bfs_nodes_agree.specs.Nodes.Premises.{IsAmong, IsWithin}
use Rattle.bfs_nodes_agree.specs.Nodes.Replicas.{NodeReplicas, turn_of}
use Rattle.bfs_nodes_agree.specs.Nodes.Steps.{NodeStep, TakesOffered, Executes, Fails, Adopts, outcome, still}
use Rattle.bfs_nodes_agree.proofs.Nodes.Bounds.{IsBounded}
use Rattle.bfs_nodes_agree.proofs.Nodes.Hearing.{Extends, GoesOut, IsGood, IsHeard, IsSaid, IsSpoken, IsWhollySaid, Spoken, change_on, extends_both, extends_deed, extends_same, grown}
use Rattle.bfs_nodes_agree.proofs.Nodes.Keeping.{AreKept, good_on}
use Rattle.bfs_nodes_agree.proofs.Nodes.Steps.{after_deeds, called}

-- Messages that no order has to know ----------------------------------------------------------------------------------------

-- a CHECKPOINT of the state that the node is in
abbrev pub IsOwnCheckpoint : Node → model.Checkpoint → Type 0
IsOwnCheckpoint node c = (files : FileSystem) × (node.files ≡ Some files) × (c.number ≡ node.order.last) × (c.digest ≡ node_digest files node.table)

-- it answers a request of the batch that it executes next
abbrev pub IsAnswer : Node → model.Reply → Type 0
IsAnswer node reply = (files : FileSystem) × (node.files ≡ Some files) × (next : Committed) × (next_committed node.order ≡ Some next)
    × (answer : Answer) × IsIn answer (results.outcome files node.table next.batch).answers × (reply ≡ reply_to node.order answer)

-- it gives the last reply to its client once more
abbrev pub IsLast : Node → model.Reply → Type 0
IsLast node reply = (last : Last) × (last_of node.table reply.client ≡ Some last) × (reply.timestamp ≡ last.timestamp) × (reply.result ≡ last.reply)

abbrev pub NoReply : model.Reply → Type 0
NoReply reply = ⊥

-- what a REPLY that a step sends is
abbrev pub RepliesBy : Node → NodeStep → model.Reply → Type 0
RepliesBy node Executes = IsAnswer node
RepliesBy node (TakesOffered request) = IsLast node
RepliesBy node step = NoReply

-- what a message that it sends tells of its state, and what it replies
abbrev pub Tells : (Replies : model.Reply → Type 0) → Node → Message → Type 0
Tells Replies node m = ((c : model.Checkpoint) → m ≡ Order (Checkpoint c) → IsOwnCheckpoint node c) × ((reply : model.Reply) → m ≡ Reply reply → Replies reply)

-- neither a CHECKPOINT nor a REPLY
pub tells_nothing : (Replies : model.Reply → Type 0) (node : Node) (m : Message) → ((c : model.Checkpoint) → m ≡ Order (Checkpoint c) → ⊥) → ((reply : model.Reply) → m ≡ Reply reply → ⊥) → Tells Replies node m
tells_nothing Replies node m none other = (λ c e. absurd (none c e), λ reply e. absurd (other reply e))

-- a REPLY or its CHECKPOINT, in its own name
abbrev pub IsOther : (Replies : model.Reply → Type 0) → Node → Message → Type 0
IsOther Replies node m = (sender_of m ≡ principal.Replica node.order.me)
    × (((reply : model.Reply) × (m ≡ Reply reply) × Replies reply) ⊎ ((c : model.Checkpoint) × (m ≡ Order (Checkpoint c)) × IsOwnCheckpoint node c))

-- no vote is a CHECKPOINT
vote_tells : (Replies : model.Reply → Type 0) (node : Node) (m : OrderMessage) → (message_header m).tag < 5 → Tells Replies node (Order m)
vote_tells Replies node m small = tells_nothing Replies node (Order m)
    (λ c e. let same : m ≡ Checkpoint c = cc in let five : (message_header m).tag ≡ 5 = ap (λ (x : OrderMessage). (message_header x).tag) same in omega (arith, small, five))
    (λ reply e. absurd cc)

-- it is in the state that it was in
abbrev pub IsStill : (node now : Node) → Type 0
IsStill node now = (now.files ≡ node.files) × (now.table ≡ node.table) × (now.order.last ≡ node.order.last)

-- so it does, but where it executes, fails or adopts
abbrev pub StandsBy : Node → NodeStep → Type 0
StandsBy node Executes = Unit {0}
StandsBy node Fails = Unit {0}
StandsBy node (Adopts certificate files table) = Unit {0}
StandsBy node step = IsStill node (outcome node step).now

-- each of these requests passes by these keys
abbrev pub ArePassed : Keys → List (Signed model.Request) → Type 0
ArePassed keys requests = AllIn (λ (s : Signed model.Request). request_is_signed keys s ≡ true) requests

-- Logs over deeds -------------------------------------------------------------------------------------------------------------

abbrev pub BringAll : (Signed OrderMessage → Type 0) → state.State → List ViewDeed → Type 0
BringAll P s [] = Unit {0}
BringAll P s (deed ∷ deeds) = Brings P s (called s deed) × BringAll P (order.outcome s (called s deed)).now deeds

abbrev pub OfferAll : (Signed OrderMessage → Type 0) → state.State → List ViewDeed → Type 0
OfferAll P s [] = Unit {0}
OfferAll P s (deed ∷ deeds) = Offers P s (called s deed) × OfferAll P (order.outcome s (called s deed)).now deeds

-- what orders send passes where what they propose does
pub deeds_offer : (keys : Keys) (deeds : List ViewDeed) (o : ordered.OrderReplica) → AllIn (IsChecked keys) o.sent → OfferAll (IsChecked keys) o.state deeds → AllIn (IsChecked keys) (after_deeds o deeds).sent
deeds_offer keys [] o all offers = all
deeds_offer keys (deed ∷ deeds) o all offers =
    let call = called o.state deed in
    deeds_offer keys deeds (after_order_deed o (ordered_deed o.state deed)) (both_in (IsChecked keys) (votes_by o.state call) o.sent (votes_checked keys o.state call offers.0) all) offers.1

pub extends_deeds : (deeds : List ViewDeed) (o : ordered.OrderReplica) → Extends o (after_deeds o deeds)
extends_deeds [] o = extends_same o
extends_deeds (deed ∷ deeds) o =
    let next = after_order_deed o (ordered_deed o.state deed) in
    extends_both o next (after_deeds next deeds) (extends_deed o (ordered_deed o.state deed)) (extends_deeds deeds next)

pub deeds_keep : (P : Signed OrderMessage → Type 0) → order.CallsKeepTheReplica → (deeds : List ViewDeed) (o : ordered.OrderReplica) (me : ℕ) → o.state.me ≡ me → AllIn P o.state.log → BringAll P o.state deeds
    → ((m : Signed OrderMessage) → IsIn m (after_deeds o deeds).sent → IsOwn me m → P m) → AllIn P (after_deeds o deeds).state.log
deeds_keep P same [] o me is all brings own = all
deeds_keep P same (deed ∷ deeds) o me is all brings own =
    let call = called o.state deed in
    let next = after_order_deed o (ordered_deed o.state deed) in
    let later = extends_deeds deeds next in
    let first = log_keeps P o.state call all brings.0 (λ m i. own m (later.sent m (left_in (votes_by o.state call) o.sent m i)) (subst (λ (k : ℕ). IsOwn k m) is (votes_own o.state call m i))) in
    deeds_keep P same deeds next me ((same o.state call).1 ∙ is) first brings.1 own

-- Deeds of one node -----------------------------------------------------------------------------------------------------------

pub here_is : (v : ordered.OrderReplicas) (who : ℕ) (o : ordered.OrderReplica) → with_replica v who o who ≡ o
here_is v who o = ap (λ (b : Bool). cond b o (v who)) (eq-eqb who who refl)

module _ (faulty : ℕ → Bool) (after : NodeReplicas) (who : ℕ) where
  -- what is known of a node that takes a step, in a world in which what it sends is sent
  pub record Stands (v : ordered.OrderReplicas) (node : Node) : Type 0 where
    pub at : (v who).state ≡ node.order
    pub bounded : IsBounded node.order
    pub fit : faults node.keys ≡ node.order.f
    pub me : node.order.me ≡ who
    pub later : HasNoLaterView node.order
    pub log : AllIn (IsHeard faulty node.keys (histories v) after) node.order.log
    pub kept : AreKept (IsGood faulty node.keys node.order.f (histories v) after) node.order.f node.changes
    pub waiting : ArePassed node.keys node.pending

  abbrev pub Goes : Outcome → Type 0
  Goes out = (s : Signed Message) → IsIn s out.sent → IsIn s (after who).sent

  -- its order knows of the message, which tells its state rightly and is said by its sender
  abbrev pub MaySend : (Replies : model.Reply → Type 0) → Node → ordered.OrderReplica → Signed Message → Type 0
  MaySend Replies node o s = IsSpoken o s × Tells Replies node s.message × IsWhollySaid faulty after s

  pub own_said : (s : Signed Message) → IsIn s (after who).sent → sender_of s.message ≡ principal.Replica who → IsSaid faulty after s.message
  own_said s i own k e correct = let same : who ≡ k = cc in (s, subst (λ (j : ℕ). IsIn s (after j).sent) same i, inl refl)

  alone : (s : Signed Message) → ((p : Signed Message) → IsWithin p s.message → ⊥) → IsSaid faulty after s.message → IsWhollySaid faulty after s
  alone s none said p of = elim of [ inl same ↦ subst (λ (x : Signed Message). IsSaid faulty after x.message) (sym same) said | inr within ↦ absurd (none p within) ]

  pub other_sent : (Replies : model.Reply → Type 0) (node : Node) → node.order.me ≡ who → (o : ordered.OrderReplica) (s : Signed Message) → IsIn s (after who).sent → IsOther Replies node s.message → MaySend Replies node o s
  other_sent Replies node me o s there other =
      let said = own_said s there (other.0 ∙ ap principal.Replica me) in
      elim other.1 [
        | inl reply ↦ (
          subst (Spoken o s) (sym reply.1) tt,
          (
            (λ c e. let no : Reply reply.0 ≡ Order (Checkpoint c) = sym reply.1 ∙ e in absurd cc),
            (λ r e. let no : Reply reply.0 ≡ Reply r = sym reply.1 ∙ e in let same : reply.0 ≡ r = cc in subst Replies same reply.2),
          ),
          alone s (λ p within. subst (IsWithin p) reply.1 within) said,
        )
        | inr own ↦ (
          subst (Spoken o s) (sym own.1) (λ small. absurd (omega (arith, small))),
          (
            (λ c e. let no : Order (Checkpoint own.0) ≡ Order (Checkpoint c) = sym own.1 ∙ e in let same : own.0 ≡ c = cc in subst (IsOwnCheckpoint node) same own.2),
            (λ r e. let no : Order (Checkpoint own.0) ≡ Reply r = sym own.1 ∙ e in absurd cc),
          ),
          alone s (λ p within. subst (IsWithin p) own.1 within) said,
        )
      ]

  module _ (v : ordered.OrderReplicas) (node : Node) (know : Stands v node) where
    abbrev pub After : List ViewDeed → ordered.OrderReplicas
    After deeds = turns.after_view_turns v (map (turn_of who) deeds)

    -- they may be done, and what is known stays so, and that of its state
    pub record Done (S : Type 0) (Replies : model.Reply → Type 0) (deeds : List ViewDeed) (out : Outcome) : Type 0 where
      pub may : turns.MayTakeViewTurns faulty v (map (turn_of who) deeds)
      pub keys : out.now.keys ≡ node.keys
      pub kept : AreKept (IsGood faulty node.keys node.order.f (histories (After deeds)) after) node.order.f out.now.changes
      pub waiting : ArePassed node.keys out.now.pending
      pub sends : AllIn (MaySend Replies node (after_deeds (v who) deeds)) out.sent
      pub gives : (m : Signed OrderMessage) → IsIn m (after_deeds (v who) deeds).sent → GoesOut node.order.f m → IsIn m (v who).sent ⊎ IsIn (as_message Order m) out.sent
      pub brings : BringAll (IsHeard faulty node.keys (histories (After deeds)) after) node.order deeds
      pub offers : OfferAll (IsChecked node.keys) node.order deeds
      pub stands : S

    abbrev pub WereKept : Kept → Type 0
    WereKept kept = AreKept (IsGood faulty node.keys node.order.f (histories v) after) node.order.f kept

    kept_then : (deeds : List ViewDeed) (kept : Kept) → WereKept kept → AreKept (IsGood faulty node.keys node.order.f (histories (After deeds)) after) node.order.f kept
    kept_then deeds kept are =
        let h = histories v in
        let g = histories (After deeds) in
        (are.0, good_on (IsGood faulty node.keys node.order.f h after) (IsGood faulty node.keys node.order.f g after) (change_on faulty node.keys node.order.f h g after after (grown (map (turn_of who) deeds) v) (λ k s i. i)) 0 kept.changes are.1)

    -- its order does nothing
    pub said_alone : (S : Type 0) (Replies : model.Reply → Type 0) (out : Outcome) → WereKept out.now.changes → ArePassed node.keys out.now.pending → out.now.keys ≡ node.keys
        → AllIn (MaySend Replies node (v who)) out.sent → S → Done S Replies [] out
    said_alone S Replies out kept waiting keys sends stands = record {
      may = tt;
      keys = keys;
      kept = kept_then [] out.now.changes kept;
      waiting = waiting;
      sends = sends;
      gives = λ m i small. inl i;
      brings = tt;
      offers = tt;
      stands = stands;
    }

    pub nothing_done : (S : Type 0) (Replies : model.Reply → Type 0) (now : Node) → WereKept now.changes → ArePassed node.keys now.pending → now.keys ≡ node.keys → S → Done S Replies [] (still now)
    nothing_done S Replies now kept waiting keys stands = said_alone S Replies (still now) kept waiting keys (none_in (MaySend Replies node (v who))) stands

    -- what its order says is sent, and what no order has to know
    pub deed_done : (S : Type 0) (Replies : model.Reply → Type 0) (deed : ViewDeed) (out : Outcome) (votes : Log) → votes_by node.order (called node.order deed) ≡ votes → MayDoViewDeed faulty (histories v) node.order deed
        → out.now.keys ≡ node.keys → WereKept out.now.changes → ArePassed node.keys out.now.pending
        → ((s : Signed Message) → IsIn s out.sent → IsAmong s votes ⊎ MaySend Replies node (after_deeds (v who) (deed ∷ [])) s)
        → ((m : Signed OrderMessage) → IsIn m votes → GoesOut node.order.f m → IsIn (as_message Order m) out.sent)
        → Brings (IsHeard faulty node.keys (histories (After (deed ∷ []))) after) node.order (called node.order deed) → Offers (IsChecked node.keys) node.order (called node.order deed)
        → S → Goes out → Done S Replies (deed ∷ []) out
    deed_done S Replies deed out votes is may keys kept waiting sent gives brings offers stands goes = record {
      may = (subst (λ (s : state.State). MayDoViewDeed faulty (histories v) s deed) (sym know.at) may, tt);
      keys = keys;
      kept = kept_then (deed ∷ []) out.now.changes kept;
      waiting = waiting;
      sends = λ s i. elim (sent s i) [ inl among ↦ vote s (goes s i) among | inr other ↦ other ];
      gives = λ m i small. elim (either_in said (v who).sent m i) [ inl j ↦ inr (gives m (subst (λ (l : Log). IsIn m l) said_is j) small) | inr j ↦ inl j ];
      brings = (brings, tt);
      offers = (offers, tt);
      stands = stands;
    }
      where
        said : Log
        said = votes_by (v who).state (called (v who).state deed)

        said_is : said ≡ votes
        said_is = ap (λ (s : state.State). votes_by s (called s deed)) know.at ∙ is

        vote : (s : Signed Message) → IsIn s (after who).sent → IsAmong s votes → MaySend Replies node (after_deeds (v who) (deed ∷ [])) s
        vote s there among =
            let from = out_of_map (as_message Order) votes s among in
            let m = from.0 in
            let own = votes_own node.order (called node.order deed) m (subst (λ (l : Log). IsIn m l) (sym is) from.1) in
            subst (MaySend Replies node (after_deeds (v who) (deed ∷ []))) (sym from.2) (
              (λ small. left_in said (v who).sent m (subst (λ (l : Log). IsIn m l) (sym said_is) from.1)),
              vote_tells Replies node m.message own.kind,
              alone (as_message Order m) (λ p within. within) (own_said (as_message Order m) (subst (λ (x : Signed Message). IsIn x (after who).sent) from.2 there) (ap principal.Replica (own.sender ∙ know.me))),
            )

    -- the primary offers what it hands over
    pub offered : (view : ℕ) (changes : List (Signed model.ViewChange)) (handed : List (Signed model.PrePrepare)) → views.entering_refusal node.order view ≡ None → leads node view ≡ true
        → AllIn (λ (p : Signed OrderMessage). IsIn p (after_deeds (v who) (turns.ChangesView node.keys view changes handed ∷ [])).offers) (as_proposals handed)
    offered view changes handed entered led p i =
        let deed = ordered_deed node.order (turns.ChangesView node.keys view changes handed) in
        let are = ap (λ (x : state.State). ordered.offers_by x deed) know.at ∙ ap₂ (λ (r : Option OrderError) (b : Bool). ordered.where_taken r (cond b (as_proposals handed) [])) entered led in
        left_in (ordered.offers_by (v who).state deed) (v who).offers p (subst (λ (l : Log). IsIn p l) (sym are) i)

-- What it leaves at that node, and at the others --------------------------------------------------------------------------------

pub at_who : (deeds : List ViewDeed) (v : ordered.OrderReplicas) (who : ℕ) → turns.after_view_turns v (map (turn_of who) deeds) who ≡ after_deeds (v who) deeds
at_who [] v who = refl
at_who (deed ∷ deeds) v who =
    let next = after_order_deed (v who) (ordered_deed (v who).state deed) in
    at_who deeds (with_replica v who next) who ∙ ap (λ (o : ordered.OrderReplica). after_deeds o deeds) (here_is v who next)

pub elsewhere : (deeds : List ViewDeed) (v : ordered.OrderReplicas) (who i : ℕ) → (i == who) ≡ false → turns.after_view_turns v (map (turn_of who) deeds) i ≡ v i
elsewhere [] v who i other = refl
elsewhere (deed ∷ deeds) v who i other =
    let next = after_order_deed (v who) (ordered_deed (v who).state deed) in
    elsewhere deeds (with_replica v who next) who i other ∙ ap (λ (b : Bool). cond b next (v i)) other

pub stays_kept : (P : state.State → Type 0) → ((s : state.State) (call : order.Call) → P s → P (order.outcome s call).now) → (deeds : List ViewDeed) (o : ordered.OrderReplica) → P o.state → P (after_deeds o deeds).state
stays_kept P kept [] o h = h
stays_kept P kept (deed ∷ deeds) o h = stays_kept P kept deeds (after_order_deed o (ordered_deed o.state deed)) (kept o.state (called o.state deed) h)
