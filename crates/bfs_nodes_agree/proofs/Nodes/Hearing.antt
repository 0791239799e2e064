-- What stands in logs was sent and said, and what nodes have sent their orders have.
use Rattle.std.proofs.Common.{◌≡◌, ℕ, ◌<◌, ◌==◌, Bool, true, false, cond, List, [], ◌∷◌, ◌⊎◌, Option, Some, None, option_map, inl, inr, refl, sym, ap, subst, ◌∙◌, arith}
use Rattle.std.proofs.lemmas.Bool.{cond_both, eqb-true}
use Rattle.bfs_auth.specs.Keys.{Keys}
use Rattle.bfs_auth.specs.declared.principals.Principal.TheVariants as principal
use Rattle.bfs_auth.specs.declared.authenticators.Authenticator.{Authenticator}
use Rattle.bfs_votes.specs.Votes.{Header, Told, prepared}
use Rattle.bfs_log.specs.Certificates.{as_checkpoints, faults, messages_in}
use Rattle.bfs_log.specs.Headers.{header, message_header}
use Rattle.bfs_log.specs.Logs.{Log, headers}
use Rattle.bfs_messages.specs.Messages as model
use Rattle.bfs_messages.specs.Limits.{FitsPreparedBatch, FitsViewChange}
use Rattle.bfs_messages.specs.Signing.{as_message, is_signed, order_signed_by, requests_are_signed, sender_of}
use Rattle.bfs_messages.specs.declared.signed.Signed.{Signed}
use Rattle.bfs_messages.specs.declared.message.Message.{Message}
use Rattle.bfs_messages.specs.declared.message.Message.TheVariants.{Order, ViewChange, NewView, Reply}
use Rattle.bfs_messages.specs.declared.order_messages.OrderMessage.{OrderMessage}
use Rattle.bfs_messages.specs.declared.order_messages.OrderMessage.TheVariants.{PrePrepare, Prepare, Commit}
use Rattle.bfs_order.specs.Replica.Answers.{own_vote}
use Rattle.bfs_order.specs.Replica.Proposing as proposing
use Rattle.bfs_order.specs.Replica.Refusals.{is_there}
use Rattle.bfs_order.specs.Replica.States.{State, known}
use Rattle.bfs_order.specs.Replica.Views.{as_proposals}
use Rattle.bfs_agreement.specs.Histories as told
use Rattle.bfs_agreement.specs.Histories.{IsIn, World, WasSent}
use Rattle.bfs_agreement.proofs.Public.{Grows, in_told, said_on}
use Rattle.bfs_node.specs.Executing.{signed_reply}
use Rattle.bfs_nodes_agree.specs.Orders.Replicas as ordered
use Rattle.bfs_nodes_agree.specs.Orders.Replicas.{after_order_deed, histories}
use Rattle.bfs_nodes_agree.proofs.Orders.Lists.{AllIn, at_place, right_in, some_is}
use Rattle.bfs_nodes_agree.proofs.Orders.Logs.{IsChecked, IsWhole}
use Rattle.bfs_view_change.specs.Changes.ViewChanges.{valid_view_change}
use Rattle.bfs_nodes_agree.specs.Views.Changes.{told_change, HasProofs, IsGenuine}
use Rattle.bfs_nodes_agree.specs.Views.Replicas as turns
use Rattle.bfs_nodes_agree.specs.Views.Replicas.{ViewTurn, ordered_deed, ordered_turn}
use Rattle.bfs_nodes_agree.proofs.Views.Batches.{AreSo}
use Rattle.bfs_nodes_agree.proofs.Views.Lists.{as_it_is, in_map, map_in, out_of_map, told_in}
use Rattle.bfs_nodes_agree.proofs.Views.Proved.{is_valid}
use Rattle.bfs_nodes_agree.specs.Nodes.Premises.{offers_in, order_signed_part, signed_part, HasSaid, IsWholly, SaysTheSame}
use Rattle.bfs_nodes_agree.specs.Nodes.Replicas.{NodeReplicas}

-- What orders have sent grows -----------------------------------------------------------------------------------------------

pub record Extends (o q : ordered.OrderReplica) : Type 0 where
  pub sent : (m : Signed OrderMessage) → IsIn m o.sent → IsIn m q.sent
  pub offers : (m : Signed OrderMessage) → IsIn m o.offers → IsIn m q.offers
  pub changes : (m : told.ViewChange) → IsIn m o.changes → IsIn m q.changes

pub extends_same : (o : ordered.OrderReplica) → Extends o o
extends_same o = record { sent = λ m i. i; offers = λ m i. i; changes = λ m i. i }

pub extends_both : (o q r : ordered.OrderReplica) → Extends o q → Extends q r → Extends o r
extends_both o q r a b = record { sent = λ m i. b.sent m (a.sent m i); offers = λ m i. b.offers m (a.offers m i); changes = λ m i. b.changes m (a.changes m i) }

pub extends_deed : (o : ordered.OrderReplica) (deed : ordered.OrderDeed) → Extends o (after_order_deed o deed)
extends_deed o deed = record {
  sent = right_in (ordered.votes_by o.state (ordered.call_of deed)) o.sent;
  offers = right_in (ordered.offers_by o.state deed) o.offers;
  changes = right_in (ordered.changes_by o.state deed) o.changes;
}

pub extends_turns : (list : List ViewTurn) (v : ordered.OrderReplicas) (k : ℕ) → Extends (v k) (turns.after_view_turns v list k)
extends_turns [] v k = extends_same (v k)
extends_turns (turn ∷ list) v k =
    let deed = ordered_deed (v turn.who).state turn.deed in
    let next = ordered.after_order_turn v (ordered_turn v turn) in
    let first = cond_both (k == turn.who) (after_order_deed (v turn.who) deed) (v k) (λ (o : ordered.OrderReplica). Extends (v k) o)
    (λ e. subst (λ (j : ℕ). Extends (v j) (after_order_deed (v turn.who) deed)) (sym (eqb-true k turn.who e)) (extends_deed (v turn.who) deed)) (λ _. extends_same (v k)) in
    extends_both (v k) (next k) (turns.after_view_turns next list k) first (extends_turns list next k)

told_on : (xs ys : Log) → ((m : Signed OrderMessage) → IsIn m xs → IsIn m ys) → (t k v n : ℕ) (d : List ℕ) → Told (headers xs) t k v n d → Told (headers ys) t k v n d
told_on xs ys on t k v n d x =
    let got = told_in (headers xs) t k v n d x in
    let from = out_of_map header xs got.0 got.1 in
    let there = subst (λ (h : Header). IsIn h (headers ys)) (sym from.2) (in_map header ys from.0 (on from.0 from.1)) in
    as_it_is (λ t k v n d. Told (headers ys) t k v n d) got.0 t k v n d got.2 (in_told (headers ys) got.0 there)

abbrev pub AreGrown : World → World → Type 0
AreGrown h g = (k : ℕ) → Grows (h k) (g k)

pub grown : (list : List ViewTurn) (v : ordered.OrderReplicas) → AreGrown (histories v) (histories (turns.after_view_turns v list))
grown list v k =
    let more = extends_turns list v k in
    record {
      sent = told_on (v k).sent (turns.after_view_turns v list k).sent more.sent;
      offers = told_on (v k).offers (turns.after_view_turns v list k).offers more.offers;
      changes = more.changes;
    }

-- What messages say -------------------------------------------------------------------------------------------------------------

header_kept : (m : OrderMessage) → message_header (order_signed_part m) ≡ message_header m
header_kept (PrePrepare proposal) = refl
header_kept other = refl

pub same_header : (m n : OrderMessage) → SaysTheSame (Order m) (Order n) → message_header m ≡ message_header n
same_header m n e = let same : order_signed_part m ≡ order_signed_part n = cc in sym (header_kept m) ∙ ap message_header same ∙ header_kept n

sender_kept : (m : Message) → sender_of (signed_part m) ≡ sender_of m
sender_kept (Order m) = ap (λ (h : Header). principal.Replica h.sender) (header_kept m)
sender_kept other = refl

pub offer_tag : (m : Message) (p : Signed OrderMessage) → IsIn p (offers_in m) → (header p).tag ≡ 2
offer_tag (NewView new) p i = ap (λ (x : Signed OrderMessage). (header x).tag) (out_of_map (as_message PrePrepare) new.proposals p i).2
offer_tag other p i = absurd i

-- a correct sender has said it
abbrev pub IsSaid : (faulty : ℕ → Bool) → NodeReplicas → Message → Type 0
IsSaid faulty w m = (k : ℕ) → sender_of m ≡ principal.Replica k → faulty k ≡ false → HasSaid (w k).sent m

abbrev pub IsWhollySaid : (faulty : ℕ → Bool) → NodeReplicas → Signed Message → Type 0
IsWhollySaid faulty w m = IsWholly (λ p. IsSaid faulty w p.message) m

pub said_alike : (faulty : ℕ → Bool) (w : NodeReplicas) (m n : Message) → SaysTheSame m n → IsSaid faulty w m → IsSaid faulty w n
said_alike faulty w m n same said k e correct =
    let has = said k (sym (sender_kept m) ∙ ap sender_of same ∙ sender_kept n ∙ e) correct in
    (has.0, has.1, elim has.2 [ inl is ↦ inl (is ∙ same) | inr offer ↦ inr (offer.0, offer.1, offer.2 ∙ same) ])

-- all of a VIEW-CHANGE that is valid is signed
pub change_signed : (keys : Keys) (s : Signed model.ViewChange) → valid_view_change keys s ≡ true → IsWholly (λ p. is_signed keys p ≡ true) (as_message ViewChange s)
change_signed keys s valid p of =
    let is = is_valid keys s valid in
    elim of [
      | inl same ↦ subst (λ (x : Signed Message). is_signed keys x ≡ true) (sym same) is.signed
      | inr within ↦ elim within as (λ _. is_signed keys p ≡ true) [
        | inl told ↦ map_in (λ (x : Signed Message). is_signed keys x ≡ true) (as_message Order) (as_checkpoints s.message.checkpoints) is.told p told
        | inr proof ↦ map_in (λ (x : Signed Message). is_signed keys x ≡ true) (as_message Order) (messages_in proof.0) (is.all_signed proof.0 proof.1) p proof.2
      ]
    ]

-- the COMMIT of a replica that is alone goes to nobody
abbrev pub GoesOut : (f : ℕ) → Signed OrderMessage → Type 0
GoesOut f m = (header m).tag ≡ 4 → 0 < f

pub goes_as : (f g : ℕ) (m : Signed OrderMessage) → f ≡ g → GoesOut f m → GoesOut g m
goes_as f g m same goes four = subst (λ (n : ℕ). 0 < n) same (goes four)

pub lone_stays : (keys : Keys) (state : State) (v n : ℕ) (d : List ℕ) (m : Signed OrderMessage) → IsIn m (proposing.lone_commits keys state v n d) → GoesOut state.f m → ⊥
lone_stays keys state v n d m i goes = go (state.f == 0) (prepared state.f state.me (known state) v n d) (is_there state (header (order_signed_by keys (Commit (own_vote state v n d))))) (eqb-true state.f 0) i
  where
    go : (one prepared there : Bool) → (one ≡ true → state.f ≡ 0) → IsIn m (cond one (cond prepared (cond there [] (order_signed_by keys (Commit (own_vote state v n d)) ∷ [])) []) []) → ⊥
    go true true false alone j = elim j [ inl same ↦ let some = goes (ap (λ (x : Signed OrderMessage). (header x).tag) same) in absurd (omega (arith, some, alone refl)) | inr none ↦ none ]
    go true true true alone j = j
    go true false there alone j = j
    go false prepared there alone j = j

pub lone_late : (keys : Keys) (state : State) (v n : ℕ) (d : List ℕ) (m : Signed OrderMessage) → IsIn m (proposing.lone_commits keys state v n d) → (header m).tag < 4 → ⊥
lone_late keys state v n d m i small = lone_stays keys state v n d m i (λ four. absurd (omega (arith, four, small)))

pub reply_is : (reply : model.Reply) (o : Option Authenticator) (s : Signed Message) → option_map (signed_reply reply) o ≡ Some s → s.message ≡ Reply reply
reply_is reply None s e = absurd cc
reply_is reply (Some auth) s e = sym (ap (λ (x : Signed Message). x.message) (some_is (signed_reply reply auth) s e))

-- What is in a log, and what is kept --------------------------------------------------------------------------------------------

-- f is that of the keys
pub record IsHeard (faulty : ℕ → Bool) (keys : Keys) (h : World) (w : NodeReplicas) (m : Signed OrderMessage) : Type 0 where
  pub sent : (header m).tag < 5 → WasSent faulty h (header m).tag (header m).sender (header m).view (header m).number (header m).digest
  pub said : GoesOut (faults keys) m → IsSaid faulty w (Order m.message)
  pub whole : IsWhole m.message
  -- of the keys of the node whose log it is
  pub checked : IsChecked keys m

-- the requests in the batches of its certificates pass by these keys
abbrev pub AreChecked : Keys → model.ViewChange → Type 0
AreChecked keys change = AreSo (λ batch. requests_are_signed keys batch ≡ true) change

pub record IsGood (faulty : ℕ → Bool) (keys : Keys) (f : ℕ) (h : World) (w : NodeReplicas) (s : Signed model.ViewChange) : Type 0 where
  pub proved : HasProofs f s.message.view s.message
  pub genuine : IsGenuine faulty h s.message
  pub said : IsWhollySaid faulty w (as_message ViewChange s)
  pub checked : AreChecked keys s.message

abbrev pub HaveGrown : NodeReplicas → NodeReplicas → Type 0
HaveGrown w after = (k : ℕ) (s : Signed Message) → IsIn s (w k).sent → IsIn s (after k).sent

pub said_later : (faulty : ℕ → Bool) (w after : NodeReplicas) → HaveGrown w after → (m : Message) → IsSaid faulty w m → IsSaid faulty after m
said_later faulty w after later m said k e correct = let has = said k e correct in (has.0, later k has.0 has.1, has.2)

pub heard_on : (faulty : ℕ → Bool) (keys : Keys) (h g : World) (w after : NodeReplicas) → AreGrown h g → HaveGrown w after → (m : Signed OrderMessage) → IsHeard faulty keys h w m → IsHeard faulty keys g after m
heard_on faulty keys h g w after on later m is = record {
  sent = λ small. said_on faulty h g on (header m).tag (header m).sender (header m).view (header m).number (header m).digest (is.sent small);
  said = λ goes. said_later faulty w after later (Order m.message) (is.said goes);
  whole = is.whole;
  checked = is.checked;
}

pub change_on : (faulty : ℕ → Bool) (keys : Keys) (f : ℕ) (h g : World) (w after : NodeReplicas) → AreGrown h g → HaveGrown w after → (s : Signed model.ViewChange) → IsGood faulty keys f h w s → IsGood faulty keys f g after s
change_on faulty keys f h g w after on later s is = record {
  proved = is.proved;
  genuine = record {
    sent = λ correct. (on s.message.sender).changes (told_change s.message) (is.genuine.sent correct);
    certificates = λ c m i j. said_on faulty h g on (header m).tag (header m).sender (header m).view (header m).number (header m).digest (is.genuine.certificates c m i j);
    whole = is.genuine.whole;
  };
  said = λ p of. said_later faulty w after later p.message (is.said p of);
  checked = is.checked;
}

-- What nodes have sent ----------------------------------------------------------------------------------------------------------

-- a vote that its order has sent, a VIEW-CHANGE that stands for a timeout, or a NEW-VIEW whose PRE-PREPAREs are offered
abbrev pub Spoken : ordered.OrderReplica → Signed Message → Message → Type 0
Spoken o s (Order m) = (message_header m).tag < 5 → IsIn (record { message = m; auth = s.auth }) o.sent
Spoken o s (ViewChange change) = IsIn (told_change change) o.changes
Spoken o s (NewView new) = AllIn (λ (p : Signed OrderMessage). IsIn p o.offers) (as_proposals new.proposals)
Spoken o s _ = Unit {0}

abbrev pub IsSpoken : ordered.OrderReplica → Signed Message → Type 0
IsSpoken o s = Spoken o s s.message

pub spoken_on : (o q : ordered.OrderReplica) → Extends o q → (s : Signed Message) (m : Message) → Spoken o s m → Spoken q s m
spoken_on o q on s (Order m) is = λ small. on.sent (record { message = m; auth = s.auth }) (is small)
spoken_on o q on s (ViewChange change) is = on.changes (told_change change) is
spoken_on o q on s (NewView new) is = λ p i. on.offers p (is p i)
spoken_on o q on s other is = tt

offer_spoken : (o : ordered.OrderReplica) (s : Signed Message) (m : Message) (p : Signed OrderMessage) → Spoken o s m → IsIn p (offers_in m) → IsIn p o.offers
offer_spoken o s (NewView new) p is i = is p i
offer_spoken o s other p is i = absurd i

told_of : (log : Log) (s : Signed OrderMessage) (m : OrderMessage) → SaysTheSame (Order s.message) (Order m) → IsIn s log
    → Told (headers log) (message_header m).tag (message_header m).sender (message_header m).view (message_header m).number (message_header m).digest
told_of log s m e i =
    subst (λ (h : Header). Told (headers log) h.tag h.sender h.view h.number h.digest) (same_header s.message m e) (in_told (headers log) (header s) (in_map header log s i))

-- it is sent as a vote
vote_told : (o : ordered.OrderReplica) (s : Signed Message) (x : Message) (m : OrderMessage) → SaysTheSame x (Order m) → (message_header m).tag < 5 → Spoken o s x
    → Told (headers o.sent) (message_header m).tag (message_header m).sender (message_header m).view (message_header m).number (message_header m).digest
vote_told o s (Order x) m e small is =
    told_of o.sent (record { message = x; auth = s.auth }) m e (is (subst (λ (h : Header). h.tag < 5) (sym (same_header x m e)) small))
vote_told o s other m e small is = absurd cc

vote_said : (o : ordered.OrderReplica) (sent : List (Signed Message)) → AllIn (IsSpoken o) sent → (m : OrderMessage) → (message_header m).tag < 5 → HasSaid sent (Order m)
    → Told (headers o.sent) (message_header m).tag (message_header m).sender (message_header m).view (message_header m).number (message_header m).digest
    ⊎ (((message_header m).tag ≡ 2) × Told (headers o.offers) 2 (message_header m).sender (message_header m).view (message_header m).number (message_header m).digest)
vote_said o sent all m small said =
    let s = said.0 in
    let spoken = all s said.1 in
    elim said.2 [
      | inl e ↦ inl (vote_told o s s.message m e small spoken)
      | inr offer ↦
          let p = offer.0 in
          let two : (message_header m).tag ≡ 2 = ap (λ (h : Header). h.tag) (sym (same_header p.message m offer.2)) ∙ offer_tag s.message p offer.1 in
          inr (
            two,
            subst (λ (t : ℕ). Told (headers o.offers) t (message_header m).sender (message_header m).view (message_header m).number (message_header m).digest) two
                (told_of o.offers p m offer.2 (offer_spoken o s s.message p spoken offer.1)),
          )
    ]

-- a VIEW-CHANGE is signed whole
change_told : (o : ordered.OrderReplica) (s : Signed Message) (x : Message) (change : model.ViewChange) → SaysTheSame x (ViewChange change) → Spoken o s x → IsIn (told_change change) o.changes
change_told o s (ViewChange x) change e is = let same : x ≡ change = cc in subst (λ (y : model.ViewChange). IsIn (told_change y) o.changes) same is
change_told o s other change e is = absurd cc

-- a PRE-PREPARE or a PREPARE
pub proof_small : (c : model.PreparedBatch) (m : Signed OrderMessage) → IsIn m (messages_in c) → (header m).tag < 4
proof_small c m i = elim i [
  | inl e ↦ let two : (header m).tag ≡ 2 = ap (λ (x : Signed OrderMessage). (header x).tag) e in omega (arith, two)
  | inr j ↦
      let three : (header m).tag ≡ 3 = ap (λ (x : Signed OrderMessage). (header x).tag) (out_of_map (as_message Prepare) c.prepares m j).2 in
      omega (arith, three)
]

module _ (faulty : ℕ → Bool) (w : NodeReplicas) (v : ordered.OrderReplicas) (spoken : (k : ℕ) → AllIn (IsSpoken (v k)) (w k).sent) where
  pub vote_heard : (keys : Keys) (m : Signed OrderMessage) → IsSaid faulty w (Order m.message) → IsWhole m.message → IsChecked keys m → IsHeard faulty keys (histories v) w m
  vote_heard keys m said whole checked = record {
    sent = λ small correct. let k = (header m).sender in vote_said (v k) (w k).sent (spoken k) m.message small (said k refl correct);
    said = λ _. said;
    whole = whole;
    checked = checked;
  }

  pub change_said : (k : ℕ) (change : model.ViewChange) → HasSaid (w k).sent (ViewChange change) → IsIn (told_change change) (v k).changes
  change_said k change said = elim said.2 [
    | inl e ↦ change_told (v k) said.0 said.0.message change e (spoken k said.0 said.1)
    | inr offer ↦ absurd cc
  ]

  pub genuine_of : (s : Signed model.ViewChange) → IsWhollySaid faulty w (as_message ViewChange s) → FitsViewChange s.message → IsGenuine faulty (histories v) s.message
  genuine_of s said fits = record {
    sent = λ correct. change_said s.message.sender s.message (said (as_message ViewChange s) (inl refl) s.message.sender refl correct);
    certificates = λ c m i j correct.
        let k = (header m).sender in
        let small = proof_small c m j in
        vote_said (v k) (w k).sent (spoken k) m.message (omega (arith, small)) (said (as_message Order m) (inr (inr (c, i, in_map (as_message Order) (messages_in c) m j))) k refl correct);
    whole = λ c i. (at_place FitsPreparedBatch s.message.certificates fits.certificates.1 c i).proposal.0.digest;
  }
