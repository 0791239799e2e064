-- A correct replica says one text of each place, so no index of a key signs two.
use Rattle.std.proofs.Common.{◌≡◌, ℕ, ◌<◌, ◌≤◌, Bool, false, List, ◌⊎◌, Some, inl, inr, refl, sym, ap, subst, ◌∙◌, arith}
use Rattle.std.proofs.lemmas.Bool.{leb-true}
use Rattle.std.proofs.lemmas.Option.{option_and_then_some}
use Rattle.bfs_auth.specs.Laws.{IndexIsOfOnePlace}
use Rattle.bfs_auth.specs.Places.{index_of, place_in}
use Rattle.bfs_auth.specs.declared.authenticators.Authenticator.{Authenticator}
use Rattle.bfs_auth.specs.declared.places.Place.{Place}
use Rattle.bfs_auth.specs.declared.places.Place.TheVariants.{Checkpoint, NewView, ViewChange, Vote}
use Rattle.bfs_model.specs.Server.Limits.{most_number}
use Rattle.bfs_votes.specs.Votes.{Header, Told, primary, says}
use Rattle.bfs_log.specs.Headers.{header, message_header}
use Rattle.bfs_log.specs.Logs.{Log, headers}
use Rattle.bfs_messages.specs.Spelling.{body_text}
use Rattle.bfs_messages.specs.declared.message.Message.{Message}
use Rattle.bfs_messages.specs.declared.message.Message.TheVariants as message
use Rattle.bfs_messages.specs.declared.message.Message.TheVariants.{Order, Request, Reply}
use Rattle.bfs_messages.specs.declared.order_messages.OrderMessage.{OrderMessage}
use Rattle.bfs_messages.specs.declared.order_messages.OrderMessage.TheVariants as ordering
use Rattle.bfs_messages.specs.declared.signed.Signed.{Signed}
use Rattle.bfs_messages.proofs.Public.{checkpoint_place, commit_place, new_view_place, pre_prepare_place, prepare_place, reply_place, request_place, view_change_place}
use Rattle.bfs_order.specs.Replica.States.{State}
use Rattle.bfs_order.specs.Replica.Views.{as_proposals}
use Rattle.bfs_node.specs.Nodes.{Messages}
use Rattle.bfs_agreement.specs.Histories as told
use Rattle.bfs_agreement.specs.Histories.{IsIn, World}
use Rattle.bfs_agreement.proofs.Public.{in_told, one_digest}
use Rattle.bfs_nodes_agree.specs.Orders.Replicas.{OrderReplica, OrderReplicas}
use Rattle.bfs_nodes_agree.specs.Views.Changes.{told_change}
use Rattle.bfs_nodes_agree.specs.Nodes.Premises.{HasSaid, SaysTheSame, offers_in}
use Rattle.bfs_nodes_agree.specs.Nodes.Replicas.{NodeReplicas, after_node_turns, new_node_replicas}
use Rattle.bfs_nodes_agree.proofs.Public.{AllIn, IsBounded, in_map, offer_tag, out_of_map, same_header, told_in}
use Rattle.bfs_places.specs.Laws.{HasOneTextOfEachPlace, OneTextOfEachIndex, OneTextOfEachPlace}
use Rattle.bfs_places.proofs.Fresh.{IsLone, vote_silent}
use Rattle.bfs_places.proofs.Numbers.{AreNumbers}
use Rattle.bfs_places.proofs.Places.{order_place, place_of}
use Rattle.bfs_places.proofs.Reached.{Below, Facts, always}
use Rattle.bfs_places.proofs.Spent.{IsSpent}
use Rattle.bfs_places.proofs.Texts.{header_tells, same_place, same_text}

-- Places that are no votes' -----------------------------------------------------------------------------------------------------

-- it is said by a message of its own, and not within another
record IsSaidAlone (sent : Messages) (m : Message) (place : Place) : Type 0 where
  by : Signed Message
  sent_so : IsIn by sent
  of_place : place_of by.message ≡ Some place
  text : body_text by.message ≡ body_text m

said_alone : (sent : Messages) (m : Message) (place : Place) → HasSaid sent m → place_of m ≡ Some place → IsLone place → IsSaidAlone sent m place
said_alone sent m place said is lone =
    let s = said.0 in
    elim said.2 [
      | inl same ↦ record { by = s; sent_so = said.1; of_place = same_place s.message m same ∙ is; text = same_text s.message m same }
      | inr offer ↦
          let p = offer.0 in
          let two = offer_tag s.message p offer.1 in
          absurd (vote_silent p.message p.auth (omega (arith, two)) place (same_place (Order p.message) m offer.2 ∙ is) lone)
    ]

one_alone : (sent : Messages) → ((s t : Signed Message) (place : Place) → IsIn s sent → IsIn t sent → place_of s.message ≡ Some place → place_of t.message ≡ Some place → IsLone place → s.message ≡ t.message)
    → (one other : Message) (place : Place) → IsLone place → HasSaid sent one → HasSaid sent other → place_of one ≡ Some place → place_of other ≡ Some place → body_text one ≡ body_text other
one_alone sent once one other place lone x y is also =
    let a = said_alone sent one place x is lone in
    let b = said_alone sent other place y also lone in
    sym a.text ∙ ap body_text (once a.by b.by place a.sent_so b.sent_so a.of_place b.of_place lone) ∙ b.text

-- Votes -------------------------------------------------------------------------------------------------------------------------

-- what its order knows of a message that is sent
abbrev Spoken : OrderReplica → Signed Message → Message → Type 0
Spoken o s (Order m) = (message_header m).tag < 5 → IsIn (record { message = m; auth = s.auth }) o.sent
Spoken o s (message.ViewChange change) = IsIn (told_change change) o.changes
Spoken o s (message.NewView new) = AllIn (λ (p : Signed OrderMessage). IsIn p o.offers) (as_proposals new.proposals)
Spoken o s _ = Unit {0}

abbrev IsSpoken : OrderReplica → Signed Message → Type 0
IsSpoken o s = Spoken o s s.message

abbrev Tells : Log → Header → Type 0
Tells log h = Told (headers log) h.tag h.sender h.view h.number h.digest

tells_it : (log : Log) (s : Signed OrderMessage) (m : OrderMessage) → SaysTheSame (Order s.message) (Order m) → IsIn s log → Tells log (message_header m)
tells_it log s m same i = subst (Tells log) (same_header s.message m same) (in_told (headers log) (header s) (in_map header log s i))

sent_it : (o : OrderReplica) (auth : Authenticator) (x : Message) (m : OrderMessage) → SaysTheSame x (Order m) → (message_header m).tag < 5 → Spoken o (record { message = x; auth = auth }) x → Tells o.sent (message_header m)
sent_it o auth (Order x) m same small spoken =
    tells_it o.sent (record { message = x; auth = auth }) m same (spoken (subst (λ (h : Header). h.tag < 5) (sym (same_header x m same)) small))
sent_it o auth other m same small spoken = absurd cc

offered_it : (o : OrderReplica) (auth : Authenticator) (x : Message) (p : Signed OrderMessage) → Spoken o (record { message = x; auth = auth }) x → IsIn p (offers_in x) → IsIn p o.offers
offered_it o auth (message.NewView new) p spoken i = spoken p i
offered_it o auth other p spoken i = absurd i

vote_said : (o : OrderReplica) (sent : Messages) → AllIn (IsSpoken o) sent → (m : OrderMessage) → (message_header m).tag < 5 → HasSaid sent (Order m)
    → Tells o.sent (message_header m) ⊎ (((message_header m).tag ≡ 2) × Tells o.offers (message_header m))
vote_said o sent all m small said =
    let s = said.0 in
    let spoken = all s said.1 in
    elim said.2 [
      | inl same ↦ inl (sent_it o s.auth s.message m same small spoken)
      | inr offer ↦
          let p = offer.0 in
          inr (ap (λ (h : Header). h.tag) (sym (same_header p.message m offer.2)) ∙ offer_tag s.message p offer.1, tells_it o.offers p m offer.2 (offered_it o s.auth s.message p spoken offer.1))
    ]

abbrev IsNumberedHeader : Header → Type 0
IsNumberedHeader h = h.tag < 4 → AreNumbers h.view h.number

-- what is known of a vote that it has said
record IsVote (f : ℕ) (t : World) (k : ℕ) (h : Header) : Type 0 where
  numbered : IsNumberedHeader h
  sender : h.sender ≡ k
  led : h.tag ≡ 2 → k ≡ primary f h.view
  backup : h.tag ≡ 3 → k ≡ primary f h.view → ⊥
  said : told.HasSaid (t k) h.tag k h.view h.number h.digest

record IsVoteAt (m : OrderMessage) (view number : ℕ) : Type 0 where
  kind : ((message_header m).tag ≡ 2) ⊎ ((message_header m).tag ≡ 3)
  small : (message_header m).tag < 5
  in_view : (message_header m).view ≡ view
  of_number : (message_header m).number ≡ number

vote_at : (m : OrderMessage) (view number : ℕ) → order_place m ≡ Some (Vote view number) → IsVoteAt m view number
vote_at (ordering.PrePrepare proposal) view number is =
    let a : proposal.vote.view ≡ view = cc in
    let b : proposal.vote.number ≡ number = cc in
    record { kind = inl refl; small = omega arith; in_view = a; of_number = b }
vote_at (ordering.Prepare vote) view number is =
    let a : vote.view ≡ view = cc in
    let b : vote.number ≡ number = cc in
    record { kind = inr refl; small = omega arith; in_view = a; of_number = b }
vote_at (ordering.Commit vote) view number is = absurd cc
vote_at (ordering.Checkpoint checkpoint) view number is = absurd cc

is_order : (m : Message) (view number : ℕ) → place_of m ≡ Some (Vote view number) → (o : OrderMessage) × (m ≡ Order o)
is_order (Order o) view number is = (o, refl)
is_order (message.ViewChange change) view number is = absurd cc
is_order (message.NewView new) view number is = absurd cc
is_order (Request request) view number is = absurd cc
is_order (Reply reply) view number is = absurd cc

header_is : (h g : Header) → h.tag ≡ g.tag → h.sender ≡ g.sender → h.view ≡ g.view → h.number ≡ g.number → h.digest ≡ g.digest → h ≡ g
header_is h g a b c d e =
    ap (λ (x : ℕ). record h { tag = x }) a
    ∙ ap (λ (x : ℕ). record h { tag = g.tag; sender = x }) b
    ∙ ap (λ (x : ℕ). record h { tag = g.tag; sender = g.sender; view = x }) c
    ∙ ap (λ (x : ℕ). record g { number = x; digest = h.digest }) d
    ∙ ap (λ (x : List ℕ). record g { digest = x }) e

-- what holds of each header of a log holds of each that it tells
of_told : (P : Header → Type 0) (log : Log) → AllIn (λ (m : Signed OrderMessage). P (header m)) log → (h : Header) → Tells log h → P h
of_told P log all h x =
    let got = told_in (headers log) h.tag h.sender h.view h.number h.digest x in
    let from = out_of_map header log got.0 got.1 in
    let is = got.2 in
    subst P (sym from.2 ∙ header_is got.0 h is.tag is.sender is.view is.number is.digest) (all from.0 from.1)

-- a PRE-PREPARE is of the primary, and a PREPARE of another one
abbrev IsKindedHeader : (f : ℕ) → Header → Type 0
IsKindedHeader f h = IsNumberedHeader h × (h.tag ≡ 2 → h.sender ≡ primary f h.view) × (h.tag ≡ 3 → h.sender ≡ primary f h.view → ⊥)

module _ (f : ℕ) (faulty : ℕ → Bool) (w : NodeReplicas) (v : OrderReplicas) (t : World) (facts : Facts f faulty w v t) (k : ℕ) (correct : faulty k ≡ false) where
  vote_is : (m : OrderMessage) → (message_header m).tag < 5 → HasSaid (w k).sent (Order m) → IsVote f t k (message_header m)
  vote_is m small said =
      let h = message_header m in
      let kept = facts.sound.kept k correct in
      let follows = (facts.followed k).follows in
      elim (vote_said (v k) (w k).sent (facts.right k).spoken m small said) [
        | inl x ↦
            let there : Told (t k).sent h.tag h.sender h.view h.number h.digest = sym (follows.sent (says h.tag h.sender h.view h.number h.digest)) ∙ x in
            let me = kept.names h.tag h.sender h.view h.number h.digest there in
            let kinded = of_told (IsKindedHeader f) (v k).sent (λ m i. let is = (facts.knows k).sent m i in (is.numbered, is.led, is.backup)) h x in
            record {
              numbered = kinded.0;
              sender = me;
              led = λ two. sym me ∙ kinded.1 two;
              backup = λ three leads. kinded.2 three (me ∙ leads);
              said = inl (subst (λ (j : ℕ). Told (t k).sent h.tag j h.view h.number h.digest) me there);
            }
        | inr offer ↦
            let two = offer.0 in
            let x : Told (headers (v k).offers) 2 h.sender h.view h.number h.digest = subst (λ (tag : ℕ). Told (headers (v k).offers) tag h.sender h.view h.number h.digest) two offer.1 in
            let there : Told (t k).offers 2 h.sender h.view h.number h.digest = sym (follows.offers (says 2 h.sender h.view h.number h.digest)) ∙ x in
            let names = kept.offers_names h.sender h.view h.number h.digest there in
            record {
              numbered = of_told IsNumberedHeader (v k).offers (facts.knows k).offers h offer.1;
              sender = names.1;
              led = λ _. sym names.1 ∙ names.0;
              backup = λ three. absurd (omega (arith, two, three));
              said = inr (two, subst (λ (j : ℕ). Told (t k).offers 2 j h.view h.number h.digest) names.1 there);
            }
      ]

  one_kind : (h g : Header) → IsVote f t k h → IsVote f t k g → h.view ≡ g.view → (h.tag ≡ 2) ⊎ (h.tag ≡ 3) → (g.tag ≡ 2) ⊎ (g.tag ≡ 3) → h.tag ≡ g.tag
  one_kind h g a b same (inl x) (inl y) = x ∙ sym y
  one_kind h g a b same (inl x) (inr y) = absurd (b.backup y (a.led x ∙ ap (primary f) same))
  one_kind h g a b same (inr x) (inl y) = absurd (a.backup x (b.led y ∙ ap (primary f) (sym same)))
  one_kind h g a b same (inr x) (inr y) = x ∙ sym y

  one_vote : (m n : OrderMessage) (view number : ℕ) → HasSaid (w k).sent (Order m) → HasSaid (w k).sent (Order n) → order_place m ≡ Some (Vote view number) → order_place n ≡ Some (Vote view number)
      → body_text (Order m) ≡ body_text (Order n)
  one_vote m n view number x y is also =
      let h = message_header m in
      let g = message_header n in
      let a = vote_at m view number is in
      let b = vote_at n view number also in
      let p = vote_is m a.small x in
      let q = vote_is n b.small y in
      let views = a.in_view ∙ sym b.in_view in
      let numbers = a.of_number ∙ sym b.of_number in
      let other : told.HasSaid (t k) g.tag k h.view h.number g.digest = subst (λ (u : ℕ). told.HasSaid (t k) g.tag k u h.number g.digest) (sym views) (subst (λ (i : ℕ). told.HasSaid (t k) g.tag k g.view i g.digest) (sym numbers) q.said) in
      let digests = one_digest f faulty t facts.sound k h.tag g.tag h.view h.number h.digest g.digest correct p.said other in
      header_tells m n a.small b.small (header_is h g (one_kind h g p q views a.kind b.kind) (p.sender ∙ sym q.sender) views numbers digests)

  of_each : (one other : Message) (place : Place) → HasSaid (w k).sent one → HasSaid (w k).sent other → place_of one ≡ Some place → place_of other ≡ Some place → body_text one ≡ body_text other
  of_each one other (Vote view number) x y is also =
      let a = is_order one view number is in
      let b = is_order other view number also in
      ap body_text a.1
      ∙ one_vote a.0 b.0 view number (subst (HasSaid (w k).sent) a.1 x) (subst (HasSaid (w k).sent) b.1 y) (sym (ap place_of a.1) ∙ is) (sym (ap place_of b.1) ∙ also)
      ∙ sym (ap body_text b.1)
  of_each one other (Checkpoint number) x y is also = one_alone (w k).sent (facts.once k).one one other (Checkpoint number) tt x y is also
  of_each one other (ViewChange view) x y is also = one_alone (w k).sent (facts.once k).one one other (ViewChange view) tt x y is also
  of_each one other (NewView view) x y is also = one_alone (w k).sent (facts.once k).one one other (NewView view) tt x y is also

  -- What is read of texts -------------------------------------------------------------------------------------------------------

  spent_by : (m : Message) (place : Place) → HasSaid (w k).sent m → place_of m ≡ Some place → IsLone place → IsSpent (w k).node.order place
  spent_by m place said is lone =
      let alone = said_alone (w k).sent m place said is lone in
      (facts.once k).spent alone.by place alone.sent_so alone.of_place lone

  at : (v k).state ≡ (w k).node.order
  at = (facts.right k).tracks.state

  view_fits : (w k).node.order.view ≤ most_number
  view_fits = subst (λ (s : State). s.view ≤ most_number) at (facts.knows k).view

  asked_fits : (w k).node.order.asked ≤ most_number
  asked_fits = leb-true (w k).node.order.asked most_number (subst IsBounded at (facts.right k).bounded)

  order_reads : (m : OrderMessage) → HasSaid (w k).sent (Order m) → place_in (body_text (Order m)) ≡ order_place m
  order_reads (ordering.PrePrepare proposal) said =
      let fits = (vote_is (ordering.PrePrepare proposal) (omega arith) said).numbered (omega arith) in
      pre_prepare_place proposal.vote fits.0 fits.1
  order_reads (ordering.Prepare vote) said =
      let fits = (vote_is (ordering.Prepare vote) (omega arith) said).numbered (omega arith) in
      prepare_place vote fits.0 fits.1
  order_reads (ordering.Commit vote) said = commit_place vote
  order_reads (ordering.Checkpoint checkpoint) said = checkpoint_place checkpoint (spent_by (Order (ordering.Checkpoint checkpoint)) (Checkpoint checkpoint.number) said refl tt).0

  reads : (m : Message) → HasSaid (w k).sent m → place_in (body_text m) ≡ place_of m
  reads (Order m) said = order_reads m said
  reads (message.ViewChange change) said =
      let le = spent_by (message.ViewChange change) (ViewChange change.view) said refl tt in
      view_change_place change (omega (arith, le, view_fits, asked_fits))
  reads (message.NewView new) said =
      let le = spent_by (message.NewView new) (NewView new.view) said refl tt in
      new_view_place new (omega (arith, le, view_fits))
  reads (Request request) said = request_place request
  reads (Reply reply) said = reply_place reply

  has_one : HasOneTextOfEachPlace (w k).sent
  has_one one other place x y is also = of_each one other place x y (sym (reads one x) ∙ is) (sym (reads other y) ∙ also)

pub one_text_of_each_place : Below → OneTextOfEachPlace
one_text_of_each_place laws f keys start faulty steps shared comes k correct =
    let known = always laws f faulty keys start steps shared comes in
    has_one f faulty (after_node_turns (new_node_replicas f keys start) steps) known.orders known.world known.facts k correct

-- Indexes -------------------------------------------------------------------------------------------------------------------------

pub one_text_of_each_index : OneTextOfEachPlace → IndexIsOfOnePlace → OneTextOfEachIndex
one_text_of_each_index texts places key f keys start faulty steps shared comes k correct one other index x y is also =
    option_and_then_some (index_of key) (place_in (body_text one)) index is (λ a at from.
    option_and_then_some (index_of key) (place_in (body_text other)) index also (λ b there by.
    let same = places key a b index from by in
    texts f keys start faulty steps shared comes k correct one other a x y at (there ∙ ap (λ (p : Place). Some p) (sym same))))
