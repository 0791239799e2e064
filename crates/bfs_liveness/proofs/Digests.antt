-- CHECKPOINTs of correct nodes for one number tell one digest.
use Rattle.std.proofs.Common.{◌≡◌, ℕ, ◌<◌, Bool, false, List, inl, inr, refl, sym, ap, subst, ◌∙◌, arith}
use Rattle.bfs_auth.specs.declared.principals.Principal.TheVariants as principal
use Rattle.bfs_log.specs.Certificates.{faults}
use Rattle.bfs_log.specs.Headers.{header, message_header}
use Rattle.bfs_messages.specs.Messages as model
use Rattle.bfs_messages.specs.Signing.{as_message}
use Rattle.bfs_messages.specs.declared.message.Message.{Message}
use Rattle.bfs_messages.specs.declared.message.Message.TheVariants.{NewView, Order}
use Rattle.bfs_messages.specs.declared.order_messages.OrderMessage.{OrderMessage}
use Rattle.bfs_messages.specs.declared.order_messages.OrderMessage.TheVariants.{Checkpoint, Commit, PrePrepare, Prepare}
use Rattle.bfs_messages.specs.declared.signed.Signed.{Signed}
use Rattle.bfs_order.specs.Replica.States.{known}
use Rattle.bfs_votes.specs.Votes.{Header, Told}
use Rattle.bfs_agreement.specs.Histories.{IsIn}
use Rattle.bfs_agreement.specs.Moves.{new_world}
use Rattle.bfs_agreement.proofs.Public.{Is}
use Rattle.bfs_node.specs.Nodes.{Messages}
use Rattle.bfs_nodes_agree.specs.Nodes.Laws.{BatchesDontCollide, NodesAgree}
use Rattle.bfs_nodes_agree.specs.Nodes.Premises.{HasSaid, SaysTheSame, StatesDontCollide, offers_in}
use Rattle.bfs_nodes_agree.specs.Nodes.Replicas.{Beginning, Keyring, NodeTurn, new_node_replicas}
use Rattle.bfs_nodes_agree.specs.Orders.Replicas.{new_order_replicas}
use Rattle.bfs_nodes_agree.proofs.Public.{out_of_map, told_in}
use Rattle.bfs_nodes_progress.specs.Inside.Below.{Below}
use Rattle.bfs_nodes_progress.specs.Runs.{IsARun, order_of, reached}
use Rattle.bfs_nodes_progress.proofs.Public.{HasStates, TellsAState, all_states, always, start_facts, start_states}

offers_none : (m : Message) (p : Signed OrderMessage) (c : model.Checkpoint) → IsIn p (offers_in m) → SaysTheSame (Order p.message) (Order (Checkpoint c)) → ⊥
offers_none (NewView new) p c i e =
    let from = out_of_map (as_message PrePrepare) new.proposals p i in
    let other = subst (λ (x : Signed OrderMessage). SaysTheSame (Order x.message) (Order (Checkpoint c))) from.2 e in
    absurd cc
offers_none other p c i e = i

whole_checkpoint : (m : Message) (c : model.Checkpoint) → SaysTheSame m (Order (Checkpoint c)) → m ≡ Order (Checkpoint c)
whole_checkpoint (Order (Checkpoint checkpoint)) c e = e
whole_checkpoint (Order other) c e = absurd cc
whole_checkpoint other c e = absurd cc

checkpoint_sent : (sent : Messages) (c : model.Checkpoint) → HasSaid sent (Order (Checkpoint c)) → (s : Signed Message) × IsIn s sent × (s.message ≡ Order (Checkpoint c))
checkpoint_sent sent c said = elim said.2 [
  | inl e ↦ (said.0, said.1, whole_checkpoint said.0.message c e)
  | inr offer ↦ absurd (offers_none said.0.message offer.0 c offer.1 offer.2)
]

is_checkpoint : (m : OrderMessage) → (message_header m).tag ≡ 5 → (c : model.Checkpoint) × (m ≡ Checkpoint c)
is_checkpoint (Checkpoint c) five = (c, refl)
is_checkpoint (PrePrepare proposal) five = absurd (omega (arith, five))
is_checkpoint (Prepare vote) five = absurd (omega (arith, five))
is_checkpoint (Commit vote) five = absurd (omega (arith, five))

module _ (laws : Below) (f : ℕ) (keys : Keyring) (start : Beginning) (faulty : ℕ → Bool) (turns : List NodeTurn) (run : IsARun f keys start faulty turns) where
  states : (k : ℕ) → HasStates (reached f keys start turns k)
  states = all_states laws f faulty run.others run.few (new_node_replicas f keys start) (new_order_replicas f) new_world (start_facts laws f faulty run.others run.few keys start run.shared) (start_states f keys start) turns run.authentic

  -- what a CHECKPOINT in a log tells its sender was in
  record IsOfAState (i n : ℕ) (d : List ℕ) : Type 0 where
    checkpoint : model.Checkpoint
    number : checkpoint.number ≡ n
    digest : checkpoint.digest ≡ d
    tells : TellsAState (reached f keys start turns i) checkpoint

  told_state : (j i n : ℕ) (d : List ℕ) → faulty i ≡ false → Told (known (order_of (reached f keys start turns) j)) 5 i 0 n d → IsOfAState i n d
  told_state j i n d correct told =
      let w = reached f keys start turns in
      let log = (order_of w j).log in
      let led = always laws f faulty run.others run.few keys start turns run.shared run.authentic in
      let right = led.facts.right j in
      let many : 0 < faults (w j).node.keys = subst (λ (x : ℕ). 0 < x) (sym (right.fit ∙ right.same_f)) run.others in
      let got = told_in (known (order_of w j)) 5 i 0 n d told in
      let m = out_of_map header log got.0 got.1 in
      let is = subst (λ (h : Header). Is h 5 i 0 n d) m.2 got.2 in
      let said = (right.log m.0 m.1).said (λ _. many) i (ap principal.Replica is.sender) correct in
      let c = is_checkpoint m.0.message is.tag in
      let sent = checkpoint_sent (w i).sent c.0 (subst (λ (x : OrderMessage). HasSaid (w i).sent (Order x)) c.1 said) in
      record {
        checkpoint = c.0;
        number = sym (ap (λ (x : OrderMessage). (message_header x).number) c.1) ∙ is.number;
        digest = sym (ap (λ (x : OrderMessage). (message_header x).digest) c.1) ∙ is.digest;
        tells = (states i).told sent.0 c.0 sent.1 sent.2;
      }

  pub same_digests : NodesAgree → BatchesDontCollide faulty (reached f keys start turns) → StatesDontCollide faulty (reached f keys start turns) → (j i k n : ℕ) (d e : List ℕ) → faulty i ≡ false → faulty k ≡ false
      → Told (known (order_of (reached f keys start turns) j)) 5 i 0 n d → Told (known (order_of (reached f keys start turns) j)) 5 k 0 n e → d ≡ e
  same_digests agree batches apart j i k n d e correct_i correct_k told_i told_k =
      let one = told_state j i n d correct_i told_i in
      let other = told_state j k n e correct_k told_k in
      let same = (agree f keys start faulty turns run.shared run.few run.authentic batches apart).states i k one.tells.standing other.tells.standing correct_i correct_k one.tells.reached other.tells.reached
      (one.tells.number ∙ one.number ∙ sym (other.tells.number ∙ other.number)) in
      sym one.digest ∙ one.tells.digest ∙ same.1 ∙ sym other.tells.digest ∙ other.digest
