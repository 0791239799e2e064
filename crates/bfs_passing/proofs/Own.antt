-- What a member gives passes by its own keys, where what it has signed does.
use Rattle.std.proofs.Common.{◌≡◌, ℕ, ◌&&◌, Bool, true, inl, inr, Some, refl, sym, ap, subst, ◌∙◌}
use Rattle.std.specs.Prelude.{nat_lt}
use Rattle.std.specs.List.{list_all}
use Rattle.std.proofs.lemmas.Bool.{and_from, lt-ltb}
use Rattle.bfs_auth.specs.Authenticators.{signature}
use Rattle.bfs_auth.specs.Keys.{Keys}
use Rattle.bfs_auth.specs.declared.principals.Principal.TheVariants.{Replica}
use Rattle.bfs_votes.specs.Votes.{replicas}
use Rattle.bfs_log.specs.Certificates.{as_checkpoints, faults, is_all_signed, messages_in}
use Rattle.bfs_log.specs.Headers.{header}
use Rattle.bfs_messages.specs.Messages as model
use Rattle.bfs_messages.specs.Messages.{PreparedBatch}
use Rattle.bfs_messages.specs.Signing.{as_message, carried_are_signed, is_signed, order_is_signed}
use Rattle.bfs_messages.specs.Spelling.{order_body_text}
use Rattle.bfs_messages.specs.declared.message.Message.{Message}
use Rattle.bfs_messages.specs.declared.message.Message.TheVariants.{NewView, Order, ViewChange}
use Rattle.bfs_messages.specs.declared.order_messages.OrderMessage.{OrderMessage}
use Rattle.bfs_messages.specs.declared.order_messages.OrderMessage.TheVariants.{PrePrepare}
use Rattle.bfs_messages.specs.declared.signed.Signed.{Signed}
use Rattle.bfs_order.specs.Replica.Views.{as_proposals}
use Rattle.bfs_view_change.specs.Changes.Making.{change_of}
use Rattle.bfs_view_change.specs.Changes.ViewChanges.{has_stable, valid_view_change}
use Rattle.bfs_agreement.specs.Histories.{IsIn}
use Rattle.bfs_nodes_agree.specs.Nodes.Premises.{IsOf}
use Rattle.bfs_nodes_agree.specs.Nodes.Replicas.{Keyring, NodeReplica, NodeReplicas}
use Rattle.bfs_nodes_agree.proofs.Public.{AllIn, in_map, stable_holds}
use Rattle.bfs_nodes_progress.specs.Begun.{new_view_passes}
use Rattle.bfs_nodes_progress.specs.Runs.{order_of}
use Rattle.bfs_passing.specs.Own.{OwnPasses, Shows}
use Rattle.bfs_passing.proofs.Held.{IsHeld}
use Rattle.bfs_passing.proofs.Standing.{Stands}
use Rattle.bfs_passing.proofs.Valid.{all_pass, stable_passes}
use Rattle.bfs_passing.proofs.Views.{IsBegun, IsMade, Keeps}

-- whether a message of the order passes, by its sender, its own authenticator, and what it carries
abbrev pub authentic : (f : ℕ) → Keys → Signed OrderMessage → Bool
authentic f keys m = nat_lt (header m).sender (replicas f) && (order_is_signed keys m && carried_are_signed keys m.message)

-- what a member gives, by its own keys
pub record GivesItsOwn (f : ℕ) (keys : Keys) (r : NodeReplica) (i : ℕ) : Type 0 where
  pub votes : AllIn (λ m. authentic f keys m ≡ true) r.node.order.log
  pub changes : (s : Signed model.ViewChange) → r.node.changes.own ≡ Some s → valid_view_change keys s ≡ true
  pub new_views : (s : Signed model.NewView) → r.node.new_view ≡ Some s → new_view_passes keys s ≡ true
  pub stable : has_stable keys (change_of r.node.order 0) ≡ true
  pub commits : (m : Signed OrderMessage) → IsIn m r.node.order.log → (header m).tag ≡ 4 → (header m).sender ≡ i → m.auth ≡ signature keys (order_body_text m.message)

module _ (f : ℕ) (keys : Keyring) (members : ℕ → Bool) (w : NodeReplicas) (signs : OwnPasses keys members w) (i : ℕ) (member : members i ≡ true)
    (f_is : (order_of w i).f ≡ f) (me_is : (order_of w i).me ≡ i) (keys_are : (w i).node.keys ≡ keys i) (fit : faults (keys i) ≡ f)
    (carried : AllIn (λ m. carried_are_signed (keys i) m.message ≡ true) (order_of w i).log) (stands : Stands (w i).node) where
  abbrev K : Keys
  K = keys i

  -- what was checked passes, and what was signed does
  held_passes : (m : Signed OrderMessage) → IsHeld f i K m → Shows (w i) (as_message Order m) → order_is_signed K m ≡ true
  held_passes m held shows = elim held.signed [ inl passes ↦ passes | inr own ↦ signs i (as_message Order m) member shows (ap Replica own.0) own.1 ]

  log_held : AllIn (IsHeld f i K) (order_of w i).log
  log_held = subst (λ (g : ℕ). AllIn (IsHeld g i K) (order_of w i).log) f_is
      (subst (λ (j : ℕ). AllIn (IsHeld (order_of w i).f j K) (order_of w i).log) me_is (subst (λ (k : Keys). AllIn (IsHeld (order_of w i).f (order_of w i).me k) (order_of w i).log) keys_are stands.log))

  in_log : (m : Signed OrderMessage) → IsIn m (order_of w i).log → Shows (w i) (as_message Order m)
  in_log m j = inl (in_map (as_message Order) (order_of w i).log m j)

  kept : Keeps f i K (w i).node.changes (w i).node.new_view
  kept = subst (λ (g : ℕ). Keeps g i K (w i).node.changes (w i).node.new_view) f_is
      (subst (λ (j : ℕ). Keeps (order_of w i).f j K (w i).node.changes (w i).node.new_view) me_is
      (subst (λ (k : Keys). Keeps (order_of w i).f (order_of w i).me k (w i).node.changes (w i).node.new_view) keys_are stands.views))

  made_valid : (s : Signed model.ViewChange) → IsMade f i K s → ((p : Signed Message) → IsOf p (as_message ViewChange s) → Shows (w i) p) → valid_view_change K s ≡ true
  made_valid s made shows =
      made.right (λ m j. held_passes m (made.told m j).held (shows (as_message Order m) (inr (inl (in_map (as_message Order) (as_checkpoints s.message.checkpoints) m j)))))
      (λ c j. all_pass (is_all_signed K) (messages_in c) (λ m l.
      let whole = made.shows c j m l in
      and_from (order_is_signed K m) (carried_are_signed K m.message)
      (held_passes m whole.held (shows (as_message Order m) (inr (inr (c, j, in_map (as_message Order) (messages_in c) m l))))) whole.carried))
      (signs i (as_message ViewChange s) member (shows (as_message ViewChange s) (inl refl)) (ap Replica made.sender) made.signed)

  begun_passes : (s : Signed model.NewView) → (w i).node.new_view ≡ Some s → IsBegun f i K s → new_view_passes K s ≡ true
  begun_passes s is begun =
      let shows : (p : Signed Message) → IsOf p (as_message NewView s) → Shows (w i) p = λ p of. inr (inr (s, is, of)) in
      let right : AllIn (λ c. valid_view_change K c ≡ true) s.message.changes = λ c j. elim (begun.changes c j) [
        | inl valid ↦ valid
        | inr made ↦ made_valid c made (λ p of. shows p (inr (inr (c, j, of))))
      ] in
      let offered : AllIn (λ p. order_is_signed K (as_message PrePrepare p) ≡ true) s.message.proposals = λ p j.
      let its = begun.proposals p j in
      let m = as_message PrePrepare p in
      let there = in_map (as_message Order) (as_proposals s.message.proposals) m (in_map (as_message PrePrepare) s.message.proposals p j) in
      signs i (as_message Order m) member (shows (as_message Order m) (inr (inl there))) (ap Replica its.sender) its.signed in
      and_from (is_signed K (as_message NewView s)) _ (signs i (as_message NewView s) member (shows (as_message NewView s) (inl refl)) (ap Replica begun.sender) begun.signed)
      (and_from (list_all (valid_view_change K) s.message.changes) _ (all_pass (valid_view_change K) s.message.changes right)
      (all_pass (λ p. order_is_signed K (as_message PrePrepare p)) s.message.proposals offered))

  pub gives_its_own : GivesItsOwn f K (w i) i
  gives_its_own = record {
    votes = λ m j.
        let held = log_held m j in
        and_from (nat_lt (header m).sender (replicas f)) _ (lt-ltb (header m).sender (replicas f) held.sender)
        (and_from (order_is_signed K m) (carried_are_signed K m.message) (held_passes m held (in_log m j)) (carried m j));
    changes = λ s is. made_valid s (kept.own s is) (λ p of. inr (inl (s, is, of)));
    new_views = λ s is. elim (kept.entered s is) [ inl passes ↦ passes | inr begun ↦ begun_passes s is begun ];
    stable = stable_passes K (order_of w i) (fit ∙ sym f_is) stands.slots stands.certificate 0
        (stable_holds (order_of w i) (λ m. order_is_signed K m ≡ true) (λ m j. held_passes m (log_held m j) (in_log m j)));
    commits = λ m j four mine. (log_held m j).commit four mine;
  }
