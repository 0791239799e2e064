-- What a node keeps of views: VIEW-CHANGEs and NEW-VIEWs that pass by its keys, or are its own and pass where what it has signed does.
use Rattle.std.proofs.Common.{◌≡◌, ℕ, ◌<◌, ◌==◌, ◌&&◌, true, false, cond, List, [], ◌∷◌, map, ◌⊎◌, inl, inr, Option, Some, None, refl, subst}
use Rattle.std.specs.Prelude.{nat_lt}
use Rattle.std.specs.List.{list_all}
use Rattle.std.proofs.lemmas.Bool.{and_from, and_parts}
use Rattle.bfs_auth.specs.Authenticators.{signature}
use Rattle.bfs_auth.specs.Keys.{Keys}
use Rattle.bfs_log.specs.Certificates.{as_checkpoints, faults, is_all_signed, messages_in}
use Rattle.bfs_messages.specs.Messages as model
use Rattle.bfs_messages.specs.Messages.{PreparedBatch}
use Rattle.bfs_messages.specs.Signing.{as_message, carried_are_signed, is_signed, order_is_signed}
use Rattle.bfs_messages.specs.Spelling.{body_text, order_body_text}
use Rattle.bfs_messages.specs.declared.message.Message.TheVariants.{NewView, ViewChange}
use Rattle.bfs_messages.specs.declared.order_messages.OrderMessage.{OrderMessage}
use Rattle.bfs_messages.specs.declared.order_messages.OrderMessage.TheVariants.{PrePrepare}
use Rattle.bfs_messages.specs.declared.signed.Signed.{Signed}
use Rattle.bfs_order.specs.Laws.Logs.{HasCertificate, HasDistinctSlots, HasNoLaterView}
use Rattle.bfs_order.specs.Replica.States.{State}
use Rattle.bfs_order.specs.Replica.Views.{left}
use Rattle.bfs_agreement.specs.Histories.{IsIn}
use Rattle.bfs_view_change.specs.Changes.Choice.{Chosen, choice}
use Rattle.bfs_view_change.specs.Changes.Keeping.{Kept, changes_for, was_asked, with_asked, with_change}
use Rattle.bfs_view_change.specs.Changes.Making.{change_of, chosen_proposal, signed_change, signed_new_view, signed_proposal}
use Rattle.bfs_view_change.specs.Changes.NewViews.{do_propose, proposes}
use Rattle.bfs_view_change.specs.Changes.ViewChanges.{messages_of, valid_view_change}
use Rattle.bfs_node.specs.Changing.{begun, begun_if_due, change_refusal, entered_by, leads, left_for, may_begin, own_change, own_new_view, view_refusal, with_view_change}
use Rattle.bfs_node.specs.Nodes.{Node}
use Rattle.bfs_nodes_agree.specs.Nodes.Steps.{still}
use Rattle.bfs_nodes_agree.proofs.Public.{AllIn, AreKept, enough_senders, good_for, is_taken, kept_above, kept_with, made_holds, map_in, not_hit, passed, some_is, stable_holds}
use Rattle.bfs_nodes_progress.specs.Begun.{new_view_passes}
use Rattle.bfs_passing.proofs.Held.{IsHeld}
use Rattle.bfs_passing.proofs.Valid.{made_passes}

module _ (f me : ℕ) (keys : Keys) where
  -- a message with what it carries
  pub record IsWhollyHeld (m : Signed OrderMessage) : Type 0 where
    pub held : IsHeld f me keys m
    pub carried : carried_are_signed keys m.message ≡ true

  -- its own VIEW-CHANGE
  pub record IsMade (s : Signed model.ViewChange) : Type 0 where
    pub sender : s.message.sender ≡ me
    pub signed : s.auth ≡ signature keys (body_text (ViewChange s.message))
    pub told : AllIn IsWhollyHeld (as_checkpoints s.message.checkpoints)
    pub shows : (c : PreparedBatch) → IsIn c s.message.certificates → AllIn IsWhollyHeld (messages_in c)
    pub right : AllIn (λ m. order_is_signed keys m ≡ true) (as_checkpoints s.message.checkpoints) → ((c : PreparedBatch) → IsIn c s.message.certificates → list_all (is_all_signed keys) (messages_in c) ≡ true)
        → is_signed keys (as_message ViewChange s) ≡ true → valid_view_change keys s ≡ true

  abbrev pub IsRight : Signed model.ViewChange → Type 0
  IsRight s = (valid_view_change keys s ≡ true) ⊎ IsMade s

  -- a PRE-PREPARE of its own
  pub record IsOffered (p : Signed model.PrePrepare) : Type 0 where
    pub sender : p.message.vote.sender ≡ me
    pub signed : p.auth ≡ signature keys (order_body_text (PrePrepare p.message))

  -- its own NEW-VIEW
  pub record IsBegun (s : Signed model.NewView) : Type 0 where
    pub sender : s.message.sender ≡ me
    pub signed : s.auth ≡ signature keys (body_text (NewView s.message))
    pub changes : AllIn IsRight s.message.changes
    pub proposals : AllIn IsOffered s.message.proposals

  pub record Keeps (changes : Kept) (new_view : Option (Signed model.NewView)) : Type 0 where
    pub own : (s : Signed model.ViewChange) → changes.own ≡ Some s → IsMade s
    pub kept : AreKept IsRight f changes
    pub entered : (s : Signed model.NewView) → new_view ≡ Some s → (new_view_passes keys s ≡ true) ⊎ IsBegun s

abbrev pub KeepsOf : Node → Node → Type 0
KeepsOf node now = Keeps node.order.f node.order.me node.keys now.changes now.new_view

-- It leaves -----------------------------------------------------------------------------------------------------------

pub made : (keys : Keys) (s : State) (view : ℕ) → faults keys ≡ s.f → s.view < view → HasDistinctSlots s → HasCertificate s → HasNoLaterView s → AllIn (IsWhollyHeld s.f s.me keys) s.log
    → IsMade s.f s.me keys (signed_change keys (change_of s view))
made keys s view fit before differ certificate views held = record {
  sender = refl;
  signed = refl;
  told = stable_holds s (IsWhollyHeld s.f s.me keys) held;
  shows = λ c i. made_holds s c i (IsWhollyHeld s.f s.me keys) held;
  right = λ told shows signed. made_passes keys s fit differ view before views certificate told shows signed;
}

-- A view begins -------------------------------------------------------------------------------------------------------

offered : (f me : ℕ) (keys : Keys) (view : ℕ) (cs : List Chosen) → AllIn (IsOffered f me keys) (map (λ c. signed_proposal keys (chosen_proposal me view c)) cs)
offered f me keys view cs = map_in (IsOffered f me keys) (λ c. signed_proposal keys (chosen_proposal me view c)) cs (λ c i. record { sender = refl; signed = refl })

begins : (node : Node) → KeepsOf node node → KeepsOf node (begun_if_due node).now
begins node is =
    let asked = node.order.asked in
    let f = node.order.f in
    let me = node.order.me in
    let keys = node.keys in
    let changes = changes_for asked node.changes in
    let own = signed_new_view keys (own_new_view node) in
    let good = good_for (IsRight f me keys) asked 0 node.changes.changes is.kept.1 in
    elim (may_begin node) as (λ b. KeepsOf node (cond b (begun node) (still node)).now) [
      | true ↦ record {
        own = is.own;
        kept = kept_above (IsRight f me keys) f asked node.changes is.kept;
        entered = λ s e. inr (subst (IsBegun f me keys) (some_is own s e)
            (record { sender = refl; signed = refl; changes = λ c i. (good c i).1; proposals = offered f me keys asked (choice (messages_of changes)).chosen }));
      }
      | false ↦ is
    ]

pub takes : (node : Node) (s : Signed model.ViewChange) → IsRight node.order.f node.order.me node.keys s → KeepsOf node node → KeepsOf node (with_view_change node s).now
takes node s right is =
    let there = record node { changes = with_change node.changes s } in
    let noted = record node { changes = with_asked node.changes s.message } in
    elim (leads node s.message.view) as (λ b. KeepsOf node (cond b (begun_if_due there) (still noted)).now) [
      | true ↦ begins there (record { own = is.own; kept = kept_with (IsRight node.order.f node.order.me node.keys) node.order.f node.changes s right is.kept; entered = is.entered })
      | false ↦ record { own = is.own; kept = is.kept; entered = is.entered }
    ]

pub leaves : (node : Node) (view : ℕ) → IsMade node.order.f node.order.me node.keys (own_change node view) → KeepsOf node node → KeepsOf node (left_for node view).now
leaves node view own is =
    let after = takes (record node { order = (left node.order view).now }) (own_change node view) (inr own) (record { own = is.own; kept = is.kept; entered = is.entered }) in
    record { own = λ s e. subst (IsMade node.order.f node.order.me node.keys) (some_is (own_change node view) s e) own; kept = after.kept; entered = after.entered }

-- A NEW-VIEW comes ----------------------------------------------------------------------------------------------------

proposals_pass : (keys : Keys) (sender view : ℕ) (ps : List (Signed model.PrePrepare)) (cs : List Chosen) → do_propose keys sender view ps cs ≡ true
    → list_all (λ p. order_is_signed keys (as_message PrePrepare p)) ps ≡ true
proposals_pass keys sender view [] cs e = refl
proposals_pass keys sender view (p ∷ ps) [] e = absurd cc
proposals_pass keys sender view (p ∷ ps) (c ∷ cs) e =
    let a = and_parts (proposes keys sender view p c) (do_propose keys sender view ps cs) e in
    let b = and_parts ((p.message.vote.sender == sender) && _) _ a.0 in
    and_from (order_is_signed keys (as_message PrePrepare p)) _ (and_parts _ (order_is_signed keys (as_message PrePrepare p)) b.1).1 (proposals_pass keys sender view ps cs a.1)

pub taken_passes : (node : Node) (s : Signed model.NewView) → faults node.keys ≡ node.order.f → view_refusal node s ≡ None → new_view_passes node.keys s ≡ true
taken_passes node s fit none =
    let is = is_taken node s fit none in
    let valid = (enough_senders node.keys node.order.f s.message.changes fit is.right).1 in
    and_from (is_signed node.keys (as_message NewView s)) _ is.signed
    (and_from (list_all (valid_view_change node.keys) s.message.changes) _ valid (proposals_pass node.keys s.message.sender s.message.view s.message.proposals (choice (messages_of s.message.changes)).chosen is.proposed))

pub enters : (node : Node) (s : Signed model.NewView) → new_view_passes node.keys s ≡ true → KeepsOf node node → KeepsOf node (entered_by node s).now
enters node s passes is = record {
  own = is.own;
  kept = kept_above (IsRight node.order.f node.order.me node.keys) node.order.f s.message.view node.changes is.kept;
  entered = λ t e. inl (subst (λ (x : Signed model.NewView). new_view_passes node.keys x ≡ true) (some_is s t e) passes);
}

pub change_valid : (node : Node) (s : Signed model.ViewChange) → change_refusal node s ≡ None → valid_view_change node.keys s ≡ true
change_valid node s none =
    let a = passed (is_signed node.keys (as_message ViewChange s)) _ _ none in
    let b = passed (nat_lt node.order.view s.message.view) _ _ a.1 in
    let c = not_hit (was_asked node.changes s.message) _ _ b.1 in
    (passed (valid_view_change node.keys s) _ _ c.1).0
