-- Certificates that are found right are proved.
use Rattle.std.proofs.Common.{◌≡◌, ℕ, ◌+◌, ◌*◌, ◌<◌, ◌≤◌, ◌==◌, Bool, true, false, cond, ◌&&◌, List, [], ◌∷◌, length, Option, Some, None, option_map, ◌⊎◌, inl, inr, refl, sym, ap, subst, ◌∙◌, arith}
use Rattle.std.specs.Prelude.{nat_lt, nat_le}
use Rattle.std.specs.List.{find, list_all}
use Rattle.std.proofs.lemmas.Bool.{and_parts, eqb-true, ltb-true, ltb-false}
use Rattle.bfs_auth.specs.Keys.{Keys}
use Rattle.bfs_messages.specs.Messages as model
use Rattle.bfs_messages.specs.Signing.{as_message, carried_are_signed, is_signed, order_is_signed, requests_are_signed}
use Rattle.bfs_messages.specs.declared.signed.Signed.{Signed}
use Rattle.bfs_messages.specs.declared.message.Message.TheVariants.{ViewChange}
use Rattle.bfs_messages.specs.declared.order_messages.OrderMessage.{OrderMessage}
use Rattle.bfs_messages.specs.declared.order_messages.OrderMessage.TheVariants.{PrePrepare}
use Rattle.bfs_agreement.specs.Histories.{IsIn}
use Rattle.bfs_nodes_agree.proofs.Orders.Lists.{AllIn, found, none_in, some_is}
use Rattle.bfs_nodes_agree.proofs.Orders.Results.{not_hit, passed}
use Rattle.bfs_log.proofs.Public.{IsVoucher, vouched}
use Rattle.bfs_log.specs.Certificates.{StableCheckpoint, as_checkpoints, certifies, faults, is_all_signed, is_proved, is_shown, messages_in, number_in, senders_differ, view_in}
use Rattle.bfs_view_change.specs.Changes.Choice.{latest_stable}
use Rattle.bfs_view_change.specs.Changes.NewViews.{choice_refusal, do_agree, latest_checkpoint, senders}
use Rattle.bfs_view_change.specs.Changes.ViewChanges.{are_in_order, first_digest, has_stable, is_due, messages_of, stable_in, valid_view_change}
use Rattle.bfs_view_change.specs.declared.error.ViewError.TheVariants.{BadCertificate, TooFew}
use Rattle.bfs_nodes_agree.specs.Views.Changes.{HasProofs}
use Rattle.bfs_nodes_agree.proofs.Views.Lists.{at_in, out_of_map, passes_at}

-- what a valid VIEW-CHANGE has: it and all in its certificates are signed, and those of batches are due and proved
pub record IsValid (keys : Keys) (s : Signed model.ViewChange) : Type 0 where
  pub signed : is_signed keys (as_message ViewChange s) ≡ true
  pub told : AllIn (λ (m : Signed OrderMessage). order_is_signed keys m ≡ true) (as_checkpoints s.message.checkpoints)
  pub due : (c : model.PreparedBatch) → IsIn c s.message.certificates → is_due s.message c ≡ true
  pub proved : (c : model.PreparedBatch) → IsIn c s.message.certificates → is_proved (faults keys) c ≡ true
  pub all_signed : (c : model.PreparedBatch) → IsIn c s.message.certificates → (m : Signed OrderMessage) → IsIn m (messages_in c) → order_is_signed keys m ≡ true
  pub carried : (c : model.PreparedBatch) → IsIn c s.message.certificates → requests_are_signed keys c.proposal.message.batch ≡ true

-- CHECKPOINTs of the stable number, if there are any
told_signed : (keys : Keys) (change : model.ViewChange) → has_stable keys change ≡ true → AllIn (λ (m : Signed OrderMessage). order_is_signed keys m ≡ true) (as_checkpoints change.checkpoints)
told_signed keys change e = (elim (change.stable == 0) as (λ b. cond b (length change.checkpoints == 0) (is_shown keys (faults keys) (stable_in change)) ≡ true → AllIn P (as_checkpoints change.checkpoints)) [
  | true ↦ λ none. nobody change.checkpoints (eqb-true (length change.checkpoints) 0 none)
  | false ↦ λ shown m i. (at_in (IsVoucher keys (faults keys) change.stable (first_digest change.checkpoints)) (as_checkpoints change.checkpoints) (vouched keys (faults keys) (stable_in change) shown).each m i).signed
]) e
  where
    P : Signed OrderMessage → Type 0
    P m = order_is_signed keys m ≡ true

    nobody : (cs : List (Signed model.Checkpoint)) → length cs ≡ 0 → AllIn P (as_checkpoints cs)
    nobody [] none = none_in P
    nobody (c ∷ cs) none = absurd (omega (arith, none))

certified : (keys : Keys) (c : model.PreparedBatch) → certifies keys c ≡ true → (is_proved (faults keys) c && list_all (is_all_signed keys) (messages_in c)) ≡ true
certified keys c e = (and_parts (senders_differ (messages_in c)) _ (and_parts _ (senders_differ (messages_in c) && _) e).1).1

pub is_valid : (keys : Keys) (s : Signed model.ViewChange) → valid_view_change keys s ≡ true → IsValid keys s
is_valid keys s valid =
    let change = s.message in
    let a = and_parts (are_in_order change) (is_signed keys (as_message ViewChange s) && (has_stable keys change && list_all (certifies keys) change.certificates)) valid in
    let b = and_parts (is_signed keys (as_message ViewChange s)) (has_stable keys change && list_all (certifies keys) change.certificates) a.1 in
    let founded = and_parts (has_stable keys change) (list_all (certifies keys) change.certificates) b.1 in
    let all = founded.1 in
    let parts = λ (c : model.PreparedBatch) (i : IsIn c change.certificates). and_parts (is_proved (faults keys) c) (list_all (is_all_signed keys) (messages_in c)) (certified keys c (passes_at (certifies keys) change.certificates c all i)) in
    let signed = λ (c : model.PreparedBatch) (i : IsIn c change.certificates) (m : Signed OrderMessage) (j : IsIn m (messages_in c)).
    and_parts (order_is_signed keys m) (carried_are_signed keys m.message) (passes_at (is_all_signed keys) (messages_in c) m (parts c i).1 j) in
    record {
      signed = b.0;
      told = told_signed keys change founded.0;
      due = λ c i. passes_at (is_due change) change.certificates c (and_parts _ (list_all (is_due change) change.certificates) a.0).1 i;
      proved = λ c i. (parts c i).0;
      all_signed = λ c i m j. (signed c i m j).0;
      carried = λ c i. (signed c i (as_message PrePrepare c.proposal) (inl refl)).1;
    }

pub valid_proves : (keys : Keys) (f view : ℕ) (s : Signed model.ViewChange) → faults keys ≡ f → s.message.view ≡ view → valid_view_change keys s ≡ true → HasProofs f view s.message
valid_proves keys f view s fit of_view valid =
    let change = s.message in
    let is = is_valid keys s valid in
    record {
      earlier = λ c i. subst (λ (x : ℕ). view_in c < x) of_view (ltb-true (view_in c) change.view (and_parts (nat_le (number_in c) _) (nat_lt (view_in c) change.view) (is.due c i)).1);
      proved = λ c i. subst (λ (x : ℕ). is_proved x c ≡ true) fit (is.proved c i);
    }

-- its stable number is shown, unless that is 0
pub valid_shows : (keys : Keys) (s : Signed model.ViewChange) → valid_view_change keys s ≡ true → (is_shown keys (faults keys) (stable_in s.message) ≡ true) ⊎ (s.message.stable ≡ 0)
valid_shows keys s valid =
    let change = s.message in
    let a = and_parts (are_in_order change) _ valid in
    let b = and_parts (is_signed keys (as_message ViewChange s)) _ a.1 in
    let founded = (and_parts (has_stable keys change) (list_all (certifies keys) change.certificates) b.1).0 in
    (elim (change.stable == 0) as (λ b. (change.stable == 0) ≡ b → cond b (length change.checkpoints == 0) (is_shown keys (faults keys) (stable_in change)) ≡ true
    → (is_shown keys (faults keys) (stable_in change) ≡ true) ⊎ (change.stable ≡ 0)) [
      | true ↦ λ none _. inr (eqb-true change.stable 0 none)
      | false ↦ λ _ shown. inl shown
    ]) refl founded

-- what can be chosen from: valid VIEW-CHANGEs of 2f + 1 replicas
pub enough_senders : (keys : Keys) (f : ℕ) (changes : List (Signed model.ViewChange)) → faults keys ≡ f → choice_refusal keys changes ≡ None
    → (2 * f + 1 ≤ senders f changes) × (list_all (valid_view_change keys) changes ≡ true)
enough_senders keys f changes fit right =
    let a = passed (do_agree changes && list_all (valid_view_change keys) changes) BadCertificate _ right in
    let valid = (and_parts (do_agree changes) (list_all (valid_view_change keys) changes) a.0).1 in
    let enough : 2 * faults keys + 1 ≤ senders (faults keys) changes = ltb-false (senders (faults keys) changes) (2 * faults keys + 1) (not_hit (nat_lt (senders (faults keys) changes) (2 * faults keys + 1)) TooFew None a.1).0 in
    (subst (λ (f : ℕ). 2 * f + 1 ≤ senders f changes) fit enough, valid)

-- the checkpoint behind which a view begins is that of one of its VIEW-CHANGEs
pub latest_among : (changes : List (Signed model.ViewChange)) (c : StableCheckpoint) → latest_checkpoint (messages_of changes) ≡ Some c → (s : Signed model.ViewChange) × IsIn s changes × (c ≡ stable_in s.message)
latest_among changes c e = go (latest_stable (messages_of changes) == 0) (find p (messages_of changes)) refl e
  where
    p : model.ViewChange → Bool
    p change = change.stable == latest_stable (messages_of changes)

    go : (b : Bool) (o : Option model.ViewChange) → find p (messages_of changes) ≡ o → cond b None (option_map stable_in o) ≡ Some c → (s : Signed model.ViewChange) × IsIn s changes × (c ≡ stable_in s.message)
    go true o is h = absurd cc
    go false None is h = absurd cc
    go false (Some change) is h =
        let from = out_of_map (λ (s : Signed model.ViewChange). s.message) changes change (found p (messages_of changes) change is).0 in
        (from.0, from.1, sym (some_is (stable_in change) c h) ∙ ap stable_in from.2)
