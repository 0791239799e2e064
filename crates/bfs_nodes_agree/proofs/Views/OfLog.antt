-- Certificates that are made of a log: its messages, and those of batches are proved.
use Rattle.std.proofs.Common.{◌≡◌, ℕ, ◌<◌, ◌≤◌, ◌==◌, true, ◌||◌, List, [], Some, sym, ap, subst, ◌∙◌, arith}
use Rattle.std.proofs.lemmas.Bool.{and_parts, cond_both}
use Rattle.bfs_auth.specs.declared.authenticators.Authenticator.{Authenticator}
use Rattle.bfs_votes.specs.Votes.{Header, is_backed, primary, told}
use Rattle.bfs_log.specs.Certificates.{as_checkpoints, is_proved, messages_in, view_in}
use Rattle.bfs_log.specs.Headers.{header}
use Rattle.bfs_log.specs.Logs.{Log}
use Rattle.bfs_messages.specs.Messages as model
use Rattle.bfs_messages.specs.Signing.{as_message}
use Rattle.bfs_messages.specs.declared.signed.Signed.{Signed}
use Rattle.bfs_messages.specs.declared.order_messages.OrderMessage.{OrderMessage}
use Rattle.bfs_messages.specs.declared.order_messages.OrderMessage.TheVariants.{PrePrepare, Checkpoint}
use Rattle.bfs_order.specs.Laws.Logs.{HasNoLaterView}
use Rattle.bfs_order.specs.Replica.States.{State, known}
use Rattle.bfs_agreement.specs.Histories.{IsIn}
use Rattle.bfs_nodes_agree.proofs.Orders.Lists.{AllIn, filter_in, more_in, none_in, out_of_filter_map, some_is}
use Rattle.bfs_log.specs.Showing.{backs, checkpoint_in, checkpoints, checkpoints_of, is_of}
use Rattle.bfs_view_change.specs.Changes.Making.{certificates, change_of, stable_checkpoints}
use Rattle.bfs_view_change.proofs.Public.{Made, backed_alike, in_window, messages_made}
use Rattle.bfs_nodes_agree.specs.Views.Changes.{HasProofs}
use Rattle.bfs_nodes_agree.proofs.Views.Lists.{at_in, contains, in_map, is_in, map_in}

-- Of its stable number ------------------------------------------------------------------------------------------------------

checkpoint_is : (m : OrderMessage) (auth : Authenticator) (x : Signed model.Checkpoint) → checkpoint_in m auth ≡ Some x → record { message = m; auth = auth } ≡ as_message Checkpoint x
checkpoint_is (Checkpoint c) auth x e = ap (as_message Checkpoint) (some_is (record { message = c; auth = auth }) x e)
checkpoint_is other auth x e = absurd cc

-- what holds of each message of the log holds of its CHECKPOINTs
told_holds : (P : Signed OrderMessage → Type 0) (log : Log) → AllIn P log → AllIn P (as_checkpoints (checkpoints log))
told_holds P log all = map_in P (as_message Checkpoint) (checkpoints log) (λ x i.
    let from = out_of_filter_map (λ (m : Signed OrderMessage). checkpoint_in m.message m.auth) log x i in
    subst P (checkpoint_is from.0.message from.0.auth x from.2) (all from.0 from.1))

pub stable_holds : (s : State) (P : Signed OrderMessage → Type 0) → AllIn P s.log → AllIn P (as_checkpoints (stable_checkpoints s))
stable_holds s P all = cond_both (s.low == 0) [] (checkpoints_of s.f s.low s.log) (λ (l : List (Signed model.Checkpoint)). AllIn P (as_checkpoints l)) (λ _. none_in P)
    (λ _. told_holds P _ (filter_in P (λ m. is_of s.f s.low (header m)) s.log all))

-- Of batches ----------------------------------------------------------------------------------------------------------------

module _ (s : State) (c : model.PreparedBatch) (i : IsIn c (certificates s)) where
  made : (n : ℕ) × Made s n c
  made = let at = in_window s c (contains (certificates s) c i) in (at.0, at.3)

  abbrev first : Signed OrderMessage
  first = as_message PrePrepare made.1.proposal

  in_log : IsIn first s.log
  in_log = is_in s.log first made.1.among

  -- what holds of each message of the log holds of those in it
  pub made_holds : (P : Signed OrderMessage → Type 0) → AllIn P s.log → AllIn P (messages_in c)
  made_holds P all =
      subst (λ (ms : Log). AllIn P ms) (sym (messages_made s.f s.log made.1.proposal) ∙ ap messages_in made.1.is)
      (more_in P first _ (all first in_log) (filter_in P (λ m. backs s.f made.1.proposal.message.vote (header m)) s.log all))

  made_earlier : (view : ℕ) → s.view < view → HasNoLaterView s → view_in c < view
  made_earlier view before views =
      let seen : view_in c ≡ (header first).view = ap view_in (sym made.1.is) in
      let old = at_in (λ (h : Header). h.view ≤ s.view) (known s) views (header first) (in_map header s.log first in_log) in
      omega (arith, old, before, seen)

  made_proved : is_proved s.f c ≡ true
  made_proved =
      let h = header first in
      let backed = (and_parts (is_backed s.f (known s) h.view h.number h.digest) ((s.me == primary s.f h.view) || told (known s) 3 s.me h.view h.number h.digest) made.1.prepared).0 in
      subst (λ (x : model.PreparedBatch). is_proved s.f x ≡ true) made.1.is (backed_alike s.f s.log made.1.proposal made.1.among made.1.led ∙ backed)

pub made_proves : (s : State) (view : ℕ) → s.view < view → HasNoLaterView s → HasProofs s.f view (change_of s view)
made_proves s view before views = record { earlier = λ c i. made_earlier s c i view before views; proved = λ c i. made_proved s c i }
