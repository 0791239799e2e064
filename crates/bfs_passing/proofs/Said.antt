-- What a replica says it signs by its keys.
use Rattle.std.proofs.Common.{◌≡◌, ℕ, ◌==◌, cond, List, [], ◌∷◌, ◌++◌, refl, subst}
use Rattle.std.proofs.lemmas.Bool.{cond_both}
use Rattle.bfs_auth.specs.Authenticators.{signature}
use Rattle.bfs_auth.specs.Keys.{Keys}
use Rattle.bfs_votes.specs.Votes.{Header, prepared, primary}
use Rattle.bfs_log.specs.Headers.{header}
use Rattle.bfs_log.specs.Logs.{Log}
use Rattle.bfs_messages.specs.Messages as model
use Rattle.bfs_messages.specs.Signing.{order_signed_by}
use Rattle.bfs_messages.specs.Spelling.{order_body_text}
use Rattle.bfs_messages.specs.declared.order_messages.OrderMessage.{OrderMessage}
use Rattle.bfs_messages.specs.declared.order_messages.OrderMessage.TheVariants.{Prepare, Commit}
use Rattle.bfs_messages.specs.declared.signed.Signed.{Signed}
use Rattle.bfs_order.specs.Laws.Calls.{Call, Takes, Proposes, Checkpoints, Installs, Enters}
use Rattle.bfs_order.specs.Replica.Accepting.{accepted}
use Rattle.bfs_order.specs.Replica.Answers.{answers_in, commits_in, own_vote, prepares_in, said_once, votes_in}
use Rattle.bfs_order.specs.Replica.Installing.{raised}
use Rattle.bfs_order.specs.Replica.Proposing.{batch_digest, next_number, proposal, proposal_commits, proposal_refusal, proposed}
use Rattle.bfs_order.specs.Replica.Refusals.{is_there, place_refusal, refusal}
use Rattle.bfs_order.specs.Replica.States.{State, known, with_message, with_more}
use Rattle.bfs_order.specs.Replica.Views.{all_taken_over, as_proposals, entered, entering_refusal, number_of, opened}
use Rattle.bfs_nodes_agree.specs.Orders.Replicas.{votes_by}
use Rattle.bfs_nodes_agree.proofs.Public.{AllIn, both_in, either_way, more_in, none_in, one_in}

-- by these keys
abbrev pub IsSignedBy : Keys → Signed OrderMessage → Type 0
IsSignedBy keys m = m.auth ≡ signature keys (order_body_text m.message)

module _ (keys : Keys) where
  abbrev Mine : Signed OrderMessage → Type 0
  Mine = IsSignedBy keys

  once : (s : State) (m : OrderMessage) → AllIn Mine (said_once keys s m)
  once s m = cond_both (is_there s (header (order_signed_by keys m))) [] (order_signed_by keys m ∷ []) (AllIn Mine) (λ _. none_in Mine) (λ _. one_in Mine (order_signed_by keys m) refl)

  prepares : (s : State) (v n : ℕ) (d : List ℕ) → AllIn Mine (prepares_in keys s v n d)
  prepares s v n d = cond_both (s.me == primary s.f v) [] (said_once keys s (Prepare (own_vote s v n d))) (AllIn Mine) (λ _. none_in Mine) (λ _. once s (Prepare (own_vote s v n d)))

  commits : (s : State) (v n : ℕ) (d : List ℕ) → AllIn Mine (commits_in keys s v n d)
  commits s v n d = cond_both (prepared s.f s.me (known s) v n d) (said_once keys s (Commit (own_vote s v n d))) [] (AllIn Mine) (λ _. once s (Commit (own_vote s v n d))) (λ _. none_in Mine)

  answered : (s : State) (h : Header) → AllIn Mine (answers_in keys s h)
  answered s h =
      let ps = prepares_in keys s h.view h.number h.digest in
      cond_both (h.tag == 2) (votes_in keys s h.view h.number h.digest) (cond (h.tag == 3) (commits_in keys s h.view h.number h.digest) []) (AllIn Mine)
      (λ _. both_in Mine ps _ (prepares s h.view h.number h.digest) (commits (with_more s ps) h.view h.number h.digest))
      (λ _. cond_both (h.tag == 3) (commits_in keys s h.view h.number h.digest) [] (AllIn Mine) (λ _. commits s h.view h.number h.digest) (λ _. none_in Mine))

  over : (s : State) (ms : Log) → AllIn Mine (all_taken_over keys s ms).sent
  over s [] = none_in Mine
  over s (m ∷ ms) = either_way (λ o. AllIn Mine (o.sent ++ (all_taken_over keys o.now ms).sent)) (place_refusal s (header m)) s (accepted keys s m)
      (λ _. both_in Mine (accepted keys s m).sent _ (answered (with_message s m) (header m)) (over (accepted keys s m).now ms)) (over s ms)

  offered : (s : State) (batch : model.Batch) → AllIn Mine (proposed keys s batch).sent
  offered s batch = more_in Mine (proposal keys s batch) (proposal_commits keys s batch) refl
      (cond_both (s.f == 0) (commits_in keys (with_message s (proposal keys s batch)) s.view (next_number s) (batch_digest batch)) [] (AllIn Mine)
      (λ _. commits (with_message s (proposal keys s batch)) s.view (next_number s) (batch_digest batch)) (λ _. none_in Mine))

-- a call is made with these keys
abbrev pub IsBy : Keys → Call → Type 0
IsBy keys (Takes by m) = by ≡ keys
IsBy keys (Proposes by batch) = by ≡ keys
IsBy keys (Checkpoints by number digest) = by ≡ keys
IsBy keys (Installs by certificate) = by ≡ keys
IsBy keys (Enters by view stable handed) = by ≡ keys
IsBy keys call = Unit {0}

pub votes_signed : (keys : Keys) (s : State) (call : Call) → IsBy keys call → AllIn (IsSignedBy keys) (votes_by s call)
votes_signed keys s (Takes by m) same = subst (λ (k : Keys). AllIn (IsSignedBy k) (votes_by s (Takes by m))) same
    (either_way (λ o. AllIn (IsSignedBy by) o.sent) (refusal by s m) s (accepted by s m) (λ _. answered by (with_message s m) (header m)) (none_in (IsSignedBy by)))
votes_signed keys s (Proposes by batch) same = subst (λ (k : Keys). AllIn (IsSignedBy k) (votes_by s (Proposes by batch))) same
    (either_way (λ o. AllIn (IsSignedBy by) o.sent) (proposal_refusal s) s (proposed by s batch) (λ _. offered by s batch) (none_in (IsSignedBy by)))
votes_signed keys s (Enters by view stable handed) same = subst (λ (k : Keys). AllIn (IsSignedBy k) (votes_by s (Enters by view stable handed))) same
    (either_way (λ o. AllIn (IsSignedBy by) o.sent) (entering_refusal s view) s (entered by s view stable handed)
    (λ _. over by (opened (raised by s stable) view (number_of stable) handed) (as_proposals handed)) (none_in (IsSignedBy by)))
votes_signed keys s call same = none_in (IsSignedBy keys)
