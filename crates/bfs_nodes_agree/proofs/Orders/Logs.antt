-- What holds of each message of a log, as the calls of its order go on.
use Rattle.std.proofs.Common.{◌≡◌, ℕ, ◌<◌, ◌==◌, true, cond, List, [], ◌∷◌, ◌++◌, Option, Some, None, inl, inr, refl, subst, arith}
use Rattle.std.specs.Prelude.{nat_lt}
use Rattle.std.proofs.lemmas.Bool.{cond_both}
use Rattle.sha2.specs.Sha256.{sha256}
use Rattle.bfs_auth.specs.Keys.{Keys}
use Rattle.bfs_votes.specs.Votes.{Header, is_taken, primary, prepared}
use Rattle.bfs_log.specs.Headers.{header}
use Rattle.bfs_log.specs.Logs.{Log, headers, stays, kept_after}
use Rattle.bfs_messages.specs.Messages as model
use Rattle.bfs_messages.specs.Batches.{batch_text}
use Rattle.bfs_messages.specs.Signing.{carried_are_signed, order_signed_by}
use Rattle.bfs_messages.specs.declared.signed.Signed.{Signed}
use Rattle.bfs_messages.specs.declared.order_messages.OrderMessage.{OrderMessage}
use Rattle.bfs_messages.specs.declared.order_messages.OrderMessage.TheVariants.{PrePrepare, Prepare, Commit}
use Rattle.bfs_order.specs.Laws.Calls.{Call, Takes, Proposes, Executes, Checkpoints, Installs, Leaves, Enters, outcome, execution}
use Rattle.bfs_order.specs.Replica.Accepting.{accepted, answers, makes_stable, settled}
use Rattle.bfs_order.specs.Replica.Answers.{own_vote, said_once, prepares_in, commits_in, votes_in, answers_in}
use Rattle.bfs_order.specs.Replica.Checkpoints.{checkpoint, checkpoint_refusal, checkpointed}
use Rattle.bfs_order.specs.Replica.Executing.{next_order}
use Rattle.bfs_log.specs.Certificates.{StableCheckpoint, checkpoints_in, is_shown}
use Rattle.bfs_order.specs.Replica.Installing.{certified, install_refusal, installed, raised, with_each, with_new}
use Rattle.bfs_order.specs.Replica.Proposing.{batch_digest, next_number, proposal, proposal_commits, proposal_refusal, proposed}
use Rattle.bfs_order.specs.Replica.Refusals.{is_there, place_refusal, refusal}
use Rattle.bfs_order.specs.Replica.States.{State, known, with_message, with_more}
use Rattle.bfs_order.specs.Replica.Views.{all_taken_over, as_proposals, entered, entering_refusal, left, leaving_refusal, number_of, opened}
use Rattle.bfs_order.specs.declared.error.OrderError.TheVariants.{NoCertificate}
use Rattle.bfs_order.proofs.Public.{raised_either, raised_same}
use Rattle.bfs_nodes_agree.specs.Orders.Replicas.{votes_by}
use Rattle.bfs_nodes_agree.proofs.Orders.Results.{either_way, passed}
use Rattle.bfs_nodes_agree.proofs.Orders.Lists.{AllIn, both_in, filter_in, left_in, more_in, none_in, one_in, right_in}

-- What a replica says of its own --------------------------------------------------------------------------------------------

-- a PRE-PREPARE tells the digest of its batch
abbrev pub IsWhole : OrderMessage → Type 0
IsWhole (PrePrepare proposal) = proposal.vote.digest ≡ sha256 (batch_text proposal.batch)
IsWhole other = Unit {0}

-- a PRE-PREPARE, a PREPARE or a COMMIT
pub record IsOwn (me : ℕ) (m : Signed OrderMessage) : Type 0 where
  pub kind : (header m).tag < 5
  pub sender : (header m).sender ≡ me
  pub whole : IsWhole m.message

-- so is each PREPARE and each COMMIT of a replica
abbrev IsVote : (Signed OrderMessage → Type 0) → (me : ℕ) → Type 0
IsVote P me = (keys : Keys) (s : State) (v n : ℕ) (d : List ℕ) → s.me ≡ me → P (order_signed_by keys (Prepare (own_vote s v n d))) × P (order_signed_by keys (Commit (own_vote s v n d)))

module _ (P : Signed OrderMessage → Type 0) (me : ℕ) (vote : IsVote P me) (keys : Keys) where
  once : (s : State) (m : OrderMessage) → P (order_signed_by keys m) → AllIn P (said_once keys s m)
  once s m is = cond_both (is_there s (header (order_signed_by keys m))) [] (order_signed_by keys m ∷ []) (AllIn P) (λ _. none_in P) (λ _. one_in P (order_signed_by keys m) is)

  prepares : (s : State) (v n : ℕ) (d : List ℕ) → s.me ≡ me → AllIn P (prepares_in keys s v n d)
  prepares s v n d is = cond_both (s.me == primary s.f v) [] (said_once keys s (Prepare (own_vote s v n d))) (AllIn P) (λ _. none_in P)
      (λ _. once s (Prepare (own_vote s v n d)) (vote keys s v n d is).0)

  commits : (s : State) (v n : ℕ) (d : List ℕ) → s.me ≡ me → AllIn P (commits_in keys s v n d)
  commits s v n d is = cond_both (prepared s.f s.me (known s) v n d) (said_once keys s (Commit (own_vote s v n d))) [] (AllIn P)
      (λ _. once s (Commit (own_vote s v n d)) (vote keys s v n d is).1) (λ _. none_in P)

  answered : (s : State) (h : Header) → s.me ≡ me → AllIn P (answers_in keys s h)
  answered s h is =
      let ps = prepares_in keys s h.view h.number h.digest in
      cond_both (h.tag == 2) (votes_in keys s h.view h.number h.digest) (cond (h.tag == 3) (commits_in keys s h.view h.number h.digest) []) (AllIn P)
      (λ _. both_in P ps _ (prepares s h.view h.number h.digest is) (commits (with_more s ps) h.view h.number h.digest is))
      (λ _. cond_both (h.tag == 3) (commits_in keys s h.view h.number h.digest) [] (AllIn P) (λ _. commits s h.view h.number h.digest is) (λ _. none_in P))

  over : (s : State) (ms : Log) → s.me ≡ me → AllIn P (all_taken_over keys s ms).sent
  over s [] is = none_in P
  over s (m ∷ ms) is = either_way (λ o. AllIn P (o.sent ++ (all_taken_over keys o.now ms).sent)) (place_refusal s (header m)) s (accepted keys s m)
      (λ _. both_in P (accepted keys s m).sent _ (answered (with_message s m) (header m) is) (over (accepted keys s m).now ms is)) (over s ms is)

  offered : (s : State) (batch : model.Batch) → s.me ≡ me → P (proposal keys s batch) → AllIn P (proposed keys s batch).sent
  offered s batch is own = more_in P (proposal keys s batch) (proposal_commits keys s batch) own
      (cond_both (s.f == 0) (commits_in keys (with_message s (proposal keys s batch)) s.view (next_number s) (batch_digest batch)) [] (AllIn P)
      (λ _. commits (with_message s (proposal keys s batch)) s.view (next_number s) (batch_digest batch) is) (λ _. none_in P))

-- of the PRE-PREPARE of a batch that is proposed
abbrev pub Offers : (Signed OrderMessage → Type 0) → State → Call → Type 0
Offers P s (Proposes keys batch) = P (proposal keys s batch)
Offers P s call = Unit {0}

votes_all : (P : Signed OrderMessage → Type 0) (s : State) (call : Call) → IsVote P s.me → Offers P s call → AllIn P (votes_by s call)
votes_all P s (Takes keys m) vote offers = either_way (λ o. AllIn P o.sent) (refusal keys s m) s (accepted keys s m) (λ _. answered P s.me vote keys (with_message s m) (header m) refl) (none_in P)
votes_all P s (Proposes keys batch) vote offers = either_way (λ o. AllIn P o.sent) (proposal_refusal s) s (proposed keys s batch) (λ _. offered P s.me vote keys s batch refl offers) (none_in P)
votes_all P s (Enters keys view stable handed) vote offers = either_way (λ o. AllIn P o.sent) (entering_refusal s view) s (entered keys s view stable handed)
    (λ _. over P s.me vote keys (opened (raised keys s stable) view (number_of stable) handed) (as_proposals handed) (raised_same (λ (u : State). u.me) keys s stable (λ low log. refl))) (none_in P)
votes_all P s call vote offers = none_in P

offers_own : (s : State) (call : Call) → Offers (IsOwn s.me) s call
offers_own s (Proposes keys batch) = record { kind = omega arith; sender = refl; whole = refl }
offers_own s call = tt

pub votes_own : (s : State) (call : Call) → AllIn (IsOwn s.me) (votes_by s call)
votes_own s call = votes_all (IsOwn s.me) s call
    (λ keys t v n d is. (record { kind = omega arith; sender = is; whole = tt }, record { kind = omega arith; sender = is; whole = tt })) (offers_own s call)

-- the requests that it carries pass by these keys
abbrev pub IsChecked : Keys → Signed OrderMessage → Type 0
IsChecked keys m = carried_are_signed keys m.message ≡ true

pub votes_checked : (keys : Keys) (s : State) (call : Call) → Offers (IsChecked keys) s call → AllIn (IsChecked keys) (votes_by s call)
votes_checked keys s call = votes_all (IsChecked keys) s call (λ by t v n d is. (refl, refl))

-- The log -------------------------------------------------------------------------------------------------------------------

module _ (P : Signed OrderMessage → Type 0) where
  -- of the CHECKPOINTs by which the low mark rises
  abbrev pub Shows : State → Keys → Option StableCheckpoint → Type 0
  Shows s keys None = Unit {0}
  Shows s keys (Some certificate) = is_shown keys s.f certificate ≡ true → AllIn P (checkpoints_in certificate)

  -- of what a call brings to the log beside what is said
  abbrev pub Brings : State → Call → Type 0
  Brings s (Takes keys m) = refusal keys s m ≡ None → P m
  Brings s (Checkpoints keys n d) = P (checkpoint keys s n d)
  Brings s (Installs keys certificate) = is_shown keys s.f certificate ≡ true → AllIn P (checkpoints_in certificate)
  Brings s (Enters keys view stable handed) = AllIn P (as_proposals handed) × Shows s keys stable
  Brings s call = Unit {0}

  settled_in : (s : State) (h : Header) → AllIn P s.log → AllIn P (settled s h).log
  settled_in s h all = cond_both (makes_stable s h) (kept_after h.number h.digest s.log) s.log (AllIn P) (λ _. filter_in P (λ m. stays h.number h.digest (header m)) s.log all) (λ _. all)

  accepted_in : (keys : Keys) (s : State) (m : Signed OrderMessage) → AllIn P s.log → P m → AllIn P (accepted keys s m).sent → AllIn P (accepted keys s m).now.log
  accepted_in keys s m all here said =
      settled_in (with_more (with_message s m) (answers keys s m)) (header m)
      (both_in P (s.log ++ m ∷ []) (answers keys s m) (both_in P s.log (m ∷ []) all (one_in P m here)) said)

  over_in : (keys : Keys) (s : State) (ms : Log) → AllIn P s.log → AllIn P ms → AllIn P (all_taken_over keys s ms).sent → AllIn P (all_taken_over keys s ms).now.log
  over_in keys s [] all come = λ said. all
  over_in keys s (m ∷ ms) all come = either_way (λ o. AllIn P (o.sent ++ (all_taken_over keys o.now ms).sent) → AllIn P (all_taken_over keys o.now ms).now.log) (place_refusal s (header m)) s (accepted keys s m)
      (λ _ said.
      let first = (accepted keys s m).sent in
      let later = (all_taken_over keys (accepted keys s m).now ms).sent in
      over_in keys (accepted keys s m).now ms (accepted_in keys s m all (come m (inl refl)) (λ x i. said x (left_in first later x i))) (λ x i. come x (inr i)) (λ x i. said x (right_in first later x i)))
      (over_in keys s ms all (λ x i. come x (inr i)))

  each_in : (log ms : Log) → AllIn P log → AllIn P ms → AllIn P (with_each log ms)
  each_in log [] all come = all
  each_in log (m ∷ ms) all come = each_in (with_new log m) ms
      (cond_both (is_taken (headers log) (header m)) log (log ++ m ∷ []) (AllIn P) (λ _. all) (λ _. both_in P log (m ∷ []) all (one_in P m (come m (inl refl))))) (λ x i. come x (inr i))

  installed_in : (s : State) (c : StableCheckpoint) → AllIn P s.log → AllIn P (checkpoints_in c) → AllIn P (installed s c).now.log
  installed_in s c all come = cond_both (nat_lt s.low c.number) (certified s.log c) s.log (AllIn P)
      (λ _. each_in (kept_after c.number c.digest s.log) (checkpoints_in c) (filter_in P (λ m. stays c.number c.digest (header m)) s.log all) come) (λ _. all)

  raised_in : (keys : Keys) (s : State) (stable : Option StableCheckpoint) → AllIn P s.log → Shows s keys stable → AllIn P (raised keys s stable).log
  raised_in keys s stable all come = raised_either (λ (u : State). AllIn P u.log) keys s stable
      (λ c is _ shown. each_in (kept_after c.number c.digest s.log) (checkpoints_in c) (filter_in P (λ m. stays c.number c.digest (header m)) s.log all) (subst (Shows s keys) is come shown)) all

  pub log_keeps : (s : State) (call : Call) → AllIn P s.log → Brings s call → AllIn P (votes_by s call) → AllIn P (outcome s call).now.log
  log_keeps s (Takes keys m) all brings votes =
      either_way (λ o. AllIn P o.sent → AllIn P o.now.log) (refusal keys s m) s (accepted keys s m) (λ e said. accepted_in keys s m all (brings e) said) (λ said. all) votes
  log_keeps s (Proposes keys batch) all brings votes = either_way (λ o. AllIn P o.sent → AllIn P o.now.log) (proposal_refusal s) s (proposed keys s batch)
      (λ _ said. both_in P (s.log ++ proposal keys s batch ∷ []) (proposal_commits keys s batch)
      (both_in P s.log (proposal keys s batch ∷ []) all (one_in P (proposal keys s batch) (said (proposal keys s batch) (inl refl)))) (λ x i. said x (inr i)))
      (λ said. all) votes
  log_keeps s Executes all brings votes = elim (next_order s) as (λ o. AllIn P (execution s o).now.log) [ None ↦ all | Some m ↦ all ]
  log_keeps s (Checkpoints keys n d) all brings votes =
      let m = checkpoint keys s n d in
      either_way (λ o. AllIn P o.now.log) (checkpoint_refusal s n) s (checkpointed keys s n d) (λ _. settled_in (with_message s m) (header m) (both_in P s.log (m ∷ []) all (one_in P m brings))) all
  log_keeps s (Installs keys c) all brings votes =
      either_way (λ o. AllIn P o.now.log) (install_refusal keys s c) s (installed s c) (λ e. installed_in s c all (brings (passed (is_shown keys s.f c) NoCertificate _ e).0)) all
  log_keeps s (Leaves view) all brings votes = either_way (λ o. AllIn P o.now.log) (leaving_refusal s view) s (left s view) (λ _. all) all
  log_keeps s (Enters keys view stable handed) all brings votes = either_way (λ o. AllIn P o.sent → AllIn P o.now.log) (entering_refusal s view) s (entered keys s view stable handed)
      (λ _. over_in keys (opened (raised keys s stable) view (number_of stable) handed) (as_proposals handed) (raised_in keys s stable all brings.1) brings.0) (λ said. all) votes
