-- A PREPARE that an order says answers a PRE-PREPARE that comes to it.
use Rattle.std.proofs.Common.{◌≡◌, ℕ, ◌==◌, Bool, true, false, cond, List, [], ◌∷◌, ◌++◌, None, inl, inr, refl, sym, ap, subst, arith}
use Rattle.std.proofs.lemmas.Bool.{cond_both, eqb-true, eq-eqb}
use Rattle.bfs_auth.specs.Keys.{Keys}
use Rattle.bfs_votes.specs.Votes.{Header, primary, prepared}
use Rattle.bfs_log.specs.Headers.{header}
use Rattle.bfs_log.specs.Logs.{Log}
use Rattle.bfs_messages.specs.Signing.{order_signed_by}
use Rattle.bfs_messages.specs.declared.signed.Signed.{Signed}
use Rattle.bfs_messages.specs.declared.order_messages.OrderMessage.{OrderMessage}
use Rattle.bfs_messages.specs.declared.order_messages.OrderMessage.TheVariants.{Prepare, Commit}
use Rattle.bfs_order.specs.Laws.Calls.{Call, Takes, Proposes, Enters}
use Rattle.bfs_order.specs.Replica.Accepting.{accepted}
use Rattle.bfs_order.specs.Replica.Answers.{answers_in, commits_in, own_vote, prepares_in, votes_in}
use Rattle.bfs_order.specs.Replica.Proposing.{batch_digest, next_number, proposal, proposal_refusal, proposed}
use Rattle.bfs_order.specs.Replica.Refusals.{is_authentic, is_there, place_refusal, refusal}
use Rattle.bfs_order.specs.Replica.States.{State, known, with_message, with_more}
use Rattle.bfs_order.specs.Replica.Views.{all_taken_over, as_proposals, entered, entering_refusal, number_of, opened}
use Rattle.bfs_order.specs.Replica.Installing.{raised}
use Rattle.bfs_order.specs.declared.error.OrderError.TheVariants.{BadAuthenticator}
use Rattle.bfs_order.proofs.Public.{raised_same}
use Rattle.bfs_agreement.specs.Histories.{IsIn}
use Rattle.bfs_nodes_agree.specs.Orders.Replicas.{votes_by}
use Rattle.bfs_nodes_agree.proofs.Public.{Brings, either_in, either_way, of_primary, passed, placed}

abbrev Message : Type 0
Message = Signed OrderMessage

-- the primary's PRE-PREPARE that a PREPARE answers
pub record IsGround (f : ℕ) (m p : Header) : Type 0 where
  pub two : p.tag ≡ 2
  pub from : p.sender ≡ primary f p.view
  pub view : p.view ≡ m.view
  pub number : p.number ≡ m.number
  pub digest : p.digest ≡ m.digest

-- what comes in a call
abbrev pub Comes : State → Call → Message → Type 0
Comes s (Takes keys m) p = (p ≡ m) × (refusal keys s m ≡ None)
Comes s (Enters keys view stable handed) p = IsIn p (as_proposals handed)
Comes s call p = ⊥

pub brought : (P : Message → Type 0) (s : State) (call : Call) (p : Message) → Brings P s call → Comes s call p → P p
brought P s (Takes keys m) p brings comes = subst P (sym comes.0) (brings comes.1)
brought P s (Enters keys view stable handed) p brings comes = brings.0 p comes
brought P s call p brings comes = absurd comes

-- Answers -----------------------------------------------------------------------------------------------------------------

in_once : (b c : Bool) (x m : Message) → IsIn m (cond b [] (cond c [] (x ∷ []))) → m ≡ x
in_once true c x m i = absurd i
in_once false true x m i = absurd i
in_once false false x m i = elim i [ inl e ↦ e | inr j ↦ absurd j ]

in_commit : (b c : Bool) (x m : Message) → IsIn m (cond b (cond c [] (x ∷ [])) []) → m ≡ x
in_commit true c x m i = in_once false c x m i
in_commit false c x m i = absurd i

no_commit : (keys : Keys) (s : State) (v n : ℕ) (d : List ℕ) (m : Message) → IsIn m (commits_in keys s v n d) → (header m).tag ≡ 3 → ⊥
no_commit keys s v n d m i three =
    let own = order_signed_by keys (Commit (own_vote s v n d)) in
    let same = in_commit (prepared s.f s.me (known s) v n d) (is_there s (header own)) own m i in
    let four : (header m).tag ≡ 4 = ap (λ (x : Message). (header x).tag) same in
    omega (arith, three, four)

pub record IsAt (m : Header) (v n : ℕ) (d : List ℕ) : Type 0 where
  pub view : v ≡ m.view
  pub number : n ≡ m.number
  pub digest : d ≡ m.digest

voted : (keys : Keys) (s : State) (v n : ℕ) (d : List ℕ) (m : Message) → IsIn m (votes_in keys s v n d) → (header m).tag ≡ 3 → IsAt (header m) v n d
voted keys s v n d m i three =
    let ps = prepares_in keys s v n d in
    let own = order_signed_by keys (Prepare (own_vote s v n d)) in
    elim (either_in ps (commits_in keys (with_more s ps) v n d) m i) [
      | inl j ↦
          let same = in_once (s.me == primary s.f v) (is_there s (header own)) own m j in
          record {
            view = ap (λ (x : Message). (header x).view) (sym same);
            number = ap (λ (x : Message). (header x).number) (sym same);
            digest = ap (λ (x : Message). (header x).digest) (sym same);
          }
      | inr j ↦ absurd (no_commit keys (with_more s ps) v n d m j three)
    ]

answered : (keys : Keys) (s : State) (h : Header) (m : Message) → IsIn m (answers_in keys s h) → (header m).tag ≡ 3 → (h.tag ≡ 2) × IsAt (header m) h.view h.number h.digest
answered keys s h m i three =
    cond_both (h.tag == 2) (votes_in keys s h.view h.number h.digest) (cond (h.tag == 3) (commits_in keys s h.view h.number h.digest) [])
    (λ (l : Log). IsIn m l → (h.tag ≡ 2) × IsAt (header m) h.view h.number h.digest)
    (λ two j. (eqb-true h.tag 2 two, voted keys s h.view h.number h.digest m j three))
    (λ _. cond_both (h.tag == 3) (commits_in keys s h.view h.number h.digest) [] (λ (l : Log). IsIn m l → (h.tag ≡ 2) × IsAt (header m) h.view h.number h.digest)
    (λ _ j. absurd (no_commit keys s h.view h.number h.digest m j three)) (λ _ j. absurd j)) i

taken : (keys : Keys) (s : State) (p m : Message) → place_refusal s (header p) ≡ None → IsIn m (accepted keys s p).sent → (header m).tag ≡ 3 → IsGround s.f (header m) (header p)
taken keys s p m none i three =
    let h = header p in
    let got = answered keys (with_message s p) h m i three in
    record {
      two = got.0;
      from = eqb-true h.sender (primary s.f h.view) (of_primary (h.tag == 2) (h.sender == primary s.f h.view) (eq-eqb h.tag 2 got.0) (placed s h none).primary);
      view = got.1.view;
      number = got.1.number;
      digest = got.1.digest;
    }

over : (keys : Keys) (s : State) (ms : Log) (m : Message) → IsIn m (all_taken_over keys s ms).sent → (header m).tag ≡ 3 → (p : Message) × IsIn p ms × IsGround s.f (header m) (header p)
over keys s [] m i three = absurd i
over keys s (x ∷ ms) m i three =
    either_way (λ o. IsIn m (o.sent ++ (all_taken_over keys o.now ms).sent) → (p : Message) × IsIn p (x ∷ ms) × IsGround s.f (header m) (header p)) (place_refusal s (header x)) s (accepted keys s x)
    (λ none j. elim (either_in (accepted keys s x).sent (all_taken_over keys (accepted keys s x).now ms).sent m j) [
      | inl k ↦ (x, inl refl, taken keys s x m none k three)
      | inr k ↦ let got = over keys (accepted keys s x).now ms m k three in (got.0, inr got.1, got.2)
    ])
    (λ j. let got = over keys s ms m j three in (got.0, inr got.1, got.2)) i

-- Each call ---------------------------------------------------------------------------------------------------------------

pub prepare_answers : (s : State) (call : Call) (m : Message) → IsIn m (votes_by s call) → (header m).tag ≡ 3 → (p : Message) × Comes s call p × IsGround s.f (header m) (header p)
prepare_answers s (Takes keys x) m i three =
    either_way (λ o. IsIn m o.sent → (p : Message) × Comes s (Takes keys x) p × IsGround s.f (header m) (header p)) (refusal keys s x) s (accepted keys s x)
    (λ none j. (x, (refl, none), taken keys s x m (passed (is_authentic keys s x) BadAuthenticator (place_refusal s (header x)) none).1 j three)) (λ j. absurd j) i
prepare_answers s (Proposes keys batch) m i three =
    let own = proposal keys s batch in
    either_way (λ o. IsIn m o.sent → (p : Message) × ⊥ × IsGround s.f (header m) (header p)) (proposal_refusal s) s (proposed keys s batch)
    (λ _ j. elim j [
      | inl same ↦ let two : (header m).tag ≡ 2 = ap (λ (x : Message). (header x).tag) same in absurd (omega (arith, two, three))
      | inr k ↦ absurd (cond_both (s.f == 0) (commits_in keys (with_message s own) s.view (next_number s) (batch_digest batch)) [] (λ (l : Log). IsIn m l → ⊥)
          (λ _ l. no_commit keys (with_message s own) s.view (next_number s) (batch_digest batch) m l three) (λ _ l. l) k)
    ])
    (λ j. absurd j) i
prepare_answers s (Enters keys view stable handed) m i three =
    let begun = opened (raised keys s stable) view (number_of stable) handed in
    either_way (λ o. IsIn m o.sent → (p : Message) × IsIn p (as_proposals handed) × IsGround s.f (header m) (header p)) (entering_refusal s view) s (entered keys s view stable handed)
    (λ _ j.
    let got = over keys begun (as_proposals handed) m j three in
    (got.0, got.1, subst (λ (f : ℕ). IsGround f (header m) (header got.0)) (raised_same (λ (u : State). u.f) keys s stable (λ low log. refl)) got.2))
    (λ j. absurd j) i
prepare_answers s call m i three = absurd i
