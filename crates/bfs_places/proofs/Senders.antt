-- The primary of a view sends PRE-PREPAREs there, and PREPAREs others; their views and numbers are below 2^63 where those are to which they answer.
use Rattle.std.proofs.Common.{◌≡◌, ℕ, ◌+◌, ◌<◌, ◌≤◌, ◌==◌, Bool, true, false, cond, ◌&&◌, List, [], ◌∷◌, ◌++◌, Some, None, inl, inr, refl, sym, ap, subst, ◌∙◌, arith}
use Rattle.std.specs.Prelude.{nat_le}
use Rattle.std.proofs.lemmas.Bool.{and_parts, cond_both, eqb-false, eqb-true, leb-true}
use Rattle.bfs_auth.specs.Keys.{Keys}
use Rattle.bfs_model.specs.Server.Limits.{log_size, most_number}
use Rattle.bfs_votes.specs.Votes.{Header, primary, prepared}
use Rattle.bfs_log.specs.Headers.{header}
use Rattle.bfs_log.specs.Logs.{Log}
use Rattle.bfs_messages.specs.Messages.{Batch}
use Rattle.bfs_messages.specs.Signing.{order_signed_by}
use Rattle.bfs_messages.specs.declared.signed.Signed.{Signed}
use Rattle.bfs_messages.specs.declared.order_messages.OrderMessage.{OrderMessage}
use Rattle.bfs_messages.specs.declared.order_messages.OrderMessage.TheVariants.{Prepare, Commit}
use Rattle.bfs_order.specs.Laws.Calls.{Call, CallsKeepTheReplica, Takes, Proposes, Enters}
use Rattle.bfs_order.specs.Replica.Accepting.{accepted}
use Rattle.bfs_order.specs.Replica.Answers.{answers_in, commits_in, own_vote, prepares_in, votes_in}
use Rattle.bfs_order.specs.Replica.Installing.{raised}
use Rattle.bfs_order.specs.Replica.Proposing.{batch_digest, leads, next_number, proposal, proposal_refusal, proposed}
use Rattle.bfs_order.specs.Replica.Refusals.{is_there, place_refusal, refusal}
use Rattle.bfs_order.specs.Replica.States.{State, known, with_message, with_more}
use Rattle.bfs_order.specs.Replica.Views.{all_taken_over, as_proposals, entered, entering_refusal, number_of, opened}
use Rattle.bfs_order.specs.declared.error.OrderError.TheVariants.{NotPrimary, OutsideMarks}
use Rattle.bfs_order.proofs.Public.{raised_same}
use Rattle.bfs_agreement.specs.Histories.{IsIn}
use Rattle.bfs_nodes_agree.specs.Orders.Replicas.{OrderReplica, after_order_deed, offers_by, votes_by, where_taken}
use Rattle.bfs_nodes_agree.specs.Views.Replicas.{ViewDeed, ChangesView, Orders, TimesOut, ordered_deed}
use Rattle.bfs_nodes_agree.proofs.Public.{AllIn, BringAll, Brings, after_deeds, both_in, called, either_way, log_keeps, none_in, passed}
use Rattle.bfs_places.proofs.Numbers.{AreNumbers, IsNumbered}
use Rattle.bfs_places.proofs.Spent.{view_stays}

abbrev Message : Type 0
Message = Signed OrderMessage

-- a PRE-PREPARE is of the primary, and a PREPARE of another one, and both of a view and a number below 2^63
pub record IsKinded (f : ℕ) (m : Message) : Type 0 where
  pub numbered : IsNumbered m
  pub led : (header m).tag ≡ 2 → (header m).sender ≡ primary f (header m).view
  pub backup : (header m).tag ≡ 3 → (header m).sender ≡ primary f (header m).view → ⊥

-- Answers -----------------------------------------------------------------------------------------------------------------

in_once : (b c : Bool) (x m : Message) → IsIn m (cond b [] (cond c [] (x ∷ []))) → (b ≡ false) × (m ≡ x)
in_once true c x m i = absurd i
in_once false true x m i = absurd i
in_once false false x m i = (refl, elim i [ inl e ↦ e | inr j ↦ absurd j ])

in_commit : (b c : Bool) (x m : Message) → IsIn m (cond b (cond c [] (x ∷ [])) []) → m ≡ x
in_commit true c x m i = (in_once false c x m i).1
in_commit false c x m i = absurd i

commit_kinded : (keys : Keys) (s : State) (v n : ℕ) (d : List ℕ) → AllIn (IsKinded s.f) (commits_in keys s v n d)
commit_kinded keys s v n d m i =
    let own = order_signed_by keys (Commit (own_vote s v n d)) in
    let same = in_commit (prepared s.f s.me (known s) v n d) (is_there s (header own)) own m i in
    let four : (header m).tag ≡ 4 = ap (λ (x : Message). (header x).tag) same in
    record { numbered = λ small. absurd (omega (arith, small, four)); led = λ two. absurd (omega (arith, two, four)); backup = λ three. absurd (omega (arith, three, four)) }

prepare_kinded : (keys : Keys) (s : State) (v n : ℕ) (d : List ℕ) → AreNumbers v n → AllIn (IsKinded s.f) (prepares_in keys s v n d)
prepare_kinded keys s v n d numbers m i =
    let own = order_signed_by keys (Prepare (own_vote s v n d)) in
    let got = in_once (s.me == primary s.f v) (is_there s (header own)) own m i in
    subst (IsKinded s.f) (sym got.1) (record { numbered = λ _. numbers; led = λ two. absurd (omega (arith, two)); backup = λ three same. eqb-false s.me (primary s.f v) got.0 same })

voted : (keys : Keys) (s : State) (v n : ℕ) (d : List ℕ) → AreNumbers v n → AllIn (IsKinded s.f) (votes_in keys s v n d)
voted keys s v n d numbers =
    let ps = prepares_in keys s v n d in
    both_in (IsKinded s.f) ps (commits_in keys (with_more s ps) v n d) (prepare_kinded keys s v n d numbers) (commit_kinded keys (with_more s ps) v n d)

answered : (keys : Keys) (s : State) (h : Header) → (h.tag < 4 → AreNumbers h.view h.number) → AllIn (IsKinded s.f) (answers_in keys s h)
answered keys s h numbers =
    cond_both (h.tag == 2) (votes_in keys s h.view h.number h.digest) (cond (h.tag == 3) (commits_in keys s h.view h.number h.digest) []) (AllIn (IsKinded s.f))
    (λ e. voted keys s h.view h.number h.digest (numbers (let two = eqb-true h.tag 2 e in omega (arith, two))))
    (λ _. cond_both (h.tag == 3) (commits_in keys s h.view h.number h.digest) [] (AllIn (IsKinded s.f)) (λ _. commit_kinded keys s h.view h.number h.digest) (λ _. none_in (IsKinded s.f)))

over : (keys : Keys) (s : State) (ms : Log) → AllIn IsNumbered ms → AllIn (IsKinded s.f) (all_taken_over keys s ms).sent
over keys s [] numbered = none_in (IsKinded s.f)
over keys s (x ∷ ms) numbered =
    let rest = λ (y : Message) (i : IsIn y ms). numbered y (inr i) in
    either_way (λ o. AllIn (IsKinded s.f) (o.sent ++ (all_taken_over keys o.now ms).sent)) (place_refusal s (header x)) s (accepted keys s x)
    (λ _. both_in (IsKinded s.f) (accepted keys s x).sent (all_taken_over keys (accepted keys s x).now ms).sent (answered keys (with_message s x) (header x) (numbered x (inl refl))) (over keys (accepted keys s x).now ms rest))
    (over keys s ms rest)

-- Each call ---------------------------------------------------------------------------------------------------------------

offered : (keys : Keys) (s : State) (batch : Batch) → s.view ≤ most_number → proposal_refusal s ≡ None → AllIn (IsKinded s.f) (proposed keys s batch).sent
offered keys s batch view none m i =
    let own = proposal keys s batch in
    let n = next_number s in
    let first = passed (leads s) NotPrimary _ none in
    let led = eqb-true s.me (primary s.f s.view) (and_parts (s.me == primary s.f s.view) (nat_le s.asked s.view) first.0).0 in
    let room = passed (nat_le n (s.low + log_size) && nat_le n most_number) OutsideMarks None first.1 in
    let number = leb-true n most_number (and_parts (nat_le n (s.low + log_size)) (nat_le n most_number) room.0).1 in
    elim i [
      | inl same ↦ subst (IsKinded s.f) (sym same) (record { numbered = λ _. (view, number); led = λ _. led; backup = λ three. absurd (omega (arith, three)) })
      | inr j ↦ cond_both (s.f == 0) (commits_in keys (with_message s own) s.view (next_number s) (batch_digest batch)) [] (AllIn (IsKinded s.f))
          (λ _. commit_kinded keys (with_message s own) s.view (next_number s) (batch_digest batch)) (λ _. none_in (IsKinded s.f)) m j
    ]

call_kinded : (s : State) (call : Call) → s.view ≤ most_number → Brings IsNumbered s call → AllIn (IsKinded s.f) (votes_by s call)
call_kinded s (Takes keys x) view brings = either_way (λ o. AllIn (IsKinded s.f) o.sent) (refusal keys s x) s (accepted keys s x) (λ none. answered keys (with_message s x) (header x) (brings none)) (none_in (IsKinded s.f))
call_kinded s (Proposes keys batch) view brings = either_way (λ o. AllIn (IsKinded s.f) o.sent) (proposal_refusal s) s (proposed keys s batch) (offered keys s batch view) (none_in (IsKinded s.f))
call_kinded s (Enters keys view stable handed) within brings =
    let begun = opened (raised keys s stable) view (number_of stable) handed in
    either_way (λ o. AllIn (IsKinded s.f) o.sent) (entering_refusal s view) s (entered keys s view stable handed)
    (λ _. subst (λ (f : ℕ). AllIn (IsKinded f) (entered keys s view stable handed).sent) (raised_same (λ (u : State). u.f) keys s stable (λ low log. refl)) (over keys begun (as_proposals handed) brings.0))
    (none_in (IsKinded s.f))
call_kinded s call view brings = none_in (IsKinded s.f)

-- Deeds -------------------------------------------------------------------------------------------------------------------

-- the primary offers what it hands over
offers_numbered : (s : State) (deed : ViewDeed) → Brings IsNumbered s (called s deed) → AllIn IsNumbered (offers_by s (ordered_deed s deed))
offers_numbered s (Orders call) brings = none_in IsNumbered
offers_numbered s (TimesOut view) brings = none_in IsNumbered
offers_numbered s (ChangesView keys view changes handed) brings =
    elim (entering_refusal s view) as (λ r. AllIn IsNumbered (where_taken r (cond (s.me == primary s.f view) (as_proposals handed) []))) [
      | None ↦ cond_both (s.me == primary s.f view) (as_proposals handed) [] (AllIn IsNumbered) (λ _. brings.0) (λ _. none_in IsNumbered)
      | Some refused ↦ none_in IsNumbered
    ]

-- of the votes that it has sent, offered and taken
pub record Knows (f : ℕ) (o : OrderReplica) : Type 0 where
  pub view : o.state.view ≤ most_number
  pub log : AllIn IsNumbered o.state.log
  pub sent : AllIn (IsKinded f) o.sent
  pub offers : AllIn IsNumbered o.offers

pub deeds_known : CallsKeepTheReplica → (f : ℕ) (deeds : List ViewDeed) (o : OrderReplica) → o.state.f ≡ f → Knows f o → BringAll IsNumbered o.state deeds → Knows f (after_deeds o deeds)
deeds_known same f [] o is knows brings = knows
deeds_known same f (deed ∷ deeds) o is knows brings =
    let call = called o.state deed in
    let votes = call_kinded o.state call knows.view brings.0 in
    deeds_known same f deeds (after_order_deed o (ordered_deed o.state deed)) ((same o.state call).0 ∙ is)
    (record {
      view = view_stays o.state call knows.view;
      log = log_keeps IsNumbered o.state call knows.log brings.0 (λ m i. (votes m i).numbered);
      sent = both_in (IsKinded f) (votes_by o.state call) o.sent (subst (λ (g : ℕ). AllIn (IsKinded g) (votes_by o.state call)) is votes) knows.sent;
      offers = both_in IsNumbered (offers_by o.state (ordered_deed o.state deed)) o.offers (offers_numbered o.state deed brings.0) knows.offers;
    }) brings.1
