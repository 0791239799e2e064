-- What an order has answered, as its calls go on.
use Rattle.std.proofs.Common.{◌≡◌, ℕ, ◌<◌, ◌≤◌, ◌==◌, Bool, true, false, ◌&&◌, ◌||◌, not, List, [], ◌∷◌, ◌++◌, Option, Some, None, inl, inr, refl, sym, ap, subst, ◌∙◌, arith}
use Rattle.std.specs.Prelude.{nat_lt, nat_le}
use Rattle.std.specs.List.{list_any, list_all}
use Rattle.std.proofs.lemmas.Bool.{and_parts, cases_Bool, cond_both, eqb-true, ltb-true}
use Rattle.std.proofs.Math.Bool.{or-false}
use Rattle.bfs_auth.specs.Keys.{Keys}
use Rattle.bfs_votes.specs.Votes.{Header, Told, primary}
use Rattle.bfs_log.specs.Certificates.{StableCheckpoint, checkpoints_in, is_shown, vouches}
use Rattle.bfs_log.specs.Headers.{header}
use Rattle.bfs_log.specs.Logs.{Log, headers, kept_after}
use Rattle.bfs_messages.specs.declared.signed.Signed.{Signed}
use Rattle.bfs_messages.specs.declared.order_messages.OrderMessage.{OrderMessage}
use Rattle.bfs_order.specs.Laws.Calls.{Call, Takes, Proposes, Executes, Checkpoints, Installs, Leaves, Enters, outcome, execution}
use Rattle.bfs_order.specs.Laws.Logs.{HasNoLaterView}
use Rattle.bfs_order.specs.Replica.Accepting.{accepted, answers, makes_stable, settled}
use Rattle.bfs_order.specs.Replica.Checkpoints.{checkpoint, checkpoint_refusal, checkpointed}
use Rattle.bfs_order.specs.Replica.Executing.{next_order}
use Rattle.bfs_order.specs.Replica.Installing.{certified, install_refusal, installed, raised}
use Rattle.bfs_order.specs.Replica.Refusals.{is_authentic, is_of_view, place_refusal, refusal}
use Rattle.bfs_order.specs.Replica.States.{State, known, with_message, with_more}
use Rattle.bfs_order.specs.Replica.Views.{all_taken_over, as_proposals, entered, entering_refusal, left, leaving_refusal, number_of, opened}
use Rattle.bfs_order.specs.declared.error.OrderError.TheVariants.{BadAuthenticator, NoCertificate, WrongView}
use Rattle.bfs_model.specs.Server.Limits.{most_number}
use Rattle.bfs_order.proofs.Public.{raised_either}
use Rattle.bfs_agreement.specs.Histories.{IsIn}
use Rattle.bfs_agreement.specs.Moves.{kept_above}
use Rattle.bfs_agreement.specs.Calls.{answers_in, with_said}
use Rattle.bfs_agreement.proofs.Public.{prepared_more}
use Rattle.bfs_progress.proofs.Public.{Speaks, answered_speaks, dropped_speaks, prepared_is}
use Rattle.bfs_nodes_agree.specs.Orders.Following.{HaveTheSameVotes}
use Rattle.bfs_nodes_agree.proofs.Public.{any_both, at_in, dropped, each_five, either_way, five_pushed, in_kept, IsPlaced, no_answers, passed, placed, slot_same, told_in, told_same, unsettled}
use Rattle.bfs_nodes_progress.proofs.Answers.{taken_alike, with_one, with_those}

-- of the view entered
abbrev pub Speaking : State → Type 0
Speaking s = Speaks s.f s.me s.view (known s)

-- it is so of each log that tells the same votes
pub speaks_same : (f me v : ℕ) (one other : List Header) → HaveTheSameVotes one other → Speaks f me v one → Speaks f me v other
speaks_same f me v one other same speaks = record {
  prepares = λ n d backup x.
      sym (slot_same one other same 3 me v n (omega arith)) ∙ speaks.prepares n d backup (told_same one other same 2 (primary f v) v n d (omega arith) ∙ x);
  commits = λ n d ready.
      sym (slot_same one other same 4 me v n (omega arith)) ∙ speaks.commits n d (prepared_more f me other one v n d (λ t k small x. told_same one other same t k v n d small ∙ x) ready);
}

-- A message is taken ------------------------------------------------------------------------------------------------------

settles_speaks : (f me v : ℕ) (s : State) (h : Header) → Speaks f me v (known s) → Speaks f me v (known (settled s h))
settles_speaks f me v s h speaks = cond_both (makes_stable s h) (kept_after h.number h.digest s.log) s.log (λ (l : Log). Speaks f me v (headers l))
    (λ _. speaks_same f me v (kept_above h.number (known s)) (headers (kept_after h.number h.digest s.log))
    (λ test votes. sym (dropped h.number h.digest s.log (known s) (λ test votes. refl) test votes)) (dropped_speaks f me v h.number (known s) speaks))
    (λ _. speaks)

led : (a b : Bool) → (a && not b) ≡ false → (not a || b) ≡ true
led true true e = refl
led false b e = refl
led true false e = absurd cc

of_view : (s : State) (h : Header) → (h.tag == 5) ≡ false → is_of_view s h ≡ true → h.view ≡ s.view
of_view s h vote e = eqb-true h.view s.view (and_parts (h.view == s.view) (nat_le s.asked s.view) (sym (ap (λ (b : Bool). b || ((h.view == s.view) && nat_le s.asked s.view)) vote) ∙ e)).0

pub taken_speaks : (keys : Keys) (s : State) (m : Signed OrderMessage) → place_refusal s (header m) ≡ None → Speaking s → Speaking (accepted keys s m).now
taken_speaks keys s m none speaks = elim (cases_Bool ((header m).tag == 5)) [
  | inl five ↦
      let tag = eqb-true h.tag 5 five in
      let same : HaveTheSameVotes (known s) (known (with_more one [])) = λ test votes.
      sym (any_both test (s.log ++ m ∷ []) [] ∙ or-false (list_any test (headers (s.log ++ m ∷ []))) ∙ five_pushed s.log (known s) m tag (λ test votes. refl) test votes) in
      subst (λ (l : Log). Speaks s.f s.me s.view (known (settled (with_more one l) h))) (sym (no_answers keys one h tag))
      (settles_speaks s.f s.me s.view (with_more one []) h (speaks_same s.f s.me s.view (known s) (known (with_more one [])) same speaks))
  | inr vote ↦
      let here = of_view s h vote at.of_view in
      let all = answered_speaks s.f s.me (known s) h (led (h.tag == 2) (h.sender == primary s.f h.view) at.primary) (subst (λ (v : ℕ). Speaks s.f s.me v (known s)) (sym here) speaks) in
      let said : HaveTheSameVotes (with_said (answers_in s.f s.me (h ∷ known s) h) (h ∷ known s)) (known then) = λ test votes.
      ap (λ (hs : List Header). list_any test (with_said hs (h ∷ known s))) (sym (taken_alike keys s m)) ∙ sym (with_those one vs (h ∷ known s) (with_one s m) test) in
      subst (λ (x : State). Speaks s.f s.me s.view (known x)) (sym (unsettled then h vote))
      (speaks_same s.f s.me s.view (with_said (answers_in s.f s.me (h ∷ known s) h) (h ∷ known s)) (known then) said
      (subst (λ (v : ℕ). Speaks s.f s.me v (with_said (answers_in s.f s.me (h ∷ known s) h) (h ∷ known s))) here all))
]
  where
    h : Header
    h = header m

    at : IsPlaced s h
    at = placed s h none

    one : State
    one = with_message s m

    vs : Log
    vs = answers keys s m

    then : State
    then = with_more one vs

-- one PRE-PREPARE of a NEW-VIEW after another
over_speaks : (keys : Keys) (s : State) (ms : Log) → Speaking s → Speaking (all_taken_over keys s ms).now
over_speaks keys s [] speaks = speaks
over_speaks keys s (m ∷ ms) speaks =
    either_way (λ out. Speaking (all_taken_over keys out.now ms).now) (place_refusal s (header m)) s (accepted keys s m)
    (λ none. over_speaks keys (accepted keys s m).now ms (taken_speaks keys s m none speaks)) (over_speaks keys s ms speaks)

-- A low mark rises, a view is entered -------------------------------------------------------------------------------------

abbrev Certifies : Keys → State → StableCheckpoint → Type 0
Certifies keys s c = is_shown keys s.f c ≡ true

certified_same : (keys : Keys) (s : State) (c : StableCheckpoint) → Certifies keys s c → HaveTheSameVotes (headers (certified s.log c)) (kept_above c.number (known s))
certified_same keys s c shown =
    let n = c.number in
    each_five keys s.f n c.digest (kept_after n c.digest s.log) (checkpoints_in c) (kept_above n (known s)) (and_parts (list_all (vouches keys s.f n c.digest) (checkpoints_in c)) _ shown).0
    (dropped n c.digest s.log (known s) (λ test votes. refl))

certified_speaks : (keys : Keys) (s : State) (c : StableCheckpoint) → Certifies keys s c → Speaking s → Speaks s.f s.me s.view (headers (certified s.log c))
certified_speaks keys s c shown speaks =
    speaks_same s.f s.me s.view (kept_above c.number (known s)) (headers (certified s.log c)) (λ test votes. sym (certified_same keys s c shown test votes)) (dropped_speaks s.f s.me s.view c.number (known s) speaks)

-- of a later view nothing was told
unspoken : (f me v : ℕ) (log : List Header) → ((h : Header) → IsIn h log → h.view < v) → Speaks f me v log
unspoken f me v log earlier = record {
  prepares = λ n d backup x. absurd (none 2 (primary f v) n d x);
  commits = λ n d ready. absurd (none 2 (primary f v) n d (prepared_is f me log v n d ready).proposal);
}
  where
    none : (t k n : ℕ) (d : List ℕ) → Told log t k v n d → ⊥
    none t k n d x =
        let got = told_in log t k v n d x in
        let lt = earlier got.0 got.1 in
        let same = got.2.view in
        omega (arith, lt, same)

raised_unspoken : (keys : Keys) (s : State) (stable : Option StableCheckpoint) (f me v : ℕ) → ((h : Header) → IsIn h (known s) → h.view < v) → Speaks f me v (known (raised keys s stable))
raised_unspoken keys s stable f me v earlier = raised_either (λ u. Speaks f me v (known u)) keys s stable
    (λ c _ _ shown. speaks_same f me v (kept_above c.number (known s)) (headers (certified s.log c)) (λ test votes. sym (certified_same keys s c shown test votes))
    (unspoken f me v (kept_above c.number (known s)) (λ h i. earlier h (in_kept c.number (known s) h i))))
    (unspoken f me v (known s) earlier)

-- Each call ---------------------------------------------------------------------------------------------------------------

abbrev pub IsNoProposal : Call → Type 0
IsNoProposal (Proposes keys batch) = ⊥
IsNoProposal call = Unit {0}

pub call_speaks : (s : State) (call : Call) → HasNoLaterView s → IsNoProposal call → Speaking s → Speaking (outcome s call).now
call_speaks s (Takes keys m) views silent speaks = either_way (λ out. Speaking out.now) (refusal keys s m) s (accepted keys s m)
    (λ none. taken_speaks keys s m (passed (is_authentic keys s m) BadAuthenticator (place_refusal s (header m)) none).1 speaks) speaks
call_speaks s (Proposes keys batch) views silent speaks = absurd silent
call_speaks s Executes views silent speaks = elim (next_order s) as (λ o. Speaking (execution s o).now) [ None ↦ speaks | Some m ↦ speaks ]
call_speaks s (Checkpoints keys n d) views silent speaks =
    let m = checkpoint keys s n d in
    let one = with_message s m in
    let same : HaveTheSameVotes (known s) (known one) = λ test votes. sym (five_pushed s.log (known s) m refl (λ test votes. refl) test votes) in
    either_way (λ out. Speaking out.now) (checkpoint_refusal s n) s (checkpointed keys s n d)
    (λ _. settles_speaks s.f s.me s.view one (header m) (speaks_same s.f s.me s.view (known s) (known one) same speaks)) speaks
call_speaks s (Installs keys c) views silent speaks = either_way (λ out. Speaking out.now) (install_refusal keys s c) s (installed s c)
    (λ none. cond_both (nat_lt s.low c.number) (certified s.log c) s.log (λ (l : Log). Speaks s.f s.me s.view (headers l))
    (λ _. certified_speaks keys s c (passed (is_shown keys s.f c) NoCertificate _ none).0 speaks) (λ _. speaks)) speaks
call_speaks s (Leaves view) views silent speaks = either_way (λ out. Speaking out.now) (leaving_refusal s view) s (left s view) (λ _. speaks) speaks
call_speaks s (Enters keys view stable handed) views silent speaks = either_way (λ out. Speaking out.now) (entering_refusal s view) s (entered keys s view stable handed)
    (λ none.
    let a = passed (nat_lt s.view view && (nat_le s.asked view && nat_le view most_number)) WrongView None none in
    let above = ltb-true s.view view (and_parts (nat_lt s.view view) (nat_le s.asked view && nat_le view most_number) a.0).0 in
    let risen = raised keys s stable in
    over_speaks keys (opened risen view (number_of stable) handed) (as_proposals handed)
    (raised_unspoken keys s stable risen.f risen.me view (λ h i. let le = at_in (λ (x : Header). x.view ≤ s.view) (known s) views h i in omega (arith, le, above))))
    speaks
