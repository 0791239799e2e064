-- What the primary proposes is not prepared yet, so that it owes no COMMIT.
use Rattle.std.proofs.Common.{◌≡◌, ℕ, ◌<◌, ◌≤◌, ◌==◌, max, Bool, false, cond, ◌&&◌, ◌||◌, List, [], ◌∷◌, ◌++◌, None, refl, sym, ap, ap₂, subst, ◌∙◌, arith}
use Rattle.std.specs.Prelude.{nat_le}
use Rattle.std.specs.List.{list_any}
use Rattle.std.proofs.lemmas.Bool.{and_parts, cond_both, eqb-true}
use Rattle.std.proofs.Math.Bool.{or-false, or_comm}
use Rattle.bfs_auth.specs.Keys.{Keys}
use Rattle.bfs_votes.specs.Votes.{Header, primary}
use Rattle.bfs_log.specs.Headers.{header}
use Rattle.bfs_log.specs.Logs.{Log, headers}
use Rattle.bfs_log.specs.Logs as order
use Rattle.bfs_messages.specs.Messages.{Batch}
use Rattle.bfs_messages.specs.declared.signed.Signed.{Signed}
use Rattle.bfs_messages.specs.declared.order_messages.OrderMessage.{OrderMessage}
use Rattle.bfs_order.specs.Laws.Calls.{Proposes, outcome}
use Rattle.bfs_order.specs.Replica.Answers.{commits_in}
use Rattle.bfs_order.specs.Replica.Proposing as proposing
use Rattle.bfs_order.specs.Replica.Proposing.{batch_digest, leads, proposal, proposal_refusal, proposed}
use Rattle.bfs_order.specs.Replica.States.{State, known, with_message, with_more}
use Rattle.bfs_order.specs.declared.error.OrderError.TheVariants.{NotPrimary}
use Rattle.bfs_agreement.specs.Histories as told
use Rattle.bfs_agreement.specs.Histories.{World, FewAreFaulty}
use Rattle.bfs_agreement.specs.Calls.{vote, greatest_proposed, next_number}
use Rattle.bfs_agreement.proofs.Public.{Kept}
use Rattle.bfs_progress.proofs.Public.{HeardVotes, Speaks, greatest_le, proposed_le, proposed_speaks}
use Rattle.bfs_nodes_agree.specs.Orders.Following.{HaveTheSameVotes, Tracks}
use Rattle.bfs_nodes_agree.proofs.Public.{any_both, either_way, passed, told_same}
use Rattle.bfs_nodes_progress.proofs.Speaking.{Speaking, speaks_same}

-- The number --------------------------------------------------------------------------------------------------------------

greatest_is : (v : ℕ) (hs : List Header) → order.greatest_proposed v hs ≡ greatest_proposed hs v
greatest_is v [] = refl
greatest_is v (h ∷ hs) =
    let e = greatest_is v hs in
    ap₂ (λ (a b : ℕ). cond ((h.tag == 2) && (h.view == v)) a b) (ap (max h.number) e) e

greatest_le_there : (v : ℕ) (one other : List Header) → HaveTheSameVotes one other → greatest_proposed one v ≤ greatest_proposed other v
greatest_le_there v one other same =
    greatest_le one v (greatest_proposed other v) (λ k n d x. proposed_le other k v n d (sym (told_same one other same 2 k v n d (omega arith)) ∙ x))

number_same : (s : State) (t : told.State) → Tracks s t → next_number t ≡ proposing.next_number s
number_same s t tracks =
    let same = tracks.log in
    let one = greatest_le_there s.view (known s) t.log same in
    let other = greatest_le_there s.view t.log (known s) (λ test votes. sym (same test votes)) in
    let is = greatest_is s.view (known s) in
    let view = tracks.view in
    let there : greatest_proposed t.log t.view ≡ greatest_proposed t.log s.view = ap (greatest_proposed t.log) view in
    let low = tracks.low in
    let min_s = tracks.min_s in
    let handed = tracks.handed in
    omega (arith, one, other, is, there, low, min_s, handed)

-- The proposal ------------------------------------------------------------------------------------------------------------

pub proposes_speaks : (faulty : ℕ → Bool) (w : World) (s : State) (keys : Keys) (batch : Batch) → 0 < s.f → FewAreFaulty s.f faulty → faulty s.me ≡ false → HeardVotes s.f faulty w → Kept s.f s.me (w s.me)
    → Tracks s (w s.me).now → Speaking s → Speaking (outcome s (Proposes keys batch)).now
proposes_speaks faulty w s keys batch positive few correct heard kept tracks speaks = either_way (λ out. Speaking out.now) (proposal_refusal s) s (proposed keys s batch) taken speaks
  where
    t : told.State
    t = (w s.me).now

    m : Signed OrderMessage
    m = proposal keys s batch

    h : Header
    h = header m

    told_header : vote 2 s.me t.view (next_number t) (batch_digest batch) ≡ h
    told_header = ap₂ (λ (v n : ℕ). vote 2 s.me v n (batch_digest batch)) tracks.view (number_same s t tracks)

    joined : HaveTheSameVotes (h ∷ t.log) (known (with_more (with_message s m) []))
    joined test votes =
        ap (λ (b : Bool). test h || b) (sym (tracks.log test votes)) ∙ or_comm (test h) (list_any test (known s))
        ∙ ap (λ (b : Bool). list_any test (known s) || b) (sym (or-false (test h))) ∙ sym (any_both test s.log (m ∷ []))
        ∙ sym (or-false (list_any test (headers (s.log ++ m ∷ [])))) ∙ sym (any_both test (s.log ++ m ∷ []) [])

    taken : proposal_refusal s ≡ None → Speaking (proposed keys s batch).now
    taken none =
        let led = (and_parts (s.me == primary s.f s.view) (nat_le s.asked s.view) (passed (leads s) NotPrimary _ none).0).0 in
        let leads_there : s.me ≡ primary s.f t.view = eqb-true s.me (primary s.f s.view) led ∙ ap (primary s.f) (sym tracks.view) in
        let there : Speaks s.f s.me t.view t.log = subst (λ (v : ℕ). Speaks s.f s.me v t.log) (sym tracks.view) (speaks_same s.f s.me s.view (known s) t.log tracks.log speaks) in
        let all = proposed_speaks s.f faulty w s.me (batch_digest batch) positive few correct heard kept there leads_there in
        let here : Speaks s.f s.me s.view (h ∷ t.log) = subst (λ (v : ℕ). Speaks s.f s.me v (h ∷ t.log)) tracks.view (subst (λ (x : Header). Speaks s.f s.me t.view (x ∷ t.log)) told_header all) in
        cond_both (s.f == 0) (commits_in keys (with_message s m) s.view (proposing.next_number s) (batch_digest batch)) [] (λ (l : Log). Speaks s.f s.me s.view (known (with_more (with_message s m) l)))
        (λ alone. let zero_is = eqb-true s.f 0 alone in absurd (omega (arith, zero_is, positive)))
        (λ _. speaks_same s.f s.me s.view (h ∷ t.log) (known (with_more (with_message s m) [])) joined here)
