-- A proposal, an execution and a timeout are lists of moves.
use Rattle.std.proofs.Common.{◌≡◌, ℕ, ◌+◌, ◌*◌, ◌<◌, ◌≤◌, ◌==◌, max, Bool, true, ◌&&◌, List, [], ◌∷◌, ◌++◌, Option, Some, None, inl, inr, refl, sym, ap, subst, ◌∙◌, arith}
use Rattle.std.specs.Prelude.{nat_lt, nat_le}
use Rattle.std.proofs.lemmas.Bool.{and_parts, and_from, or_cases, cond_both, false_from_ne_true, eq-eqb, eqb-true, ltb-true, leb-true, le-leb}
use Rattle.bfs_auth.specs.Keys.{Keys}
use Rattle.bfs_votes.specs.Votes.{Header, is_slot, has_slot, told, Told, tellers, replicas, primary, prepared, committed}
use Rattle.bfs_log.specs.Headers.{header}
use Rattle.bfs_log.specs.Logs.{Log, headers, greatest_proposed}
use Rattle.bfs_messages.specs.Messages.{Batch}
use Rattle.bfs_messages.specs.declared.signed.Signed.{Signed}
use Rattle.bfs_messages.specs.declared.order_messages.OrderMessage.{OrderMessage}
use Rattle.bfs_order.specs.declared.error.OrderError.TheVariants.{WrongView, OutsideMarks, NotPrimary}
use Rattle.bfs_order.specs.Replica.Answers.{commits_in}
use Rattle.bfs_order.specs.Replica.Executing.{next_proposal, where_committed}
use Rattle.bfs_order.specs.Replica.Outcomes.{unless}
use Rattle.bfs_order.specs.Replica.Proposing.{next_number, leads, proposal_refusal, batch_digest, proposal, proposal_commits, proposed}
use Rattle.bfs_order.specs.Replica.States as order
use Rattle.bfs_order.specs.Replica.States.{known, with_more, with_message}
use Rattle.bfs_order.specs.Replica.Views.{leaving_refusal, left}
use Rattle.bfs_order.specs.Laws.Calls.{execution}
use Rattle.bfs_agreement.specs.Histories.{IsIn, ViewChange, State, History, World, Executed}
use Rattle.bfs_agreement.specs.Moves.{Leaves, Executes, IsOpen, Proposes, MaySay, MayLeave, after_move}
use Rattle.bfs_agreement.specs.Calls.{with_said, all_said}
use Rattle.bfs_agreement.proofs.Public.{MaySayAll, Within, said_allowed, prepared_more}
use Rattle.bfs_nodes_agree.specs.Orders.Following.{Tracks, Follows}
use Rattle.bfs_nodes_agree.specs.Orders.Replicas.{OrderReplica, TellsWhatIsPrepared, message_in, where_taken}
use Rattle.bfs_nodes_agree.proofs.Orders.Lists.{found}
use Rattle.bfs_nodes_agree.proofs.Orders.Telling.{not_both, slot_is, slot_same, told_same}
use Rattle.bfs_nodes_agree.proofs.Orders.Saying.{commits_may, after_said}
use Rattle.bfs_nodes_agree.proofs.Orders.Results.{Result, either_way, passed, stays_so, stay_tracks, joined_now, tracks_answers, tracks_one, within, said_follows}
use Rattle.bfs_model.specs.Server.Limits.{log_size, most_number}
use Rattle.bfs_votes.proofs.Public.{more}

-- The primary proposes ----------------------------------------------------------------------------------------------------

number_below : (v k n : ℕ) (hs : List Header) → has_slot hs 2 k v n ≡ true → n ≤ greatest_proposed v hs
number_below v k n [] e = absurd cc
number_below v k n (h ∷ hs) e =
    let of_view = (h.tag == 2) && (h.view == v) in
    cond_both of_view (max h.number (greatest_proposed v hs)) (greatest_proposed v hs) (λ (x : ℕ). n ≤ x)
    (λ _. elim (or_cases (is_slot 2 k v n h) (has_slot hs 2 k v n) e) [
      | inl x ↦ let same = (slot_is 2 k v n h x).number in omega (arith, same)
      | inr y ↦ let le = number_below v k n hs y in omega (arith, le)
    ])
    (λ other. elim (or_cases (is_slot 2 k v n h) (has_slot hs 2 k v n) e) [
      | inl x ↦ let is = slot_is 2 k v n h x in absurd (not_both (and_from (h.tag == 2) (h.view == v) (eq-eqb h.tag 2 is.tag) (eq-eqb h.view v is.view)) other)
      | inr y ↦ number_below v k n hs y
    ])

pub proposes : (faulty : ℕ → Bool) (w : World) (r : OrderReplica) (keys : Keys) (batch : Batch) → Follows r (w r.state.me)
    → let out = unless (proposal_refusal r.state) r.state (proposed keys r.state batch) in Result faulty w r out.now out.sent [] [] []
proposes faulty w r keys batch follows =
    let s = r.state in
    let p = w s.me in
    let m = proposal keys s batch in
    let h = header m in
    let n = next_number s in
    let vs = proposal_commits keys s batch in
    let then : State = record p.now { log = h ∷ p.now.log } in
    let last : State = record then { log = with_said (headers vs) then.log } in
    either_way (λ out. Result faulty w r out.now out.sent [] [] []) (proposal_refusal s) s (proposed keys s batch)
    (λ is.
    let a = passed (leads s) NotPrimary _ is in
    let b = passed (nat_le n (s.low + log_size) && nat_le n most_number) OutsideMarks None a.1 in
    let led = and_parts (s.me == primary s.f s.view) (nat_le s.asked s.view) a.0 in
    let high = leb-true n (s.low + 32) (and_parts (nat_le n (s.low + log_size)) (nat_le n most_number) b.0).0 in
    let in_marks = within s p.now s.view n follows.state refl (leb-true s.asked s.view led.1) (omega arith) (omega arith) high in
    let free = false_from_ne_true (has_slot p.now.log 2 s.me s.view n) (λ e.
    let le = number_below s.view s.me n (known s) (slot_same (known s) p.now.log follows.state.log 2 s.me s.view n (omega arith) ∙ e) in
    absurd (omega (arith, le))) in
    let opened : IsOpen p.now h = assumption (in_marks, free) in
    let over : p.now.handed < n = let e = follows.state.handed in omega (arith, e) in
    let own : MaySay s.f s.me p.now h = record { opened = opened; own = refl; reason = Proposes refl (eqb-true s.me (primary s.f s.view) led.0) over } in
    let still : Within then s.view n = assumption in_marks in
    let one = tracks_one s p.now m follows.state refl in
    let rest : MaySayAll s.f s.me then (headers vs) = cond_both (s.f == 0) (commits_in keys (with_message s m) s.view n (batch_digest batch)) [] (λ (l : Log). MaySayAll s.f s.me then (headers l))
    (λ _. commits_may keys [] (with_message s m) then s.view n (batch_digest batch) (joined_now (with_message s m) then one) still)
    (λ _. tt) in (
      all_said (h ∷ headers vs),
      said_allowed s.f faulty w s.me p.now (h ∷ headers vs) refl (own, rest),
      subst (λ (q : History). Follows (record r { state = with_more (with_message s m) vs; sent = (m ∷ vs) ++ r.sent }) q) (sym (after_said s.f s.me p (h ∷ headers vs)))
          (said_follows r p (with_more (with_message s m) vs) last (m ∷ vs) follows (tracks_answers (with_message s m) then vs one rest)),
    ))
    (stays_so faulty w r s follows follows.state)

-- The next batch is executed ----------------------------------------------------------------------------------------------

told_now : (s : order.State) (t : State) → Tracks s t → (k x v n : ℕ) (d : List ℕ) → k < 5 → Told (known s) k x v n d → Told t.log k x v n d
told_now s t tracks k x v n d small told_so = sym (told_same (known s) t.log tracks.log k x v n d small) ∙ told_so

committed_now : (s : order.State) (t : State) → Tracks s t → (v n : ℕ) (d : List ℕ) → committed s.f s.me (known s) v n d ≡ true → committed s.f s.me t.log v n d ≡ true
committed_now s t tracks v n d e =
    let a = and_parts (prepared s.f s.me (known s) v n d) (nat_le (2 * s.f + 1) (tellers s.f (known s) 4 v n d) && told (known s) 4 s.me v n d) e in
    let b = and_parts (nat_le (2 * s.f + 1) (tellers s.f (known s) 4 v n d)) (told (known s) 4 s.me v n d) a.1 in
    let enough = leb-true (2 * s.f + 1) (tellers s.f (known s) 4 v n d) b.0 in
    let most = more (λ k. told (known s) 4 k v n d) (λ k. told t.log 4 k v n d) (replicas s.f) (λ k x. told_now s t tracks 4 k v n d (omega arith) x) in
    and_from (prepared s.f s.me t.log v n d) (nat_le (2 * s.f + 1) (tellers s.f t.log 4 v n d) && told t.log 4 s.me v n d)
    (prepared_more s.f s.me (known s) t.log v n d (λ k x small y. told_now s t tracks k x v n d small y) a.0)
    (and_from (nat_le (2 * s.f + 1) (tellers s.f t.log 4 v n d)) (told t.log 4 s.me v n d)
    (le-leb (2 * s.f + 1) (tellers s.f t.log 4 v n d) (omega (arith, enough, most))) (told_now s t tracks 4 s.me v n d (omega arith) b.1))

pub executes : (faulty : ℕ → Bool) (w : World) (r : OrderReplica) → Follows r (w r.state.me)
    → let next = where_committed r.state (next_proposal r.state) in Result faulty w r (execution r.state next).now [] [] [] (message_in next)
executes faulty w r follows =
    let s = r.state in
    let p = w s.me in
    let stays = stays_so faulty w r s follows follows.state in
    (elim (next_proposal s) as (λ o. next_proposal s ≡ o → Result faulty w r (execution s (where_committed s o)).now [] [] [] (message_in (where_committed s o))) [
      | None ↦ λ is. stays
      | Some m ↦ λ is.
          let h = header m in
          cond_both (committed s.f s.me (known s) s.view (s.last + 1) h.digest) (Some m) None (λ (o : Option (Signed OrderMessage)). Result faulty w r (execution s o).now [] [] [] (message_in o))
          (λ ready.
          let slot = slot_is 2 (primary s.f s.view) s.view (s.last + 1) h (found (λ x. is_slot 2 (primary s.f s.view) s.view (s.last + 1) (header x)) s.log m is).1 in
          let there = committed_now s p.now follows.state s.view (s.last + 1) h.digest ready in
          let at_view = subst (λ (v : ℕ). committed s.f s.me p.now.log v (s.last + 1) h.digest ≡ true) (sym slot.view) there in
          let at_number = subst (λ (n : ℕ). committed s.f s.me p.now.log h.view n h.digest ≡ true) (sym slot.number) at_view in
          let executed : (x : Signed OrderMessage) → IsIn x (m ∷ r.executed) → Executed (after_move s.f s.me p (Executes h)) (header x) = λ x i. elim i [
            | inl e ↦ subst (λ (y : Signed OrderMessage). Executed (after_move s.f s.me p (Executes h)) (header y)) (sym e) (p.now.log, inl refl)
            | inr j ↦ let old = follows.executed x j in (old.0, inr old.1)
          ] in
          (Executes h ∷ [], (at_number, tt), assumption (executed, stay_tracks s p.now s.low (s.last + 1) s.log follows.state refl follows.state.log)))
          (λ _. stays)
    ]) refl

-- A timeout ---------------------------------------------------------------------------------------------------------------

pub leaves : (faulty : ℕ → Bool) (w : World) (r : OrderReplica) (change : ViewChange) → Follows r (w r.state.me) → TellsWhatIsPrepared r.state change
    → let refused = leaving_refusal r.state change.view in Result faulty w r (unless refused r.state (left r.state change.view)).now [] [] (where_taken refused (change ∷ [])) []
leaves faulty w r change follows tells =
    let s = r.state in
    let p = w s.me in
    let tracks = follows.state in
    (elim (leaving_refusal s change.view) as (λ o. leaving_refusal s change.view ≡ o → Result faulty w r (unless o s (left s change.view)).now [] [] (where_taken o (change ∷ [])) []) [
      | Some e ↦ λ is. stays_so faulty w r s follows tracks
      | None ↦ λ is.
          let a = passed (nat_lt (max s.view s.asked) change.view && nat_le change.view most_number) WrongView None is in
          let lt = ltb-true (max s.view s.asked) change.view (and_parts (nat_lt (max s.view s.asked) change.view) (nat_le change.view most_number) a.0).0 in
          let may : MayLeave s.f s.me p.now change = record {
            asked = let e = tracks.asked in omega (arith, e, lt);
            stable = tells.stable ∙ sym tracks.low;
            all = λ v n d ready over. tells.all v n d (prepared_more s.f s.me p.now.log (known s) v n d (λ k x small y. told_same (known s) p.now.log tracks.log k x v n d small ∙ y) ready)
                (let e = tracks.low in omega (arith, e, over));
          } in
          let entered : s.view ≤ change.view = omega (arith, lt) in
          (Leaves change ∷ [], (may, tt), assumption (entered, ap (λ (l : List ViewChange). change ∷ l) follows.changes))
    ]) refl
