-- What is spent of places by what an order has done, which stays so.
use Rattle.std.proofs.Common.{◌≡◌, ℕ, ◌+◌, ◌<◌, ◌≤◌, ◌==◌, true, false, cond, ◌&&◌, List, [], ◌∷◌, ◌++◌, ◌⊎◌, Option, Some, None, inl, inr, refl, sym, subst, ◌∙◌, arith}
use Rattle.std.specs.Prelude.{max, nat_le, nat_lt}
use Rattle.std.proofs.lemmas.Bool.{and_from, and_parts, cases_lt, cond_both, eq-eqb, leb-true, lt-ltb, ltb-true, or_left, or_right}
use Rattle.bfs_auth.specs.Keys.{Keys}
use Rattle.bfs_auth.specs.declared.places.Place.{Place}
use Rattle.bfs_auth.specs.declared.places.Place.TheVariants.{Checkpoint, NewView, ViewChange, Vote}
use Rattle.bfs_model.specs.Server.Limits.{log_size, most_number}
use Rattle.bfs_votes.specs.Votes.{Header, has_slot, is_slot, is_taken}
use Rattle.bfs_log.specs.Certificates.{StableCheckpoint, checkpoints_in}
use Rattle.bfs_log.specs.Headers.{header}
use Rattle.bfs_log.specs.Logs.{Log, headers, kept_after, stays}
use Rattle.bfs_log.proofs.Public.{told_kept}
use Rattle.bfs_messages.specs.Messages as model
use Rattle.bfs_messages.specs.declared.signed.Signed.{Signed}
use Rattle.bfs_messages.specs.declared.order_messages.OrderMessage.{OrderMessage}
use Rattle.bfs_order.specs.Laws.Calls.{Call, CallsKeepTheReplica, Checkpoints, Enters, Executes, Installs, Leaves, Proposes, Takes, execution, outcome}
use Rattle.bfs_order.specs.Replica.Accepting.{accepted, answers, makes_stable, settled}
use Rattle.bfs_order.specs.Replica.Checkpoints.{checkpoint, checkpoint_refusal, checkpointed}
use Rattle.bfs_order.specs.Replica.Executing.{next_order}
use Rattle.bfs_order.specs.Replica.Installing.{certified, install_refusal, installed, raised, with_each, with_new}
use Rattle.bfs_order.specs.Replica.Proposing.{proposal, proposal_commits, proposal_refusal, proposed}
use Rattle.bfs_order.specs.Replica.Refusals.{is_authentic, is_between, place_refusal, refusal}
use Rattle.bfs_order.specs.Replica.States.{State, with_message, with_more}
use Rattle.bfs_order.specs.Replica.Views.{all_taken_over, as_proposals, entered, entering_refusal, left, leaving_refusal, number_of, opened}
use Rattle.bfs_order.specs.declared.error.OrderError.TheVariants.{AlreadyHave, BadAuthenticator, OutsideMarks, WrongView}
use Rattle.bfs_order.proofs.Public.{raised_either}
use Rattle.bfs_nodes_agree.proofs.Public.{any_both, either_way, entered_same, not_hit, passed, placed, slot_is}

-- CHECKPOINTs of its own ----------------------------------------------------------------------------------------------------

-- the low mark has come to the number, or a CHECKPOINT of it stands in the log
abbrev pub Past : (me number low : ℕ) → Log → Type 0
Past me number low log = (number ≤ low) ⊎ (has_slot (headers log) 5 me 0 number ≡ true)

module _ (me n : ℕ) where
  past_up : (low high : ℕ) (log : Log) → low ≤ high → Past me n low log → Past me n high log
  past_up low high log up (inl le) = inl (omega (arith, up, le))
  past_up low high log up (inr e) = inr e

  past_more : (low : ℕ) (xs ys : Log) → Past me n low xs → Past me n low (xs ++ ys)
  past_more low xs ys (inl le) = inl le
  past_more low xs ys (inr e) = inr (any_both (is_slot 5 me 0 n) xs ys ∙ or_left (has_slot (headers xs) 5 me 0 n) (has_slot (headers ys) 5 me 0 n) e)

  past_raised : (low number : ℕ) (d : List ℕ) (log : Log) → low ≤ number → Past me n low log → Past me n number (kept_after number d log)
  past_raised low number d log up (inl le) = inl (omega (arith, up, le))
  past_raised low number d log up (inr e) = go (cases_lt number n)
    where
      stay : (h : Header) → number < n → is_slot 5 me 0 n h ≡ true → stays number d h ≡ true
      stay h lt x = let same = (slot_is 5 me 0 n h x).number in or_left (nat_lt number h.number) _ (lt-ltb number h.number (omega (arith, lt, same)))

      go : (number < n) ⊎ (n ≤ number) → Past me n number (kept_after number d log)
      go (inl lt) = inr (told_kept (is_slot 5 me 0 n) (stays number d) log (λ h x. stay h lt x) ∙ e)
      go (inr le) = inl le

  past_each : (low : ℕ) (log ms : Log) → Past me n low log → Past me n low (with_each log ms)
  past_each low log [] past = past
  past_each low log (m ∷ ms) past =
      past_each low (with_new log m) ms (cond_both (is_taken (headers log) (header m)) log (log ++ m ∷ []) (Past me n low) (λ _. past) (λ _. past_more low log (m ∷ []) past))

  past_settled : (s : State) (h : Header) → s.low < h.number → Past me n s.low s.log → Past me n (settled s h).low (settled s h).log
  past_settled s h above past = elim (makes_stable s h) as (λ b. Past me n (cond b h.number s.low) (cond b (kept_after h.number h.digest s.log) s.log)) [
    | true ↦ past_raised s.low h.number h.digest s.log (omega (arith, above)) past
    | false ↦ past
  ]

  between : (s : State) (number : ℕ) → is_between s number ≡ true → s.low < number
  between s number e = ltb-true s.low number (and_parts (nat_lt s.low number) (nat_le number (s.low + log_size)) e).0

  past_accepted : (keys : Keys) (s : State) (m : Signed OrderMessage) → place_refusal s (header m) ≡ None → Past me n s.low s.log → Past me n (accepted keys s m).now.low (accepted keys s m).now.log
  past_accepted keys s m none past =
      let above = between s (header m).number (and_parts (is_between s (header m).number) _ (placed s (header m) none).inside).0 in
      past_settled (with_more (with_message s m) (answers keys s m)) (header m) above
      (past_more s.low (s.log ++ m ∷ []) (answers keys s m) (past_more s.low s.log (m ∷ []) past))

  past_over : (keys : Keys) (s : State) (ms : Log) → Past me n s.low s.log → Past me n (all_taken_over keys s ms).now.low (all_taken_over keys s ms).now.log
  past_over keys s [] past = past
  past_over keys s (m ∷ ms) past = either_way (λ o. Past me n (all_taken_over keys o.now ms).now.low (all_taken_over keys o.now ms).now.log) (place_refusal s (header m)) s (accepted keys s m)
      (λ none. past_over keys (accepted keys s m).now ms (past_accepted keys s m none past)) (past_over keys s ms past)

  past_certified : (s : State) (c : StableCheckpoint) → s.low < c.number → Past me n s.low s.log → Past me n c.number (certified s.log c)
  past_certified s c above past = past_each c.number (kept_after c.number c.digest s.log) (checkpoints_in c) (past_raised s.low c.number c.digest s.log (omega (arith, above)) past)

  past_installed : (s : State) (c : StableCheckpoint) → Past me n s.low s.log → Past me n (installed s c).now.low (installed s c).now.log
  past_installed s c past = cond_both (nat_lt s.low c.number) (certified s.log c) s.log (Past me n (max s.low c.number))
      (λ e. past_up c.number (max s.low c.number) (certified s.log c) (omega arith) (past_certified s c (ltb-true s.low c.number e) past))
      (λ _. past_up s.low (max s.low c.number) s.log (omega arith) past)

  past_call : (s : State) (call : Call) → Past me n s.low s.log → Past me n (outcome s call).now.low (outcome s call).now.log
  past_call s (Takes keys m) past = either_way (λ o. Past me n o.now.low o.now.log) (refusal keys s m) s (accepted keys s m)
      (λ none. past_accepted keys s m (passed (is_authentic keys s m) BadAuthenticator (place_refusal s (header m)) none).1 past) past
  past_call s (Proposes keys batch) past = either_way (λ o. Past me n o.now.low o.now.log) (proposal_refusal s) s (proposed keys s batch)
      (λ _. past_more s.low (s.log ++ proposal keys s batch ∷ []) (proposal_commits keys s batch) (past_more s.low s.log (proposal keys s batch ∷ []) past)) past
  past_call s Executes past = elim (next_order s) as (λ o. Past me n (execution s o).now.low (execution s o).now.log) [ None ↦ past | Some m ↦ past ]
  past_call s (Checkpoints keys number d) past = either_way (λ o. Past me n o.now.low o.now.log) (checkpoint_refusal s number) s (checkpointed keys s number d)
      (λ none.
      let within = (passed (is_between s number && nat_le number most_number) OutsideMarks _ none).0 in
      let above = between s number (and_parts (is_between s number) (nat_le number most_number) within).0 in
      past_settled (with_message s (checkpoint keys s number d)) (header (checkpoint keys s number d)) above (past_more s.low s.log (checkpoint keys s number d ∷ []) past)) past
  past_call s (Installs keys c) past = either_way (λ o. Past me n o.now.low o.now.log) (install_refusal keys s c) s (installed s c) (λ _. past_installed s c past) past
  past_call s (Leaves view) past = either_way (λ o. Past me n o.now.low o.now.log) (leaving_refusal s view) s (left s view) (λ _. past) past
  past_call s (Enters keys view stable handed) past = either_way (λ o. Past me n o.now.low o.now.log) (entering_refusal s view) s (entered keys s view stable handed)
      (λ _. past_over keys (opened (raised keys s stable) view (number_of stable) handed) (as_proposals handed)
      (raised_either (λ (u : State). Past me n u.low u.log) keys s stable (λ c _ above _. past_certified s c above past) past)) past

-- its own CHECKPOINT is of a number that was not past, and is then
pub tells_next : (s : State) (number : ℕ) → checkpoint_refusal s number ≡ None → Past s.me number s.low s.log → ⊥
tells_next s number none past =
    let first = passed (is_between s number && nat_le number most_number) OutsideMarks _ none in
    let above = between s.me number s number (and_parts (is_between s number) (nat_le number most_number) first.0).0 in
    let free = (not_hit (has_slot (headers s.log) 5 s.me 0 number) AlreadyHave None first.1).0 in
    elim past [ inl le ↦ absurd (omega (arith, le, above)) | inr there ↦ absurd cc ]

pub tells_past : (keys : Keys) (s : State) (number : ℕ) (d : List ℕ) → checkpoint_refusal s number ≡ None
    → (number ≤ most_number) × Past s.me number (checkpointed keys s number d).now.low (checkpointed keys s number d).now.log
tells_past keys s number d none =
    let own = checkpoint keys s number d in
    let within = and_parts (is_between s number) (nat_le number most_number) (passed (is_between s number && nat_le number most_number) OutsideMarks _ none).0 in
    let above = between s.me number s number within.0 in
    let itself : is_slot 5 s.me 0 number (header own) ≡ true = and_from (s.me == s.me) ((0 == 0) && (number == number)) (eq-eqb s.me s.me refl) (eq-eqb number number refl) in
    let there : has_slot (headers (s.log ++ own ∷ [])) 5 s.me 0 number ≡ true = any_both (is_slot 5 s.me 0 number) s.log (own ∷ [])
    ∙ or_right (has_slot (headers s.log) 5 s.me 0 number) (has_slot (headers (own ∷ [])) 5 s.me 0 number) (or_left (is_slot 5 s.me 0 number (header own)) false itself) in
    (leb-true number most_number within.1, past_settled s.me number (with_message s own) (header own) above (inr there))

-- Views ---------------------------------------------------------------------------------------------------------------------

-- and a view below 2^63 stays so
abbrev Rise : State → State → Type 0
Rise s t = (s.view ≤ t.view) × (max s.view s.asked ≤ max t.view t.asked) × (s.view ≤ most_number → t.view ≤ most_number)

pub left_above : (s : State) (view : ℕ) → leaving_refusal s view ≡ None → max s.view s.asked < view
left_above s view none = ltb-true (max s.view s.asked) view (and_parts (nat_lt (max s.view s.asked) view) (nat_le view most_number) (passed _ WrongView None none).0).0

pub view_entered : (keys : Keys) (s : State) (view : ℕ) (stable : Option StableCheckpoint) (handed : List (Signed model.PrePrepare)) → (entered keys s view stable handed).now.view ≡ view
view_entered keys s view stable handed = entered_same (λ (u : State). u.view) (λ u low log. refl) keys s view stable handed

still : (s : State) → Rise s s
still s = (omega arith, omega arith, λ most. most)

rises : (s : State) (call : Call) → Rise s (outcome s call).now
rises s (Takes keys m) = either_way (λ o. Rise s o.now) (refusal keys s m) s (accepted keys s m) (λ _. still s) (still s)
rises s (Proposes keys batch) = either_way (λ o. Rise s o.now) (proposal_refusal s) s (proposed keys s batch) (λ _. still s) (still s)
rises s Executes = elim (next_order s) as (λ o. Rise s (execution s o).now) [ None ↦ still s | Some m ↦ still s ]
rises s (Checkpoints keys number d) = either_way (λ o. Rise s o.now) (checkpoint_refusal s number) s (checkpointed keys s number d) (λ _. still s) (still s)
rises s (Installs keys c) = either_way (λ o. Rise s o.now) (install_refusal keys s c) s (installed s c) (λ _. still s) (still s)
rises s (Leaves view) = either_way (λ o. Rise s o.now) (leaving_refusal s view) s (left s view) (λ none. let above = left_above s view none in (omega arith, omega (arith, above), λ most. most)) (still s)
rises s (Enters keys view stable handed) = either_way (λ o. Rise s o.now) (entering_refusal s view) s (entered keys s view stable handed)
    (λ none.
    let a = and_parts (nat_lt s.view view) (nat_le s.asked view && nat_le view most_number) (passed _ WrongView None none).0 in
    let b = and_parts (nat_le s.asked view) (nat_le view most_number) a.1 in
    let above = ltb-true s.view view a.0 in
    let asked = leb-true s.asked view b.0 in
    let within = leb-true view most_number b.1 in
    let is = view_entered keys s view stable handed in
    (omega (arith, above, is), omega (arith, above, asked, is), λ _. omega (arith, within, is))) (still s)

pub view_stays : (s : State) (call : Call) → s.view ≤ most_number → (outcome s call).now.view ≤ most_number
view_stays s call = (rises s call).2

-- All places ----------------------------------------------------------------------------------------------------------------

-- nothing is said of votes here; the number of a CHECKPOINT is below 2^63
abbrev pub IsSpent : State → Place → Type 0
IsSpent s (Vote view number) = Unit {0}
IsSpent s (Checkpoint number) = (number ≤ most_number) × Past s.me number s.low s.log
IsSpent s (ViewChange view) = view ≤ max s.view s.asked
IsSpent s (NewView view) = view ≤ s.view

pub spent_on : CallsKeepTheReplica → (place : Place) (s : State) (call : Call) → IsSpent s place → IsSpent (outcome s call).now place
spent_on same (Vote view number) s call spent = tt
spent_on same (Checkpoint number) s call spent =
    let now = (outcome s call).now in
    (spent.0, subst (λ (me : ℕ). Past me number now.low now.log) (sym (same s call).1) (past_call s.me number s call spent.1))
spent_on same (ViewChange view) s call spent = let up = (rises s call).1 in omega (arith, up, spent)
spent_on same (NewView view) s call spent = let up = (rises s call).0 in omega (arith, up, spent)
