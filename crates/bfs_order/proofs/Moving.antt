-- Each call on the order of a replica is made of five small changes, so what these keep, calls keep.
use Rattle.std.proofs.Common.{◌≡◌, ◌⊎◌, inl, inr, ℕ, ◌+◌, ◌<◌, ◌≤◌, max, Bool, true, false, cond, eqb, ltb, leb, ◌&&◌, not, List, [], ◌∷◌, ◌++◌, refl, sym, subst, ◌∙◌, append_assoc, arith}
use Rattle.std.specs.Prelude.{Option, Some, None, All}
use Rattle.std.proofs.lemmas.Bool.{and_parts, and_from, or_parts, or_cases, eqb-true, eq-eqb, ltb-true, ltb-false, leb-true, not-false, false_from_ne_true}
use Rattle.std.proofs.lemmas.List.{append-nil}
use Rattle.std.proofs.lemmas.List.Elements.{All-head, All-tail}
use Rattle.bfs_auth.specs.Keys.{Keys}
use Rattle.bfs_votes.specs.Votes.{Header, is_slot, has_slot, is_taken, told, Told, primary, prepared, is_stable}
use Rattle.bfs_log.specs.Headers.{header, message_header}
use Rattle.bfs_log.specs.Logs.{Log, headers, kept_after, greatest_proposed}
use Rattle.bfs_messages.specs.Messages as model
use Rattle.bfs_messages.specs.Messages.{Batch}
use Rattle.bfs_messages.specs.declared.signed.Signed.{Signed}
use Rattle.bfs_messages.specs.declared.order_messages.OrderMessage.{OrderMessage}
use Rattle.bfs_messages.specs.declared.order_messages.OrderMessage.TheVariants.{PrePrepare, Prepare, Commit, Checkpoint}
use Rattle.bfs_order.specs.Replica.Accepting.{makes_stable, settled, answers, accepted, on_message}
use Rattle.bfs_order.specs.Replica.Answers.{said_once, own_vote, prepares_in, commits_in, votes_in, answers_in}
use Rattle.bfs_messages.specs.Signing.{as_message, order_signed_by}
use Rattle.bfs_order.specs.Replica.Checkpoints.{checkpoint_refusal, checkpoint, checkpointed}
use Rattle.bfs_order.specs.Replica.Executing.{next_order}
use Rattle.bfs_log.specs.Certificates.{StableCheckpoint, checkpoints_in, is_shown}
use Rattle.bfs_order.specs.Replica.Installing.{certified, install_refusal, installed, raised}
use Rattle.bfs_order.specs.Replica.Outcomes.{Outcome, quiet, unless}
use Rattle.bfs_order.specs.Replica.Proposing.{next_number, leads, proposal_refusal, proposal, proposal_commits, proposed, batch_digest}
use Rattle.bfs_order.specs.Replica.Refusals.{is_between, is_inside, is_of_view, is_there, conflicts, is_authentic, place_refusal, refusal}
use Rattle.bfs_order.specs.Replica.States.{State, known, with_more, with_message}
use Rattle.bfs_order.specs.Replica.Views.{leaving_refusal, left, entering_refusal, number_of, opened, as_proposals, taken_over, all_taken_over, entered}
use Rattle.bfs_order.specs.Laws.Calls.{Call, Takes, Proposes, Executes, Checkpoints, Installs, Leaves, Enters, execution, outcome}
use Rattle.bfs_order.specs.declared.error.OrderError.{OrderError}
use Rattle.bfs_order.proofs.Raising.{raised_either, raised_same}
use Rattle.bfs_order.proofs.Telling.{slot_is, told_left, told_right, is_one}
use Rattle.bfs_model.specs.Server.Limits.{log_size}

-- a message may go into a log
pub record CanTake (f view low : ℕ) (log : Log) (m : Signed OrderMessage) : Type 0 where
  pub free : is_taken (headers log) (header m) ≡ false
  pub above : low < (header m).number
  pub to : (header m).number ≤ low + log_size
  pub led : (header m).tag ≡ 2 → (header m).sender ≡ primary f (header m).view
  pub of_view : (header m).tag < 5 → (header m).view ≡ view

-- a message of its own, of a PRE-PREPARE unless it is a CHECKPOINT
pub record IsOwn (f me : ℕ) (log : Log) (m : Signed OrderMessage) : Type 0 where
  pub mine : (header m).sender ≡ me
  pub backed : (header m).tag < 5 → Told (headers (log ++ m ∷ [])) 2 (primary f (header m).view) (header m).view (header m).number (header m).digest

abbrev pub Fact : Type 1
Fact = (f me view low : ℕ) → (log sent : Log) → Type 0

-- the small changes: a message is taken, one is sent, a checkpoint becomes stable, one is installed, a later view is entered
pub record Moves (Good : Signed OrderMessage → Type 0) (P : Fact) : Type 0 where
  pub take : (f me view low : ℕ) (log sent : Log) (m : Signed OrderMessage) → P f me view low log sent → CanTake f view low log m → Good m → P f me view low (log ++ m ∷ []) sent
  pub say : (f me view low : ℕ) (log sent : Log) (m : Signed OrderMessage) → P f me view low log sent → CanTake f view low log m → IsOwn f me log m → Good m → P f me view low (log ++ m ∷ []) (sent ++ m ∷ [])
  pub settle : (f me view low : ℕ) (log sent : Log) (number : ℕ) (digest : List ℕ) → P f me view low log sent → low < number → is_stable f (headers log) number digest ≡ true
      → P f me view number (kept_after number digest log) sent
  pub install : (keys : Keys) (f me view low : ℕ) (log sent : Log) (c : StableCheckpoint) → P f me view low log sent → low < c.number → is_shown keys f c ≡ true → All Good (checkpoints_in c)
      → P f me view c.number (certified log c) sent
  pub enter : (f me view later low : ℕ) (log sent : Log) → P f me view low log sent → view < later → P f me later low log sent

-- what a replica says by its keys is good
pub record Speaks (Good : Signed OrderMessage → Type 0) (keys : Keys) (f me : ℕ) : Type 0 where
  pub prepare : (v n : ℕ) (d : List ℕ) → eqb me (primary f v) ≡ false → Good (order_signed_by keys (Prepare (record { sender = me; view = v; number = n; digest = d })))
  pub commit : (v n : ℕ) (d : List ℕ) → Good (order_signed_by keys (Commit (record { sender = me; view = v; number = n; digest = d })))
  pub checkpoint : (n : ℕ) (d : List ℕ) → Good (order_signed_by keys (Checkpoint (record { sender = me; number = n; digest = d })))

-- a PRE-PREPARE that is handed over, of its view's primary, is good
abbrev pub Handed : (Good : Signed OrderMessage → Type 0) → (f : ℕ) → Signed OrderMessage → Type 0
Handed Good f m = (header m).tag ≡ 2 → (header m).sender ≡ primary f (header m).view → Good m

-- the CHECKPOINTs of a certificate, where it is shown
abbrev pub Shown : (Good : Signed OrderMessage → Type 0) → Keys → State → Option StableCheckpoint → Type 0
Shown Good keys s None = Unit {0}
Shown Good keys s (Some c) = is_shown keys s.f c ≡ true → All Good (checkpoints_in c)

-- what a call lets in is good
abbrev pub Fits : (Good : Signed OrderMessage → Type 0) → State → Call → Type 0
Fits Good s (Takes keys m) = (refusal keys s m ≡ None → Good m) × Speaks Good keys s.f s.me
Fits Good s (Proposes keys batch) = (proposal_refusal s ≡ None → Good (proposal keys s batch)) × Speaks Good keys s.f s.me
Fits Good s Executes = Unit {0}
Fits Good s (Checkpoints keys n d) = Speaks Good keys s.f s.me
Fits Good s (Installs keys c) = is_shown keys s.f c ≡ true → All Good (checkpoints_in c)
Fits Good s (Leaves v) = Unit {0}
Fits Good s (Enters keys v stable ps) = All (Handed Good s.f) (as_proposals ps) × Speaks Good keys s.f s.me × Shown Good keys s stable

-- Tests passed ------------------------------------------------------------------------------------------------------------

pub passed : {A : Type 0} (b : Bool) (x : A) (r : Option A) → cond b (Some x) r ≡ None → (b ≡ false) × (r ≡ None)
passed true x r e = absurd cc
passed false x r e = (refl, e)

led_by : (a b : Bool) → (a && not b) ≡ false → a ≡ true → b ≡ true
led_by true true e is = refl
led_by true false e is = absurd cc
led_by false b e is = absurd cc

pub between : (s : State) (n : ℕ) → is_between s n ≡ true → (s.low < n) × (n ≤ s.low + log_size)
between s n e =
    let parts = and_parts (ltb s.low n) (leb n (s.low + log_size)) e in
    (ltb-true s.low n parts.0, leb-true n (s.low + log_size) parts.1)

viewed : (s : State) (h : Header) → is_of_view s h ≡ true → h.tag < 5 → h.view ≡ s.view
viewed s h e small = go (or_cases (eqb h.tag 5) (eqb h.view s.view && leb s.asked s.view) e)
  where
    go : (eqb h.tag 5 ≡ true) ⊎ ((eqb h.view s.view && leb s.asked s.view) ≡ true) → h.view ≡ s.view
    go (inl five) = absurd (omega (arith, small, eqb-true h.tag 5 five))
    go (inr both) = eqb-true h.view s.view (and_parts (eqb h.view s.view) (leb s.asked s.view) both).0

pub placed : (s : State) (m : Signed OrderMessage) → place_refusal s (header m) ≡ None → CanTake s.f s.view s.low s.log m
placed s m e =
    let h = header m in
    let p1 = passed (not (is_of_view s h)) _ _ e in
    let p2 = passed (not (is_inside s h)) _ _ p1.1 in
    let p3 = passed (eqb h.tag 2 && not (eqb h.sender (primary s.f h.view))) _ _ p2.1 in
    let p4 = passed (conflicts s h) _ _ p3.1 in
    let p5 = passed (is_there s h) _ _ p4.1 in
    let inside = and_parts (is_between s h.number) _ (not-false (is_inside s h) p2.0) in
    let marks = between s h.number inside.0 in
    record {
      free = p5.0;
      above = marks.0;
      to = marks.1;
      of_view = viewed s h (not-false (is_of_view s h) p1.0);
      led = λ two. eqb-true h.sender (primary s.f h.view) (led_by (eqb h.tag 2) (eqb h.sender (primary s.f h.view)) p3.0 (eq-eqb h.tag 2 two));
    }

-- no PREPARE of the primary is let in
pub only_backups : (s : State) (h : Header) → place_refusal s h ≡ None → h.tag ≡ 3 → h.sender ≡ primary s.f h.view → ⊥
only_backups s h e three same =
    let p1 = passed (not (is_of_view s h)) _ _ e in
    let p2 = passed (not (is_inside s h)) _ _ p1.1 in
    let p3 = passed (eqb h.tag 2 && not (eqb h.sender (primary s.f h.view))) _ _ p2.1 in
    let p4 = passed (conflicts s h) _ _ p3.1 in
    let parts = or_parts (eqb h.tag 3 && eqb h.sender (primary s.f h.view)) _ p4.0 in
    let both = and_from (eqb h.tag 3) (eqb h.sender (primary s.f h.view)) (eq-eqb h.tag 3 three) (eq-eqb h.sender (primary s.f h.view) same) in
    absurd (cc (parts.0, both))

later_view : (s : State) (v : ℕ) → entering_refusal s v ≡ None → s.view < v
later_view s v none = ltb-true s.view v (and_parts (ltb s.view v) _ (not-false _ (passed (not (ltb s.view v && _)) _ _ none).0)).0

pub leading : (s : State) → proposal_refusal s ≡ None → s.me ≡ primary s.f s.view
leading s none = eqb-true s.me (primary s.f s.view) (and_parts (eqb s.me (primary s.f s.view)) _ (not-false (leads s) (passed (not (leads s)) _ _ none).0)).0

pub unrefused : (keys : Keys) (s : State) (m : Signed OrderMessage) → refusal keys s m ≡ None
    → (is_authentic keys s m ≡ true) × (place_refusal s (header m) ≡ None)
unrefused keys s m none =
    let p = passed (not (is_authentic keys s m)) _ _ none in
    (not-false (is_authentic keys s m) p.0, p.1)

below_greatest : (hs : List Header) (k v n : ℕ) → has_slot hs 2 k v n ≡ true → n ≤ greatest_proposed v hs
below_greatest [] k v n e = absurd cc
below_greatest (h ∷ hs) k v n e = go (below_greatest hs k v n) (or_cases (is_slot 2 k v n h) (has_slot hs 2 k v n) e)
  where
    rest : (b : Bool) → n ≤ greatest_proposed v hs → n ≤ cond b (max h.number (greatest_proposed v hs)) (greatest_proposed v hs)
    rest true le = omega (arith, le)
    rest false le = le

    here : (t w : Bool) → t ≡ true → w ≡ true → h.number ≡ n → n ≤ cond (t && w) (max h.number (greatest_proposed v hs)) (greatest_proposed v hs)
    here true true a b same = omega (arith, same)
    here true false a b same = absurd cc
    here false w a b same = absurd cc

    go : (has_slot hs 2 k v n ≡ true → n ≤ greatest_proposed v hs) → (is_slot 2 k v n h ≡ true) ⊎ (has_slot hs 2 k v n ≡ true) → n ≤ greatest_proposed v (h ∷ hs)
    go later (inl is) = let i = slot_is h 2 k v n is in here (eqb h.tag 2) (eqb h.view v) (eq-eqb h.tag 2 i.tag) (eq-eqb h.view v i.view) i.number
    go later (inr there) = rest (eqb h.tag 2 && eqb h.view v) (later there)

-- Calls -------------------------------------------------------------------------------------------------------------------

module _ (Good : Signed OrderMessage → Type 0) (P : Fact) (moves : Moves Good P) where
  abbrev pub Keeps : State → Log → Type 0
  Keeps s sent = P s.f s.me s.view s.low s.log sent

  -- with some messages more in the log, which are sent
  abbrev More : State → (sent more : Log) → Type 0
  More s sent more = P s.f s.me s.view s.low (s.log ++ more) (sent ++ more)

  pub record Goes (s : State) (sent : Log) (o : Outcome) : Type 0 where
    pub same_f : o.now.f ≡ s.f
    pub same_me : o.now.me ≡ s.me
    pub kept : Keeps o.now (sent ++ o.sent)

  none_more : (s : State) (sent : Log) → Keeps s sent → More s sent []
  none_more s sent kept =
      subst (λ (l : Log). P s.f s.me s.view s.low l (sent ++ [])) (sym (append-nil s.log)) (subst (λ (l : Log). P s.f s.me s.view s.low s.log l) (sym (append-nil sent)) kept)

  quiet_goes : (s now : State) (sent : Log) → now.f ≡ s.f → now.me ≡ s.me → Keeps now sent → Goes s sent (quiet now)
  quiet_goes s now sent same_f same_me kept = record { same_f = same_f; same_me = same_me; kept = subst (λ (l : Log). P now.f now.me now.view now.low now.log l) (sym (append-nil sent)) kept }

  unless_goes : (s : State) (sent : Log) (r : Option OrderError) (o : Outcome) → Keeps s sent → (r ≡ None → Goes s sent o) → Goes s sent (unless r s o)
  unless_goes s sent None o kept goes = goes refl
  unless_goes s sent (Some e) o kept goes = quiet_goes s s sent refl refl kept

  said_more : (keys : Keys) (s : State) (sent : Log) (m : OrderMessage) → Keeps s sent → ((message_header m).tag ≡ 2 → ⊥)
      → s.low < (message_header m).number → (message_header m).number ≤ s.low + log_size → (message_header m).sender ≡ s.me → (message_header m).view ≡ s.view
      → Told (known s) 2 (primary s.f (message_header m).view) (message_header m).view (message_header m).number (message_header m).digest
      → Good (order_signed_by keys m) → More s sent (said_once keys s m)
  said_more keys s sent m kept other above to mine of_view backed good = go (is_there s (message_header m)) refl
    where
      go : (b : Bool) → is_there s (message_header m) ≡ b → More s sent (cond b [] (order_signed_by keys m ∷ []))
      go true is = none_more s sent kept
      go false is =
          moves.say s.f s.me s.view s.low s.log sent (order_signed_by keys m) kept
          (record { free = is; above = above; to = to; led = λ two. absurd (other two); of_view = λ small. of_view })
          (record { mine = mine; backed = λ _. told_left s.log (order_signed_by keys m ∷ []) _ _ _ _ _ backed }) good

  prepares_more : (keys : Keys) (s : State) (sent : Log) (v n : ℕ) (d : List ℕ) → v ≡ s.view → Speaks Good keys s.f s.me → Keeps s sent → s.low < n → n ≤ s.low + log_size
      → Told (known s) 2 (primary s.f v) v n d → More s sent (prepares_in keys s v n d)
  prepares_more keys s sent v n d here speaks kept above to backed = go (eqb s.me (primary s.f v)) refl
    where
      go : (b : Bool) → eqb s.me (primary s.f v) ≡ b → More s sent (cond b [] (said_once keys s (Prepare (own_vote s v n d))))
      go true is = none_more s sent kept
      go false is = said_more keys s sent (Prepare (own_vote s v n d)) kept (λ two. absurd (omega (arith, two))) above to refl here backed (speaks.prepare v n d is)

  commits_more : (keys : Keys) (s : State) (sent : Log) (v n : ℕ) (d : List ℕ) → v ≡ s.view → Speaks Good keys s.f s.me → Keeps s sent → s.low < n → n ≤ s.low + log_size
      → More s sent (commits_in keys s v n d)
  commits_more keys s sent v n d here speaks kept above to = go (prepared s.f s.me (known s) v n d) refl
    where
      go : (b : Bool) → prepared s.f s.me (known s) v n d ≡ b → More s sent (cond b (said_once keys s (Commit (own_vote s v n d))) [])
      go true is = said_more keys s sent (Commit (own_vote s v n d)) kept (λ two. absurd (omega (arith, two))) above to refl here (and_parts (told (known s) 2 (primary s.f v) v n d) _ (and_parts _ _ is).0).0 (speaks.commit v n d)
      go false is = none_more s sent kept

  regrouped : (s : State) (sent p c : Log) → P s.f s.me s.view s.low ((s.log ++ p) ++ c) ((sent ++ p) ++ c) → More s sent (p ++ c)
  regrouped s sent p c kept =
      subst (λ (l : Log). P s.f s.me s.view s.low l (sent ++ (p ++ c))) (append_assoc s.log p c) (subst (λ (l : Log). P s.f s.me s.view s.low ((s.log ++ p) ++ c) l) (append_assoc sent p c) kept)

  votes_more : (keys : Keys) (s : State) (sent : Log) (v n : ℕ) (d : List ℕ) → v ≡ s.view → Speaks Good keys s.f s.me → Keeps s sent → s.low < n → n ≤ s.low + log_size
      → Told (known s) 2 (primary s.f v) v n d → More s sent (votes_in keys s v n d)
  votes_more keys s sent v n d here speaks kept above to backed =
      let p = prepares_in keys s v n d in
      regrouped s sent p (commits_in keys (with_more s p) v n d)
      (commits_more keys (with_more s p) (sent ++ p) v n d here speaks (prepares_more keys s sent v n d here speaks kept above to backed) above to)

  answers_more : (keys : Keys) (s : State) (sent : Log) (h : Header) → (h.tag < 5 → h.view ≡ s.view) → Speaks Good keys s.f s.me → Keeps s sent → s.low < h.number → h.number ≤ s.low + log_size
      → (h.tag ≡ 2 → Told (known s) 2 (primary s.f h.view) h.view h.number h.digest) → More s sent (answers_in keys s h)
  answers_more keys s sent h of_view speaks kept above to backed = go (eqb h.tag 2) (eqb h.tag 3) refl refl (λ is. backed (eqb-true h.tag 2 is))
    where
      go : (b c : Bool) → eqb h.tag 2 ≡ b → eqb h.tag 3 ≡ c → (b ≡ true → Told (known s) 2 (primary s.f h.view) h.view h.number h.digest)
          → More s sent (cond b (votes_in keys s h.view h.number h.digest) (cond c (commits_in keys s h.view h.number h.digest) []))
      go true c two three told_so = votes_more keys s sent h.view h.number h.digest (of_view (omega (arith, eqb-true h.tag 2 two))) speaks kept above to (told_so refl)
      go false true two three told_so = commits_more keys s sent h.view h.number h.digest (of_view (omega (arith, eqb-true h.tag 3 three))) speaks kept above to
      go false false two three told_so = none_more s sent kept

  settled_more : (s : State) (sent : Log) (h : Header) → Keeps s sent → s.low < h.number → Keeps (settled s h) sent
  settled_more s sent h kept above = go (makes_stable s h) refl
    where
      go : (b : Bool) → makes_stable s h ≡ b → P s.f s.me s.view (cond b h.number s.low) (cond b (kept_after h.number h.digest s.log) s.log) sent
      go true is = moves.settle s.f s.me s.view s.low s.log sent h.number h.digest kept above (and_parts (eqb h.tag 5) _ is).1
      go false is = kept

  accepted_goes : (keys : Keys) (s : State) (sent : Log) (m : Signed OrderMessage) → Speaks Good keys s.f s.me → Keeps s sent → CanTake s.f s.view s.low s.log m → Good m → Goes s sent (accepted keys s m)
  accepted_goes keys s sent m speaks kept can good =
      let h = header m in
      let backed : h.tag ≡ 2 → Told (headers (s.log ++ m ∷ [])) 2 (primary s.f h.view) h.view h.number h.digest =
      λ (two : h.tag ≡ 2). told_right s.log (m ∷ []) _ _ _ _ _ (is_one m 2 (primary s.f h.view) h.view h.number h.digest
      (record { tag = two; sender = can.led two; view = refl; number = refl; digest = refl })) in
      let taken = moves.take s.f s.me s.view s.low s.log sent m kept can good in
      let said = answers_more keys (with_message s m) sent h can.of_view speaks taken can.above can.to backed in
      record { same_f = refl; same_me = refl; kept = settled_more (with_more (with_message s m) (answers keys s m)) (sent ++ answers keys s m) h said can.above }

  message_goes : (keys : Keys) (s : State) (sent : Log) (m : Signed OrderMessage) → Speaks Good keys s.f s.me → Keeps s sent → (refusal keys s m ≡ None → Good m) → Goes s sent (on_message keys s m)
  message_goes keys s sent m speaks kept good = unless_goes s sent (refusal keys s m) (accepted keys s m) kept (λ none.
      let free = unrefused keys s m none in
      accepted_goes keys s sent m speaks kept (placed s m free.1) (good none))

  proposal_goes : (keys : Keys) (s : State) (sent : Log) (batch : Batch) → Speaks Good keys s.f s.me → Keeps s sent → Good (proposal keys s batch) → proposal_refusal s ≡ None → Goes s sent (proposed keys s batch)
  proposal_goes keys s sent batch speaks kept good none = record { same_f = refl; same_me = refl; kept = both }
    where
      mine : s.me ≡ primary s.f s.view
      mine = leading s none

      above : s.low < next_number s
      above = omega arith

      to : next_number s ≤ s.low + log_size
      to = leb-true (next_number s) (s.low + log_size) (and_parts (leb (next_number s) (s.low + log_size)) _ (not-false _ (passed _ _ _ (passed (not (leads s)) _ _ none).1).0)).0

      free : is_taken (known s) (header (proposal keys s batch)) ≡ false
      free = false_from_ne_true (has_slot (known s) 2 s.me s.view (next_number s)) (λ taken. absurd (omega (arith, below_greatest (known s) s.me s.view (next_number s) taken)))

      said : P s.f s.me s.view s.low (s.log ++ proposal keys s batch ∷ []) (sent ++ proposal keys s batch ∷ [])
      said = moves.say s.f s.me s.view s.low s.log sent (proposal keys s batch) kept (record { free = free; above = above; to = to; led = λ _. mine; of_view = λ _. refl })
          (record {
            mine = refl;
            backed = λ _. told_right s.log (proposal keys s batch ∷ []) _ _ _ _ _ (is_one (proposal keys s batch) 2 (primary s.f s.view) s.view (next_number s) (batch_digest batch)
                (record { tag = refl; sender = mine; view = refl; number = refl; digest = refl }));
          }) good

      commits : (b : Bool) → More (with_message s (proposal keys s batch)) (sent ++ proposal keys s batch ∷ [])
          (cond b (commits_in keys (with_message s (proposal keys s batch)) s.view (next_number s) (batch_digest batch)) [])
      commits true = commits_more keys (with_message s (proposal keys s batch)) (sent ++ proposal keys s batch ∷ []) s.view (next_number s) (batch_digest batch) refl speaks said above to
      commits false = none_more (with_message s (proposal keys s batch)) (sent ++ proposal keys s batch ∷ []) said

      both : P s.f s.me s.view s.low ((s.log ++ proposal keys s batch ∷ []) ++ proposal_commits keys s batch) (sent ++ (proposal keys s batch ∷ proposal_commits keys s batch))
      both = subst (λ (l : Log). P s.f s.me s.view s.low ((s.log ++ proposal keys s batch ∷ []) ++ proposal_commits keys s batch) l)
          (append_assoc sent (proposal keys s batch ∷ []) (proposal_commits keys s batch)) (commits (eqb s.f 0))

  checkpoint_goes : (keys : Keys) (s : State) (sent : Log) (n : ℕ) (d : List ℕ) → Speaks Good keys s.f s.me → Keeps s sent → checkpoint_refusal s n ≡ None → Goes s sent (checkpointed keys s n d)
  checkpoint_goes keys s sent n d speaks kept none =
      let p1 = passed (not (is_between s n && _)) _ _ none in
      let p2 = passed (has_slot (known s) 5 s.me 0 n) _ _ p1.1 in
      let marks = between s n (and_parts (is_between s n) _ (not-false _ p1.0)).0 in
      let m = checkpoint keys s n d in
      let said = moves.say s.f s.me s.view s.low s.log sent m kept (record { free = p2.0; above = marks.0; to = marks.1; led = λ two. absurd (omega (arith, two)); of_view = λ lt. absurd (omega (arith, lt)) })
      (record { mine = refl; backed = λ lt. absurd (omega (arith, lt)) }) (speaks.checkpoint n d) in
      record { same_f = refl; same_me = refl; kept = settled_more (with_message s m) (sent ++ m ∷ []) (header m) said marks.0 }

  install_goes : (keys : Keys) (s : State) (sent : Log) (c : StableCheckpoint) → Keeps s sent → (is_shown keys s.f c ≡ true → All Good (checkpoints_in c)) → install_refusal keys s c ≡ None → Goes s sent (installed s c)
  install_goes keys s sent c kept good none = quiet_goes s (installed s c).now sent refl refl (go (ltb s.low c.number) refl)
    where
      is : is_shown keys s.f c ≡ true
      is = not-false (is_shown keys s.f c) (passed (not (is_shown keys s.f c)) _ _ none).0

      go : (b : Bool) → ltb s.low c.number ≡ b → P s.f s.me s.view (max s.low c.number) (cond b (certified s.log c) s.log) sent
      go true e =
          let lt : s.low < c.number = ltb-true s.low c.number e in
          let high : c.number ≡ max s.low c.number = omega (arith, lt) in
          subst (λ (low : ℕ). P s.f s.me s.view low (certified s.log c) sent) high (moves.install keys s.f s.me s.view s.low s.log sent c kept lt is (good is))
      go false e =
          let le : c.number ≤ s.low = ltb-false s.low c.number e in
          let same : s.low ≡ max s.low c.number = omega (arith, le) in
          subst (λ (low : ℕ). P s.f s.me s.view low s.log sent) same kept

  raised_keeps : (keys : Keys) (s : State) (sent : Log) (stable : Option StableCheckpoint) → Keeps s sent → Shown Good keys s stable → Keeps (raised keys s stable) sent
  raised_keeps keys s sent stable kept good = raised_either (λ (u : State). Keeps u sent) keys s stable
      (λ c is above shown. moves.install keys s.f s.me s.view s.low s.log sent c kept above shown (subst (Shown Good keys s) is good shown)) kept

  taken_over_goes : (keys : Keys) (s : State) (sent : Log) (p : Signed model.PrePrepare) → Speaks Good keys s.f s.me → Keeps s sent → Handed Good s.f (as_message PrePrepare p)
      → Goes s sent (taken_over keys s (as_message PrePrepare p))
  taken_over_goes keys s sent p speaks kept good = unless_goes s sent (place_refusal s (header m)) (accepted keys s m) kept (λ none.
      let can = placed s m none in
      accepted_goes keys s sent m speaks kept can (good refl (can.led refl)))
    where
      m : Signed OrderMessage
      m = as_message PrePrepare p

  all_taken_goes : (keys : Keys) (s : State) (sent : Log) (ps : List (Signed model.PrePrepare)) → Speaks Good keys s.f s.me → Keeps s sent → All (Handed Good s.f) (as_proposals ps)
      → Goes s sent (all_taken_over keys s (as_proposals ps))
  all_taken_goes keys s sent [] speaks kept good = quiet_goes s s sent refl refl kept
  all_taken_goes keys s sent (p ∷ ps) speaks kept good =
      let m = as_message PrePrepare p in
      let ms = as_proposals ps in
      let first = taken_over keys s m in
      let rest = all_taken_over keys first.now ms in
      let a = taken_over_goes keys s sent p speaks kept (All-head (Handed Good s.f) m ms good) in
      let speaks_on = subst (λ (f : ℕ). Speaks Good keys f first.now.me) (sym a.same_f) (subst (λ (me : ℕ). Speaks Good keys s.f me) (sym a.same_me) speaks) in
      let good_on = subst (λ (f : ℕ). All (Handed Good f) ms) (sym a.same_f) (All-tail (Handed Good s.f) m ms good) in
      let b = all_taken_goes keys first.now (sent ++ first.sent) ps speaks_on a.kept good_on in
      record {
        same_f = b.same_f ∙ a.same_f;
        same_me = b.same_me ∙ a.same_me;
        kept = subst (λ (l : Log). Keeps rest.now l) (append_assoc sent first.sent rest.sent) b.kept;
      }

  execution_goes : (s : State) (sent : Log) (o : Option (Signed OrderMessage)) → Keeps s sent → Goes s sent (execution s o)
  execution_goes s sent None kept = quiet_goes s s sent refl refl kept
  execution_goes s sent (Some m) kept = quiet_goes s (record s { last = s.last + 1 }) sent refl refl kept

  entered_goes : (keys : Keys) (s : State) (sent : Log) (v : ℕ) (stable : Option StableCheckpoint) (ps : List (Signed model.PrePrepare)) → Keeps s sent → Fits Good s (Enters keys v stable ps)
      → s.view < v → Goes s sent (entered keys s v stable ps)
  entered_goes keys s sent v stable ps kept fits later =
      let u = raised keys s stable in
      let same_f = raised_same (λ (x : State). x.f) keys s stable (λ low log. refl) in
      let same_me = raised_same (λ (x : State). x.me) keys s stable (λ low log. refl) in
      let same_view = raised_same (λ (x : State). x.view) keys s stable (λ low log. refl) in
      let speaks = subst (λ (f : ℕ). Speaks Good keys f u.me) (sym same_f) (subst (λ (me : ℕ). Speaks Good keys s.f me) (sym same_me) fits.1) in
      let good = subst (λ (f : ℕ). All (Handed Good f) (as_proposals ps)) (sym same_f) fits.0 in
      let above : u.view < v = omega (arith, later, same_view) in
      let goes = all_taken_goes keys (opened u v (number_of stable) ps) sent ps speaks (moves.enter u.f u.me u.view v u.low u.log sent (raised_keeps keys s sent stable kept fits.2) above) good in
      record { same_f = goes.same_f ∙ same_f; same_me = goes.same_me ∙ same_me; kept = goes.kept }

  pub call_goes : (s : State) (sent : Log) (call : Call) → Keeps s sent → Fits Good s call → Goes s sent (outcome s call)
  call_goes s sent (Takes keys m) kept fits = message_goes keys s sent m fits.1 kept fits.0
  call_goes s sent (Proposes keys batch) kept fits = unless_goes s sent (proposal_refusal s) (proposed keys s batch) kept (λ none. proposal_goes keys s sent batch fits.1 kept (fits.0 none) none)
  call_goes s sent Executes kept fits = execution_goes s sent (next_order s) kept
  call_goes s sent (Checkpoints keys n d) kept fits = unless_goes s sent (checkpoint_refusal s n) (checkpointed keys s n d) kept (checkpoint_goes keys s sent n d fits kept)
  call_goes s sent (Installs keys c) kept fits = unless_goes s sent (install_refusal keys s c) (installed s c) kept (install_goes keys s sent c kept fits)
  call_goes s sent (Leaves v) kept fits = unless_goes s sent (leaving_refusal s v) (left s v) kept (λ none. quiet_goes s (left s v).now sent refl refl kept)
  call_goes s sent (Enters keys v stable ps) kept fits =
      unless_goes s sent (entering_refusal s v) (entered keys s v stable ps) kept (λ none. entered_goes keys s sent v stable ps kept fits (later_view s v none))
