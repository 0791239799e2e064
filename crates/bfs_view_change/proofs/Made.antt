-- What a replica says of its log is valid by its own keys, and leaves out nothing that is prepared.
use Rattle.std.proofs.Common.{◌≡◌, ℕ, zero, suc, ◌+◌, ◌*◌, ◌<◌, ◌≤◌, Bool, true, false, cond, ◌&&◌, not, eqb, ltb, leb, List, [], ◌∷◌, length, map, Option, Some, None, refl, sym, ap, subst, ◌∙◌, ⊎_elim, arith}
use Rattle.std.specs.Option.{option_map}
use Rattle.std.specs.List.{All, Contains, cons_option, filter, filter_map, list_all, range_with_len}
use Rattle.std.proofs.lemmas.Bool.{and_parts, and_from, or_from, eqb-true, eqb-false, eq-eqb, leb-true, le-leb, lt-ltb}
use Rattle.std.proofs.lemmas.List.Elements.{All-contains, All-head, All-tail}
use Rattle.std.proofs.lemmas.List.{length-map}
use Rattle.std.proofs.lemmas.List.FromFn.{length-map-range_with_len}
use Rattle.std.proofs.lemmas.Slice.Eq.{bytes_eq-Decides}
use Rattle.bfs_auth.specs.Keys.{Keys, shared_keys}
use Rattle.bfs_auth.specs.Laws.{PassesAtReplicas}
use Rattle.bfs_auth.specs.declared.principals.Principal.TheVariants.{Replica}
use Rattle.bfs_votes.specs.Votes.{is_backed, is_stable, prepared, primary, replicas, says, tellers, told}
use Rattle.bfs_log.specs.Headers.{header}
use Rattle.bfs_log.specs.Logs.{Log}
use Rattle.bfs_messages.specs.Messages as model
use Rattle.bfs_messages.specs.Messages.{PreparedBatch}
use Rattle.bfs_messages.specs.Signing.{as_message, carried_are_signed, is_signed, order_is_signed}
use Rattle.bfs_messages.specs.Spelling.{body_text}
use Rattle.bfs_messages.specs.declared.signed.Signed.{Signed}
use Rattle.bfs_messages.specs.declared.message.Message.TheVariants.{ViewChange}
use Rattle.bfs_messages.specs.declared.order_messages.OrderMessage.{OrderMessage}
use Rattle.bfs_messages.specs.declared.order_messages.OrderMessage.TheVariants.{PrePrepare, Checkpoint}
use Rattle.bfs_order.specs.Laws.Calls.{Call, CallsKeepTheReplica, IsAlways, after, outcome}
use Rattle.bfs_order.specs.Laws.Clean.{IsClean, LogsAreClean, own_keys}
use Rattle.bfs_order.specs.Laws.Logs.{HasCertificate, HasDistinctSlots, HasNoLaterView, IsCertified}
use Rattle.bfs_order.specs.Replica.States.{State, fresh, known}
use Rattle.bfs_log.specs.Certificates.{as_checkpoints, certifies, faults, has_sender, is_all_signed, is_proved, is_shown, matches, number_in, senders_differ, view_in, vouches}
use Rattle.bfs_log.specs.Showing.{backs, certificate_for, certificate_of, checkpoint_in, checkpoints, is_of, is_prepared_for, latest, prepared_among, proposal_in}
use Rattle.bfs_view_change.specs.Changes.Making.{certificates, change_of, signed_change}
use Rattle.bfs_view_change.specs.Changes.ViewChanges.{do_rise, first_digest, has_stable, is_due, valid_view_change}
use Rattle.bfs_view_change.specs.Inside.Near.{IsNear}
use Rattle.bfs_view_change.specs.Laws.Made.{MadeHasPrepared, MadeIsValid, MadeIsValidAfterCalls}
use Rattle.bfs_view_change.proofs.Certified.{again, backed_alike, checkpoint_kind, messages_made, prepares_made, proposal_kind}
use Rattle.bfs_view_change.proofs.Counting.{senders_fit}
use Rattle.bfs_log.proofs.Public.{any_map, backed_by, backups_apart, checkpoints_apart, of_number, passing, says_is}
use Rattle.bfs_view_change.proofs.Latest.{latest_in, latest_is}
use Rattle.bfs_view_change.proofs.Members.{all_from, any_at, any_from, greatest_at_most, in_filter, in_filter_map, in_front, in_map, in_range, of_filter, of_filter_map, of_map, of_range, some_is}
use Rattle.bfs_model.specs.Server.Limits.{log_size}
use Rattle.bfs_votes.proofs.Public.{more_below}

-- Where a certificate comes from -----------------------------------------------------------------------------------------

pub record Made (s : State) (n : ℕ) (c : PreparedBatch) : Type 0 where
  pub proposal : Signed model.PrePrepare
  pub among : Contains s.log (as_message PrePrepare proposal)
  pub is : certificate_of s.f s.log proposal ≡ c
  pub number : proposal.message.vote.number ≡ n
  pub led : eqb proposal.message.vote.sender (primary s.f proposal.message.vote.view) ≡ true
  pub prepared : prepared s.f s.me (known s) proposal.message.vote.view proposal.message.vote.number proposal.message.vote.digest ≡ true

of_option : {A B : Type 0} (g : A → B) (o : Option A) (b : B) → option_map g o ≡ Some b → (x : A) × (o ≡ Some x) × (g x ≡ b)
of_option g None b e = absurd cc
of_option g (Some x) b e = (x, refl, some_is (g x) b e)

made_of : (s : State) (n : ℕ) (c : PreparedBatch) → certificate_for s.f s.me s.log n ≡ Some c → Made s n c
made_of s n c e =
    let test = λ (m : Signed OrderMessage). is_prepared_for s.f s.me s.log n (header m) in
    let from = of_option (certificate_of s.f s.log) (latest (prepared_among s.f s.me s.log n s.log)) c e in
    let at = of_filter_map (λ (m : Signed OrderMessage). proposal_in m.message m.auth) from.0 (filter test s.log) (latest_is (prepared_among s.f s.me s.log n s.log) from.0 from.1) in
    let passed = of_filter test at.0 s.log at.1 in
    let h = header at.0 in
    let a = and_parts (eqb h.tag 2) _ passed.1 in
    let kind = proposal_kind at.0 (eqb-true h.tag 2 a.0) in
    let same : as_message PrePrepare from.0 ≡ at.0 = ap (as_message PrePrepare) (some_is from.0 kind.signed (sym at.2 ∙ kind.is)) ∙ kind.same in
    let tests : test (as_message PrePrepare from.0) ≡ true = subst (λ (m : Signed OrderMessage). test m ≡ true) (sym same) passed.1 in
    let vote = from.0.message.vote in
    let b = and_parts (eqb vote.number n) ((eqb vote.sender (primary s.f vote.view)) && prepared s.f s.me (known s) vote.view vote.number vote.digest) tests in
    let d = and_parts (eqb vote.sender (primary s.f vote.view)) (prepared s.f s.me (known s) vote.view vote.number vote.digest) b.1 in
    record {
      proposal = from.0;
      among = subst (λ (m : Signed OrderMessage). Contains s.log m) (sym same) passed.0;
      is = from.2;
      number = eqb-true vote.number n b.0;
      led = d.0;
      prepared = d.1;
    }

pub in_window : (s : State) (c : PreparedBatch) → Contains (certificates s) c → (n : ℕ) × (s.low < n) × (n ≤ s.low + log_size) × Made s n c
in_window s c h =
    let r = of_filter_map (certificate_for s.f s.me s.log) c (range_with_len (s.low + 1) log_size) h in
    let w = of_range (s.low + 1) log_size r.0 r.1 in
    (r.0, omega (arith, w.0), omega (arith, w.1), made_of s r.0 c r.2)

rises : (g : ℕ → Option PreparedBatch) → ((n : ℕ) (c : PreparedBatch) → g n ≡ Some c → number_in c ≡ n)
    → (low a k : ℕ) → low ≤ a → do_rise low (map number_in (filter_map g (range_with_len (a + 1) k))) ≡ true
rises g is low a zero le = refl
rises g is low a (suc k) le = go (g (a + 1)) refl (λ from h. rises g is from (a + 1) k h)
  where
    go : (o : Option PreparedBatch) → g (a + 1) ≡ o → ((from : ℕ) → from ≤ a + 1 → do_rise from (map number_in (filter_map g (range_with_len (a + 1 + 1) k))) ≡ true)
        → do_rise low (map number_in (cons_option o (filter_map g (range_with_len (a + 1 + 1) k)))) ≡ true
    go None e later = later low (omega (arith, le))
    go (Some c) e later =
        let n : number_in c ≡ a + 1 = is (a + 1) c e in
        and_from (ltb low (number_in c)) (do_rise (number_in c) (map number_in (filter_map g (range_with_len (a + 1 + 1) k)))) (lt-ltb low (number_in c) (omega (arith, le, n))) (later (number_in c) (omega (arith, n)))

no_such_sender : (k : ℕ) (ms : Log) → All (λ m. eqb (header m).sender k ≡ false) ms → has_sender ms k ≡ false
no_such_sender k [] all = refl
no_such_sender k (m ∷ ms) all = or_from (eqb (header m).sender k) (has_sender ms k) (All-head (λ m. eqb (header m).sender k ≡ false) m ms all) (no_such_sender k ms (All-tail (λ m. eqb (header m).sender k ≡ false) m ms all))

first_is : (digest : List ℕ) (cs : List (Signed model.Checkpoint)) → 0 < length cs → ((m : Signed OrderMessage) → Contains (as_checkpoints cs) m → (header m).digest ≡ digest) → first_digest cs ≡ digest
first_is digest [] some each = absurd (omega (arith, some))
first_is digest (c ∷ cs) some each = each (as_message Checkpoint c) (in_front (as_message Checkpoint c) (as_checkpoints cs))

-- Validity -----------------------------------------------------------------------------------------------------------------

module _ (keys : Keys) (s : State) (view : ℕ) (fs : faults keys ≡ s.f) (before : s.view < view)
    (differ : HasDistinctSlots s) (certificate : HasCertificate s) (views : HasNoLaterView s) (clean : All (IsClean keys s.f) s.log) where
  signed_in : (m : Signed OrderMessage) → Contains s.log m → is_all_signed keys m ≡ true
  signed_in m among = let it = All-contains (IsClean keys s.f) s.log m clean among in and_from (order_is_signed keys m) (carried_are_signed keys m.message) it.signed it.carried

  due : (c : PreparedBatch) → Contains (certificates s) c → is_due (change_of s view) c ≡ true
  due c h =
      let w = in_window s c h in
      let number : number_in c ≡ w.0 = ap number_in (sym w.3.is) ∙ w.3.number in
      let seen : view_in c ≡ w.3.proposal.message.vote.view = ap view_in (sym w.3.is) in
      let old : w.3.proposal.message.vote.view ≤ s.view = All-contains (λ h. h.view ≤ s.view) (known s) (header (as_message PrePrepare w.3.proposal)) views (in_map header (as_message PrePrepare w.3.proposal) s.log w.3.among) in
      and_from (leb (number_in c) (s.low + log_size)) (ltb (view_in c) view) (le-leb (number_in c) (s.low + log_size) (omega (arith, number, w.2))) (lt-ltb (view_in c) view (omega (arith, old, before, seen)))

  certified : (n : ℕ) (c : PreparedBatch) → Made s n c → certifies keys c ≡ true
  certified n c made =
      let p = made.proposal in
      let vote = p.message.vote in
      let kept = filter (λ m. backs s.f vote (header m)) s.log in
      let from = λ (m : Signed OrderMessage) (h : Contains kept m). of_filter (λ m. backs s.f vote (header m)) m s.log h in
      let match : list_all (λ m. matches vote (header m)) kept ≡ true =
      all_from (λ m. matches vote (header m)) kept (λ m h. (and_parts (matches vote (header m)) _ (from m h).1).0) in
      let others : has_sender kept vote.sender ≡ false = no_such_sender vote.sender kept (passing (λ m. backs s.f vote (header m)) (λ m. eqb (header m).sender vote.sender ≡ false) (λ m e.
      let b = backed_by s.f vote m e in
      rw (eqb-true vote.sender (primary s.f vote.view) made.led, sym b.at.view) b.backup) s.log) in
      let apart : (not (has_sender kept vote.sender) && senders_differ kept) ≡ true = rw others (backups_apart s.f vote s.log differ) in
      let proved : is_proved (faults keys) (certificate_of s.f s.log p) ≡ true =
      ap (λ f. is_proved f (certificate_of s.f s.log p)) fs ∙ backed_alike s.f s.log p made.among made.led ∙ (and_parts (is_backed s.f (known s) vote.view vote.number vote.digest) _ made.prepared).0 in
      let all_signed : list_all (is_all_signed keys) (as_message PrePrepare p ∷ kept) ≡ true =
      and_from _ _ (signed_in (as_message PrePrepare p) made.among) (all_from (is_all_signed keys) kept (λ m h. signed_in m (from m h).0)) in
      let whole : certifies keys (certificate_of s.f s.log p) ≡ true =
      and_from _ _ (ap (list_all (λ m. matches vote (header m))) (prepares_made s.f s.log p) ∙ match)
      (and_from _ _ (ap senders_differ (messages_made s.f s.log p) ∙ apart)
      (and_from _ _ proved (ap (list_all (is_all_signed keys)) (messages_made s.f s.log p) ∙ all_signed))) in
      subst (λ (x : PreparedBatch). certifies keys x ≡ true) made.is whole

  abbrev kept_low : Log
  kept_low = filter (λ m. is_of s.f s.low (header m)) s.log

  many_told : (digest : List ℕ) → is_stable s.f (known s) s.low digest ≡ true → 2 * s.f + 1 ≤ length kept_low
  many_told digest stable =
      let told_by = λ (k : ℕ). told (known s) 5 k 0 s.low digest in
      let each : (k : ℕ) → k < replicas s.f → told_by k ≡ true → has_sender kept_low k ≡ true = λ k low e.
      (let at = any_at (λ m. says 5 k 0 s.low digest (header m)) s.log (sym (any_map (says 5 k 0 s.low digest) header s.log) ∙ e) in
      let h = header at.0 in
      let is = says_is h 5 k 0 s.low digest at.2 in
      let known_k : ltb h.sender (replicas s.f) ≡ true = lt-ltb h.sender (replicas s.f) (omega (arith, low, is.sender)) in
      let passed = and_from _ _ (eq-eqb h.tag 5 is.tag) (and_from _ _ (eq-eqb h.number s.low is.number) known_k) in
      any_from (λ m. eqb (header m).sender k) at.0 kept_low (in_filter (λ m. is_of s.f s.low (header m)) at.0 s.log at.1 passed) (eq-eqb h.sender k is.sender)) in
      let enough = leb-true (2 * s.f + 1) (tellers s.f (known s) 5 0 s.low digest) stable in
      let count = more_below told_by (has_sender kept_low) (replicas s.f) each in
      let fit = senders_fit kept_low (replicas s.f) in
      omega (arith, enough, count, fit)

  vouched : (digest : List ℕ) → IsCertified s.f (known s) s.low digest → (m : Signed OrderMessage) → Contains kept_low m → ((header m).digest ≡ digest) × (vouches keys s.f s.low digest m ≡ true)
  vouched digest certified_low m h =
      let r = of_filter (λ m. is_of s.f s.low (header m)) m s.log h in
      let it = of_number s.f s.low m r.1 in
      let same = (All-contains (λ h. h.tag ≡ 5 → h.number ≡ s.low → h.digest ≡ digest) (known s) (header m) certified_low.one (in_map header m s.log r.0)) it.at.tag it.at.number in
      let good = All-contains (IsClean keys s.f) s.log m clean r.0 in (
        same,
        and_from _ _ (eq-eqb (header m).tag 5 it.at.tag) (and_from _ _ (eq-eqb (header m).number s.low it.at.number)
            (and_from _ _ ((bytes_eq-Decides (header m).digest digest).1 same) (and_from _ _ (lt-ltb (header m).sender (replicas s.f) it.sender) good.signed))),
      )

  low_again : as_checkpoints (checkpoints kept_low) ≡ kept_low
  low_again = again 5 Checkpoint checkpoint_in checkpoint_kind kept_low (passing (λ m. is_of s.f s.low (header m)) (λ m. (header m).tag ≡ 5) (λ m e. (of_number s.f s.low m e).at.tag) s.log)

  shown : (digest : List ℕ) (cs : List (Signed model.Checkpoint)) → as_checkpoints cs ≡ kept_low → IsCertified s.f (known s) s.low digest
      → is_shown keys (faults keys) (record { number = s.low; digest = first_digest cs; checkpoints = cs }) ≡ true
  shown digest cs again it =
      let many : 2 * s.f + 1 ≤ length cs = omega (arith, many_told digest it.stable, length-map cs (as_message Checkpoint), ap length again) in
      let each = vouched digest it in
      let first = first_is digest cs (omega (arith, many)) (λ m h. (each m (subst (λ (xs : Log). Contains xs m) again h)).0) in
      rw (fs, first, again) (and_from _ _ (all_from (vouches keys s.f s.low digest) kept_low (λ m h. (each m h).1)) (and_from _ _ (checkpoints_apart s.f s.low s.log differ) (le-leb (2 * s.f + 1) (length cs) many)))

  stable : has_stable keys (change_of s view) ≡ true
  stable = go (eqb s.low 0) refl
    where
      go : (t : Bool) → eqb s.low 0 ≡ t
          → cond t (eqb (length (cond t [] (checkpoints kept_low))) 0) (is_shown keys (faults keys) (record { number = s.low; digest = first_digest (cond t [] (checkpoints kept_low)); checkpoints = cond t [] (checkpoints kept_low) })) ≡ true
      go true e = refl
      go false e = ⊎_elim (λ zero_low. absurd (eqb-false s.low 0 e zero_low)) (λ it. shown it.0 (checkpoints kept_low) low_again it.1) certificate

  valid : is_signed keys (as_message ViewChange (signed_change keys (change_of s view))) ≡ true → valid_view_change keys (signed_change keys (change_of s view)) ≡ true
  valid signed =
      and_from _ _ (and_from _ _ (rises (certificate_for s.f s.me s.log) (λ n c e. let m = made_of s n c e in ap number_in (sym m.is) ∙ m.number) s.low s.low log_size (omega arith)) (all_from (is_due (change_of s view)) (certificates s) due))
      (and_from _ _ signed (and_from _ _ stable (all_from (certifies keys) (certificates s) (λ c h. let w = in_window s c h in certified w.0 c w.3))))

pub faults_of : (secret : List ℕ) (f me clients : ℕ) → faults (own_keys secret clients f me) ≡ f
faults_of secret f me clients =
    let n = length-map-range_with_len (λ k. shared_keys secret (Replica me) (Replica k)) 0 (3 * f + 1) in
    omega (arith, n)

pub made_valid : PassesAtReplicas → MadeIsValid
made_valid passes_at secret clients s view me before differ certificate views clean =
    valid (own_keys secret clients s.f s.me) s view (faults_of secret s.f s.me clients) before differ certificate views clean
    (passes_at secret (Replica s.me) s.me (replicas s.f) clients (body_text (ViewChange (change_of s view))) me me)

-- After calls --------------------------------------------------------------------------------------------------------------

stays : CallsKeepTheReplica → (calls : List Call) (s : State) → ((after s calls).f ≡ s.f) × ((after s calls).me ≡ s.me)
stays kept [] s = (refl, refl)
stays kept (call ∷ calls) s =
    let rest = stays kept calls (outcome s call).now in
    let one = kept s call in
    (rest.0 ∙ one.0, rest.1 ∙ one.1)

pub made_valid_after : MadeIsValid → CallsKeepTheReplica → LogsAreClean → IsAlways HasDistinctSlots → IsAlways HasCertificate → IsAlways HasNoLaterView → MadeIsValidAfterCalls
made_valid_after state kept clean differ certificate views secret clients f me calls view low before proper =
    let s = after (fresh f me) calls in
    let same = stays kept calls (fresh f me) in
    let is_replica : s.me < replicas s.f = rw (same.0, same.1) low in
    let valid_here = state secret clients s view is_replica before (differ f me calls) (certificate f me calls) (views f me calls) (clean secret clients f me calls low proper) in
    subst (λ g. valid_view_change (own_keys secret clients g me) (signed_change (own_keys secret clients g me) (change_of s view)) ≡ true) same.0
    (subst (λ k. valid_view_change (own_keys secret clients s.f k) (signed_change (own_keys secret clients s.f k) (change_of s view)) ≡ true) same.1 valid_here)

-- All that is prepared -----------------------------------------------------------------------------------------------------

pub made_has : MadeHasPrepared
made_has s view number digest is low high =
    let lead = primary s.f view in
    let backed = (and_parts (is_backed s.f (known s) view number digest) _ is).0 in
    let proposed = (and_parts (told (known s) 2 lead view number digest) _ backed).0 in
    let at = any_at (λ m. says 2 lead view number digest (header m)) s.log (sym (any_map (says 2 lead view number digest) header s.log) ∙ proposed) in
    let h = header at.0 in
    let it = says_is h 2 lead view number digest at.2 in
    let led : eqb h.sender (primary s.f h.view) ≡ true = rw it.view (eq-eqb h.sender lead it.sender) in
    let still : prepared s.f s.me (known s) h.view h.number h.digest ≡ true = rw (it.view, it.number, it.digest) is in
    let test = λ (m : Signed OrderMessage). is_prepared_for s.f s.me s.log number (header m) in
    let passed : test at.0 ≡ true = and_from _ _ (eq-eqb h.tag 2 it.tag) (and_from _ _ (eq-eqb h.number number it.number) (and_from _ _ led still)) in
    let kind = proposal_kind at.0 it.tag in
    let p = kind.signed in
    let among = in_filter_map (λ (m : Signed OrderMessage). proposal_in m.message m.auth) at.0 p (filter test s.log) (in_filter test at.0 s.log at.1 passed) kind.is in
    let last = latest_in (prepared_among s.f s.me s.log number s.log) p among in
    let made = certificate_of s.f s.log last.0 in
    let is : certificate_for s.f s.me s.log number ≡ Some made = ap (option_map (certificate_of s.f s.log)) last.1 in
    let from = made_of s number made is in
    let seen : p.message.vote.view ≡ view = ap (λ (m : Signed OrderMessage). (header m).view) kind.same ∙ it.view in (
      made,
      in_filter_map (certificate_for s.f s.me s.log) number made (range_with_len (s.low + 1) log_size) (in_range (s.low + 1) log_size number (omega (arith, low)) (omega (arith, high))) is,
      ap number_in (sym from.is) ∙ from.number,
      omega (arith, last.2, seen),
    )

-- its certificates are of numbers in the window
pub made_near : (s : State) (view : ℕ) → IsNear (change_of s view)
made_near s view = greatest_at_most (map number_in (certificates s)) (s.low + log_size) (λ n h.
    let r = of_map number_in n (certificates s) h in
    let w = in_window s r.0 r.1 in
    omega (arith, w.2, sym r.2 ∙ ap number_in (sym w.3.is) ∙ w.3.number))
