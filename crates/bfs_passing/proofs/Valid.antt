-- What a replica says of its log is valid by its own keys, where these pass all of it.
use Rattle.std.proofs.Common.{◌≡◌, ℕ, zero, suc, ◌+◌, ◌*◌, ◌<◌, ◌≤◌, ◌==◌, ◌&&◌, Bool, true, false, cond, not, List, [], ◌∷◌, length, map, inl, inr, Option, Some, None, option_map, refl, sym, ap, subst, ◌∙◌, arith}
use Rattle.std.specs.Prelude.{All, drop, nat_le, nat_lt}
use Rattle.std.specs.List.{Contains, cons_option, filter, filter_map, fold, list_all, range_with_len}
use Rattle.std.proofs.lemmas.Bool.{and_from, and_parts, cond_both, eq-eqb, eqb-false, eqb-true, le-leb, leb-true, lt-ltb, or_from}
use Rattle.std.proofs.lemmas.List.{length-map}
use Rattle.std.proofs.lemmas.List.Elements.{All-cons, All-contains, All-nil, All-weaker, Contains-append_left, Contains-append_right, Contains-push}
use Rattle.std.proofs.lemmas.Slice.Eq.{bytes_eq-Decides}
use Rattle.bfs_auth.specs.Keys.{Keys}
use Rattle.bfs_auth.specs.declared.authenticators.Authenticator.{Authenticator}
use Rattle.bfs_votes.specs.Votes.{Header, count_below, is_backed, is_stable, primary, replicas, tellers, told}
use Rattle.bfs_votes.proofs.Public.{either_below, more_below, none_below, once_below}
use Rattle.bfs_log.specs.Certificates.{as_checkpoints, certifies, faults, has_sender, is_all_signed, is_proved, is_shown, matches, messages_in, number_in, prepares_in, senders_differ, view_in, vouches}
use Rattle.bfs_log.specs.Headers.{header}
use Rattle.bfs_log.specs.Logs.{Log}
use Rattle.bfs_log.specs.Showing.{backs, certificate_for, certificate_of, checkpoint_in, checkpoints, is_of, is_prepared_for, later, latest, prepared_among, proposal_in}
use Rattle.bfs_log.proofs.Public.{backed_by, backups_apart, checkpoints_apart, of_number, passing}
use Rattle.bfs_messages.specs.Messages as model
use Rattle.bfs_messages.specs.Messages.{PreparedBatch}
use Rattle.bfs_messages.specs.Signing.{as_message, is_signed, order_is_signed}
use Rattle.bfs_messages.specs.declared.message.Message.TheVariants.{ViewChange}
use Rattle.bfs_messages.specs.declared.order_messages.OrderMessage.{OrderMessage}
use Rattle.bfs_messages.specs.declared.order_messages.OrderMessage.TheVariants.{PrePrepare, Prepare, Commit, Checkpoint}
use Rattle.bfs_messages.specs.declared.signed.Signed.{Signed}
use Rattle.bfs_model.specs.Server.Limits.{log_size}
use Rattle.bfs_order.specs.Laws.Logs.{HasCertificate, HasDistinctSlots, HasNoLaterView, IsCertified}
use Rattle.bfs_order.specs.Replica.States.{State, known}
use Rattle.bfs_agreement.specs.Histories.{IsIn}
use Rattle.bfs_agreement.proofs.Public.{Is}
use Rattle.bfs_view_change.specs.Changes.Making.{certificates, change_of, signed_change, stable_checkpoints}
use Rattle.bfs_view_change.specs.Changes.ViewChanges.{do_rise, first_digest, has_stable, is_due, valid_view_change}
use Rattle.bfs_view_change.proofs.Public.{Made, backed_alike, in_window, messages_made}
use Rattle.bfs_nodes_agree.proofs.Public.{AllIn, any_in, at_in, filter_in, in_map, out_of_filter_map, out_of_map, some_is, told_in}

-- Lists ---------------------------------------------------------------------------------------------------------------

contains : {A : Type 0} (xs : List A) (x : A) → IsIn x xs → Contains xs x
contains [] x i = absurd i
contains (y ∷ ys) x i = elim i [
  | inl e ↦ subst (λ z. Contains (y ∷ ys) z) (sym e) (Contains-append_left (y ∷ []) ys y (Contains-push [] y))
  | inr j ↦ Contains-append_right (y ∷ []) ys x (contains ys x j)
]

-- what is in a list by its places
there : {A : Type 0} (xs : List A) (x : A) → Contains xs x → IsIn x xs
there xs x c = All-contains (λ y. IsIn y xs) xs x (all_there xs) c
  where
    all_there : {A : Type 0} (xs : List A) → All (λ y. IsIn y xs) xs
    all_there [] = All-nil (λ y. IsIn y [])
    all_there (x ∷ xs) = All-cons (λ y. IsIn y (x ∷ xs)) x xs (inl refl) (All-weaker (λ y. IsIn y xs) (λ y. IsIn y (x ∷ xs)) (λ y i. inr i) xs (all_there xs))

pub all_pass : {A : Type 0} (p : A → Bool) (xs : List A) → AllIn (λ x. p x ≡ true) xs → list_all p xs ≡ true
all_pass p [] all = refl
all_pass p (x ∷ xs) all = and_from (p x) (list_all p xs) (all x (inl refl)) (all_pass p xs (λ y i. all y (inr i)))

-- what passes a filter
out_of_filter : {A : Type 0} (p : A → Bool) (xs : List A) (x : A) → IsIn x (filter p xs) → IsIn x xs × (p x ≡ true)
out_of_filter p xs x i = (filter_in (λ y. IsIn y xs) p xs (λ y j. j) x i, at_in (λ y. p y ≡ true) (filter p xs) (passing p (λ y. p y ≡ true) (λ y e. e) xs) x i)

in_filter : {A : Type 0} (p : A → Bool) (xs : List A) (x : A) → IsIn x xs → p x ≡ true → IsIn x (filter p xs)
in_filter p [] x i e = absurd i
in_filter p (y ∷ ys) x i e = cond_both (p y) (y ∷ filter p ys) (filter p ys) (IsIn x)
    (λ _. elim i [ inl same ↦ inl same | inr j ↦ inr (in_filter p ys x j e) ])
    (λ fails. elim i [ inl same ↦ absurd (cc (fails, e, ap p same)) | inr j ↦ in_filter p ys x j e ])

no_such_sender : (k : ℕ) (ms : Log) → AllIn (λ m. ((header m).sender == k) ≡ false) ms → has_sender ms k ≡ false
no_such_sender k [] all = refl
no_such_sender k (m ∷ ms) all = or_from ((header m).sender == k) (has_sender ms k) (all m (inl refl)) (no_such_sender k ms (λ x i. all x (inr i)))

senders_fit : (ms : Log) (n : ℕ) → count_below (has_sender ms) n ≤ length ms
senders_fit [] n = omega (arith, none_below (λ k. false) n (λ k. refl))
senders_fit (m ∷ ms) n = omega (arith, either_below (λ k. (header m).sender == k) (has_sender ms) n, once_below (header m).sender n, senders_fit ms n)

-- Of which number a certificate is ------------------------------------------------------------------------------------

latest_all : (P : Signed model.PrePrepare → Type 0) (o : Option (Signed model.PrePrepare)) (xs : List (Signed model.PrePrepare)) → ((y : Signed model.PrePrepare) → o ≡ Some y → P y) → AllIn P xs
    → (x : Signed model.PrePrepare) → fold later o xs ≡ Some x → P x
latest_all P o [] now all x e = now x e
latest_all P None (y ∷ xs) now all x e = latest_all P (Some y) xs (λ z is. subst P (some_is y z is) (all y (inl refl))) (λ z i. all z (inr i)) x e
latest_all P (Some found) (y ∷ xs) now all x e =
    let picked : P (cond (nat_lt found.message.vote.view y.message.vote.view) y found) = cond_both (nat_lt found.message.vote.view y.message.vote.view) y found P (λ _. all y (inl refl)) (λ _. now found refl) in
    latest_all P (later (Some found) y) xs (λ z is. subst P (some_is _ z is) picked) (λ z i. all z (inr i)) x e

proposal_number : (m : OrderMessage) (auth : Authenticator) (p : Signed model.PrePrepare) → proposal_in m auth ≡ Some p → p.message.vote.number ≡ (header (record { message = m; auth = auth })).number
proposal_number (PrePrepare proposal) auth p e = sym (ap (λ (x : Signed model.PrePrepare). x.message.vote.number) (some_is (record { message = proposal; auth = auth }) p e))
proposal_number other auth p e = absurd cc

number_is : (f me : ℕ) (log : Log) (n : ℕ) (c : PreparedBatch) → certificate_for f me log n ≡ Some c → number_in c ≡ n
number_is f me log n c e = go (latest (prepared_among f me log n log)) refl e
  where
    among : AllIn (λ (p : Signed model.PrePrepare). p.message.vote.number ≡ n) (prepared_among f me log n log)
    among p i =
        let test = λ (m : Signed OrderMessage). is_prepared_for f me log n (header m) in
        let from = out_of_filter_map (λ (m : Signed OrderMessage). proposal_in m.message m.auth) (filter test log) p i in
        let is = (out_of_filter test log from.0 from.1).1 in
        let h = header from.0 in
        let of_n = eqb-true h.number n (and_parts (h.number == n) _ (and_parts (h.tag == 2) _ is).1).0 in
        proposal_number from.0.message from.0.auth p from.2 ∙ of_n

    go : (o : Option (Signed model.PrePrepare)) → latest (prepared_among f me log n log) ≡ o → option_map (certificate_of f log) o ≡ Some c → number_in c ≡ n
    go None is e = absurd cc
    go (Some p) is e = ap number_in (sym (some_is (certificate_of f log p) c e)) ∙ latest_all (λ (q : Signed model.PrePrepare). q.message.vote.number ≡ n) None (prepared_among f me log n log) (λ y no. absurd cc) among p is

rises : (g : ℕ → Option PreparedBatch) → ((n : ℕ) (c : PreparedBatch) → g n ≡ Some c → number_in c ≡ n)
    → (low a k : ℕ) → low ≤ a → do_rise low (map number_in (filter_map g (range_with_len (a + 1) k))) ≡ true
rises g is low a zero le = refl
rises g is low a (suc k) le = go (g (a + 1)) refl (λ from h. rises g is from (a + 1) k h)
  where
    go : (o : Option PreparedBatch) → g (a + 1) ≡ o → ((from : ℕ) → from ≤ a + 1 → do_rise from (map number_in (filter_map g (range_with_len (a + 1 + 1) k))) ≡ true)
        → do_rise low (map number_in (cons_option o (filter_map g (range_with_len (a + 1 + 1) k)))) ≡ true
    go None e rest = rest low (omega (arith, le))
    go (Some c) e rest =
        let n : number_in c ≡ a + 1 = is (a + 1) c e in
        and_from (nat_lt low (number_in c)) _ (lt-ltb low (number_in c) (omega (arith, le, n))) (rest (number_in c) (omega (arith, n)))

-- CHECKPOINTs ---------------------------------------------------------------------------------------------------------

-- those of a log are its messages of that kind
as_they_were : (ms : Log) → AllIn (λ m. (header m).tag ≡ 5) ms → as_checkpoints (checkpoints ms) ≡ ms
as_they_were [] all = refl
as_they_were (m ∷ ms) all = go m.message m.auth (all m (inl refl)) (as_they_were ms (λ x i. all x (inr i)))
  where
    go : (message : OrderMessage) (auth : Authenticator) → (header (record { message = message; auth = auth })).tag ≡ 5 → as_checkpoints (checkpoints ms) ≡ ms
        → as_checkpoints (cons_option (checkpoint_in message auth) (checkpoints ms)) ≡ record { message = message; auth = auth } ∷ ms
    go (PrePrepare proposal) auth e rest = absurd (omega (arith, e))
    go (Prepare vote) auth e rest = absurd (omega (arith, e))
    go (Commit vote) auth e rest = absurd (omega (arith, e))
    go (Checkpoint checkpoint) auth e rest = ap (λ (xs : Log). record { message = Checkpoint checkpoint; auth = auth } ∷ xs) rest

first_is : (digest : List ℕ) (cs : List (Signed model.Checkpoint)) → 0 < length cs → AllIn (λ m. (header m).digest ≡ digest) (as_checkpoints cs) → first_digest cs ≡ digest
first_is digest [] some each = absurd (omega (arith, some))
first_is digest (c ∷ cs) some each = each (as_message Checkpoint c) (inl refl)

module _ (keys : Keys) (s : State) (fs : faults keys ≡ s.f) (differ : HasDistinctSlots s) where
  abbrev kept_low : Log
  kept_low = filter (λ m. is_of s.f s.low (header m)) s.log

  many_told : (digest : List ℕ) → is_stable s.f (known s) s.low digest ≡ true → 2 * s.f + 1 ≤ length kept_low
  many_told digest stable =
      let told_by = λ (k : ℕ). told (known s) 5 k 0 s.low digest in
      let each : (k : ℕ) → k < replicas s.f → told_by k ≡ true → has_sender kept_low k ≡ true = λ k low e.
      (let at = told_in (known s) 5 k 0 s.low digest e in
      let from = out_of_map header s.log at.0 at.1 in
      let m = from.0 in
      let is = subst (λ (h : Header). Is h 5 k 0 s.low digest) from.2 at.2 in
      let by = is.sender in
      let inside = lt-ltb (header m).sender (replicas s.f) (omega (arith, low, by)) in
      let passed = and_from ((header m).tag == 5) _ (eq-eqb (header m).tag 5 is.tag) (and_from ((header m).number == s.low) _ (eq-eqb (header m).number s.low is.number) inside) in
      any_in (λ x. (header x).sender == k) kept_low m (in_filter (λ x. is_of s.f s.low (header x)) s.log m from.1 passed) (eq-eqb (header m).sender k by)) in
      let enough = leb-true (2 * s.f + 1) (tellers s.f (known s) 5 0 s.low digest) stable in
      let count = more_below told_by (has_sender kept_low) (replicas s.f) each in
      let fit = senders_fit kept_low (replicas s.f) in
      omega (arith, enough, count, fit)

  vouched : AllIn (λ m. order_is_signed keys m ≡ true) kept_low → (digest : List ℕ) → IsCertified s.f (known s) s.low digest → (m : Signed OrderMessage) → IsIn m kept_low
      → ((header m).digest ≡ digest) × (vouches keys s.f s.low digest m ≡ true)
  vouched signed digest it m i =
      let from = out_of_filter (λ x. is_of s.f s.low (header x)) s.log m i in
      let of = of_number s.f s.low m from.1 in
      let same : (header m).digest ≡ digest = at_in (λ h. h.tag ≡ 5 → h.number ≡ s.low → h.digest ≡ digest) (known s) it.one (header m) (in_map header s.log m from.0) of.at.tag of.at.number in (
        same,
        and_from _ _ (eq-eqb (header m).tag 5 of.at.tag) (and_from _ _ (eq-eqb (header m).number s.low of.at.number)
            (and_from _ _ ((bytes_eq-Decides (header m).digest digest).1 same) (and_from _ _ (lt-ltb (header m).sender (replicas s.f) of.sender) (signed m i)))),
      )

  shown : AllIn (λ m. order_is_signed keys m ≡ true) kept_low → (digest : List ℕ) (cs : List (Signed model.Checkpoint)) → as_checkpoints cs ≡ kept_low → IsCertified s.f (known s) s.low digest
      → is_shown keys (faults keys) (record { number = s.low; digest = first_digest cs; checkpoints = cs }) ≡ true
  shown signed digest cs again it =
      let told = many_told digest it.stable in
      let as_long = length-map cs (as_message Checkpoint) in
      let same_length = ap (λ (xs : Log). length xs) again in
      let many : 2 * s.f + 1 ≤ length cs = omega (arith, told, as_long, same_length) in
      let each = vouched signed digest it in
      let first = first_is digest cs (omega (arith, many)) (λ m i. (each m (subst (λ (xs : Log). IsIn m xs) again i)).0) in
      rw (fs, first, again) (and_from _ _ (all_pass (vouches keys s.f s.low digest) kept_low (λ m i. (each m i).1)) (and_from _ _ (checkpoints_apart s.f s.low s.log differ) (le-leb (2 * s.f + 1) (length cs) many)))

  pub stable_passes : HasCertificate s → (view : ℕ) → AllIn (λ m. order_is_signed keys m ≡ true) (as_checkpoints (stable_checkpoints s)) → has_stable keys (change_of s view) ≡ true
  stable_passes certificate view signed = go (s.low == 0) refl signed
    where
      again : as_checkpoints (checkpoints kept_low) ≡ kept_low
      again = as_they_were kept_low (λ m i. (of_number s.f s.low m (out_of_filter (λ x. is_of s.f s.low (header x)) s.log m i).1).at.tag)

      go : (t : Bool) → (s.low == 0) ≡ t → AllIn (λ m. order_is_signed keys m ≡ true) (as_checkpoints (cond t [] (checkpoints kept_low)))
          → cond t (length (cond t [] (checkpoints kept_low)) == 0) (is_shown keys (faults keys) (record { number = s.low; digest = first_digest (cond t [] (checkpoints kept_low)); checkpoints = cond t [] (checkpoints kept_low) })) ≡ true
      go true e all = refl
      go false e all = elim certificate [
        | inl zero_low ↦ absurd (eqb-false s.low 0 e zero_low)
        | inr it ↦ shown (subst (AllIn (λ m. order_is_signed keys m ≡ true)) again all) it.0 (checkpoints kept_low) again it.1
      ]

  -- Batches -------------------------------------------------------------------------------------------------------------

  prepares_made : (p : Signed model.PrePrepare) → prepares_in (certificate_of s.f s.log p) ≡ filter (λ m. backs s.f p.message.vote (header m)) s.log
  prepares_made p = ap (λ (xs : Log). drop 1 xs) (messages_made s.f s.log p)

  made_certifies : (n : ℕ) (c : PreparedBatch) → Made s n c → list_all (is_all_signed keys) (messages_in c) ≡ true → certifies keys c ≡ true
  made_certifies n c made signed =
      let p = made.proposal in
      let vote = p.message.vote in
      let test = λ (m : Signed OrderMessage). backs s.f vote (header m) in
      let kept = filter test s.log in
      let match : list_all (λ m. matches vote (header m)) kept ≡ true = all_pass (λ m. matches vote (header m)) kept (λ m i. (and_parts (matches vote (header m)) _ (out_of_filter test s.log m i).1).0) in
      let others : has_sender kept vote.sender ≡ false = no_such_sender vote.sender kept (λ m i.
      let b = backed_by s.f vote m (out_of_filter test s.log m i).1 in
      rw (eqb-true vote.sender (primary s.f vote.view) made.led, sym b.at.view) b.backup) in
      let apart : (not (has_sender kept vote.sender) && senders_differ kept) ≡ true = rw others (backups_apart s.f vote s.log differ) in
      let proved : is_proved (faults keys) (certificate_of s.f s.log p) ≡ true =
      ap (λ (f : ℕ). is_proved f (certificate_of s.f s.log p)) fs ∙ backed_alike s.f s.log p made.among made.led ∙ (and_parts (is_backed s.f (known s) vote.view vote.number vote.digest) _ made.prepared).0 in
      let all : list_all (is_all_signed keys) (messages_in (certificate_of s.f s.log p)) ≡ true = subst (λ (x : PreparedBatch). list_all (is_all_signed keys) (messages_in x) ≡ true) (sym made.is) signed in
      subst (λ (x : PreparedBatch). certifies keys x ≡ true) made.is
      (and_from _ _ (ap (list_all (λ m. matches vote (header m))) (prepares_made p) ∙ match)
      (and_from _ _ (ap senders_differ (messages_made s.f s.log p) ∙ apart) (and_from _ _ proved all)))

  module _ (view : ℕ) (before : s.view < view) (views : HasNoLaterView s) where
    due : (c : PreparedBatch) → IsIn c (certificates s) → is_due (change_of s view) c ≡ true
    due c i =
        let w = in_window s c (contains (certificates s) c i) in
        let made = w.3 in
        let number : number_in c ≡ w.0 = ap number_in (sym made.is) ∙ made.number in
        let seen : view_in c ≡ made.proposal.message.vote.view = ap view_in (sym made.is) in
        let in_log : IsIn (as_message PrePrepare made.proposal) s.log = there s.log (as_message PrePrepare made.proposal) made.among in
        let old = at_in (λ (h : Header). h.view ≤ s.view) (known s) views (header (as_message PrePrepare made.proposal)) (in_map header s.log (as_message PrePrepare made.proposal) in_log) in
        let high = w.2 in
        and_from (nat_le (number_in c) (s.low + log_size)) (nat_lt (view_in c) view) (le-leb (number_in c) (s.low + log_size) (omega (arith, number, high))) (lt-ltb (view_in c) view (omega (arith, old, before, seen)))

    -- it is valid where it passes with all that it shows
    pub made_passes : HasCertificate s → AllIn (λ m. order_is_signed keys m ≡ true) (as_checkpoints (stable_checkpoints s)) → ((c : PreparedBatch) → IsIn c (certificates s) → list_all (is_all_signed keys) (messages_in c) ≡ true)
        → is_signed keys (as_message ViewChange (signed_change keys (change_of s view))) ≡ true → valid_view_change keys (signed_change keys (change_of s view)) ≡ true
    made_passes certificate told shows signed =
        and_from _ _ (and_from _ _ (rises (certificate_for s.f s.me s.log) (λ n c e. number_is s.f s.me s.log n c e) s.low s.low log_size (omega arith)) (all_pass (is_due (change_of s view)) (certificates s) due))
        (and_from _ _ signed (and_from _ _ (stable_passes certificate view told)
        (all_pass (certifies keys) (certificates s) (λ c i. let w = in_window s c (contains (certificates s) c i) in made_certifies w.0 c w.3 (shows c i)))))
