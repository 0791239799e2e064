-- The choice, and why there is none, depend on the set of VIEW-CHANGEs alone.
use Rattle.std.proofs.Common.{◌≡◌, ℕ, ◌+◌, ◌*◌, Bool, true, cond, ◌&&◌, not, eqb, ltb, List, [], ◌∷◌, map, Some, None, refl, sym, ap, subst, ◌∙◌}
use Rattle.std.specs.List.{All, Contains, filter, list_all, range_with_len}
use Rattle.std.proofs.lemmas.Bool.{eqb-true, eq-eqb}
use Rattle.std.proofs.lemmas.List.Elements.{All-contains, All-from_recursion}
use Rattle.bfs_votes.specs.Votes.{replicas}
use Rattle.bfs_messages.specs.Messages.{PreparedBatch}
use Rattle.bfs_messages.specs.Messages as model
use Rattle.bfs_messages.specs.Limits.{FitsBatch, FitsPreparedBatch, FitsViewChange}
use Rattle.bfs_codec.specs.Laws.{OneBatch}
use Rattle.bfs_messages.specs.declared.signed.Signed.{Signed}
use Rattle.bfs_log.specs.Certificates.{faults, number_in}
use Rattle.bfs_view_change.specs.Changes.ViewChanges.{valid_view_change}
use Rattle.bfs_view_change.specs.Changes.Choice.{Candidate, candidate, candidates_in, candidates, best, batch_of, greatest, latest_stable, last_in, chosen_for}
use Rattle.bfs_view_change.specs.Changes.NewViews.{do_agree, is_any_from, senders}
use Rattle.bfs_view_change.specs.declared.error.ViewError.TheVariants.{BadCertificate, TooFew}
use Rattle.bfs_view_change.specs.Laws.Sets.{SameMembers}
use Rattle.bfs_view_change.specs.Laws.Choices.{ChoiceIsOfTheSet, RefusalIsOfTheSet}
use Rattle.bfs_view_change.proofs.Members.{in_front, none_in, of_map, in_map, of_filter, in_filter, of_flat, in_flat, same_bool, all_at, all_from, same_all, same_any, same_greatest, same_map, same_flat, map_agree}
use Rattle.bfs_view_change.proofs.Best.{best_is, one_text}
use Rattle.bfs_votes.proofs.Public.{same_count}

-- where a candidate comes from
pub record Comes (n : ℕ) (changes : List model.ViewChange) (found : Candidate) : Type 0 where
  pub change : model.ViewChange
  pub cert : PreparedBatch
  pub among : Contains changes change
  pub held : Contains change.certificates cert
  pub number : number_in cert ≡ n
  pub is : candidate change.sender cert ≡ found

pub comes : (number : ℕ) (changes : List model.ViewChange) (found : Candidate) → Contains (candidates number changes) found → Comes number changes found
comes number changes found h =
    let a = of_flat (candidates_in number) found changes h in
    let b = of_map (candidate a.0.sender) found (filter (λ c. eqb (number_in c) number) a.0.certificates) a.2 in
    let c = of_filter (λ c. eqb (number_in c) number) b.0 a.0.certificates b.1 in
    record { change = a.0; cert = b.0; among = a.1; held = c.0; number = eqb-true (number_in b.0) number c.1; is = b.2 }

pub goes : (number : ℕ) (changes : List model.ViewChange) (change : model.ViewChange) (c : PreparedBatch) → Contains changes change → Contains change.certificates c → number_in c ≡ number → Contains (candidates number changes) (candidate change.sender c)
goes number changes change c among held e =
    in_flat (candidates_in number) change (candidate change.sender c) changes among
    (in_map (candidate change.sender) c (filter (λ x. eqb (number_in x) number) change.certificates) (in_filter (λ x. eqb (number_in x) number) c change.certificates held (eq-eqb (number_in c) number e)))

fits : (number : ℕ) (changes : List model.ViewChange) (found : Candidate) → All FitsViewChange changes → Contains (candidates number changes) found → FitsBatch found.batch
fits number changes found all h =
    let from = comes number changes found h in
    let change = All-contains FitsViewChange changes from.change all from.among in
    let cert = All-contains FitsPreparedBatch from.change.certificates from.cert (All-from_recursion FitsPreparedBatch from.change.certificates change.certificates.1) from.held in
    subst (λ (c : Candidate). FitsBatch c.batch) from.is cert.proposal.0.batch

-- of the same candidates, the same batch is best
same_best : OneBatch → (xs ys : List Candidate) → SameMembers xs ys → ((c : Candidate) → Contains xs c → FitsBatch c.batch) → batch_of (best xs) ≡ batch_of (best ys)
same_best one [] [] same all = refl
same_best one [] (y ∷ ys) same all = absurd (none_in y ((same y).1 (in_front y ys)))
same_best one (x ∷ xs) [] same all = absurd (none_in x ((same x).0 (in_front x xs)))
same_best one (x ∷ xs) (y ∷ ys) same all =
    let a = best_is x (x ∷ xs) (in_front x xs) in
    let b = best_is y (y ∷ ys) (in_front y ys) in
    let there = (same a.0).0 a.2.found in
    let back = (same b.0).1 b.2.found in
    let batches = one a.0.batch b.0.batch (all a.0 a.2.found) (all b.0 back) (one_text a.0 b.0 (b.2.rest a.0 there) (a.2.rest b.0 back)) in
    ap batch_of a.1 ∙ batches ∙ sym (ap batch_of b.1)

pub choice_of_set : OneBatch → ChoiceIsOfTheSet
choice_of_set one changes others same all =
    let low : latest_stable changes ≡ latest_stable others = same_greatest (map (λ change. change.stable) changes) (map (λ change. change.stable) others) (same_map (λ change. change.stable) changes others same) in
    let high : greatest (map last_in changes) ≡ greatest (map last_in others) = same_greatest (map last_in changes) (map last_in others) (same_map last_in changes others same) in
    let each = λ (n : ℕ). same_best one (candidates n changes) (candidates n others) (same_flat (candidates_in n) changes others same) (λ c h. fits n changes c all h) in
    let chosen = λ (a k : ℕ). map_agree (chosen_for changes) (chosen_for others) (range_with_len a k) (λ n. rw (each n) refl) in
    rw (low, high, chosen) refl

-- Refusals ------------------------------------------------------------------------------------------------------------------------

agree_at : (changes : List (Signed model.ViewChange)) → do_agree changes ≡ true → (s t : Signed model.ViewChange) → Contains changes s → Contains changes t → s.message.view ≡ t.message.view
agree_at [] h s t m n = absurd (none_in s m)
agree_at (first ∷ rest) h s t m n =
    eqb-true s.message.view first.message.view (all_at (λ x. eqb x.message.view first.message.view) (first ∷ rest) h s m)
    ∙ sym (eqb-true t.message.view first.message.view (all_at (λ x. eqb x.message.view first.message.view) (first ∷ rest) h t n))

agree_from : (changes : List (Signed model.ViewChange)) → ((s t : Signed model.ViewChange) → Contains changes s → Contains changes t → s.message.view ≡ t.message.view) → do_agree changes ≡ true
agree_from [] h = refl
agree_from (first ∷ rest) h = all_from (λ x. eqb x.message.view first.message.view) (first ∷ rest) (λ s m. eq-eqb s.message.view first.message.view (h s first m (in_front first rest)))

same_agree : (xs ys : List (Signed model.ViewChange)) → SameMembers xs ys → do_agree xs ≡ do_agree ys
same_agree xs ys same = same_bool (do_agree xs) (do_agree ys)
    (λ h. agree_from ys (λ s t m n. agree_at xs h s t ((same s).1 m) ((same t).1 n)))
    (λ h. agree_from xs (λ s t m n. agree_at ys h s t ((same s).0 m) ((same t).0 n)))

pub refusal_of_set : RefusalIsOfTheSet
refusal_of_set keys changes others same =
    let one = same_agree changes others same in
    let valid = same_all (valid_view_change keys) changes others same in
    let count : senders (faults keys) changes ≡ senders (faults keys) others =
    same_count (is_any_from changes) (is_any_from others) (replicas (faults keys)) (λ k. same_any (λ s. eqb s.message.sender k) changes others same) in
    decided (do_agree changes) (do_agree others) (list_all (valid_view_change keys) changes) (list_all (valid_view_change keys) others) (senders (faults keys) changes) (senders (faults keys) others) (2 * faults keys + 1) one valid count
  where
    decided : (a b c d : Bool) (m n k : ℕ) → a ≡ b → c ≡ d → m ≡ n
        → cond (not (a && c)) (Some BadCertificate) (cond (ltb m k) (Some TooFew) None) ≡ cond (not (b && d)) (Some BadCertificate) (cond (ltb n k) (Some TooFew) None)
    decided a b c d m n k e f g = rw (e, f, g) refl
