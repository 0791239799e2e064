-- What was prepared is chosen, unless something of a higher rank is; the rest is null.
use Rattle.std.proofs.Common.{◌≡◌, ℕ, ◌+◌, ◌-◌, ◌<◌, ◌≤◌, List, [], ◌∷◌, length, map, true, false, ltb, leb, refl, sym, ap, subst, arith}
use Rattle.std.specs.Ordering.{is_lt}
use Rattle.std.specs.List.{list_all, Contains, range_with_len}
use Rattle.bfs_messages.specs.Messages.{Batch, PreparedBatch, ViewChange}
use Rattle.std.proofs.lemmas.Bool.{and_parts, leb-true}
use Rattle.std.proofs.lemmas.List.FromFn.{length-map-range_with_len}
use Rattle.bfs_auth.specs.Keys.{Keys}
use Rattle.bfs_messages.specs.declared.signed.Signed.{Signed}
use Rattle.bfs_view_change.specs.Changes.ViewChanges.{messages_of}
use Rattle.bfs_view_change.specs.Changes.ViewChanges.{are_in_order, do_rise, is_due, valid_view_change}
use Rattle.bfs_log.specs.Certificates.{number_in, view_in}
use Rattle.bfs_view_change.specs.Changes.Choice.{Candidate, candidate, rank, candidates, greatest, latest_stable, last_in, last_number, Chosen, chosen_for, choice}
use Rattle.bfs_view_change.specs.Inside.Near.{IsNear}
use Rattle.bfs_view_change.specs.Laws.Choices.{NumbersAreChosenOnce, OthersAreNull, PreparedIsChosen, StableIsPassed, ValidChoicesAreShort}
use Rattle.bfs_view_change.proofs.Members.{all_at, at_most_greatest, greatest_at_most, in_map, in_range, of_map}
use Rattle.bfs_view_change.proofs.Best.{best_is, views_fall}
use Rattle.bfs_view_change.proofs.OfTheSet.{comes, goes}
use Rattle.bfs_model.specs.Server.Limits.{log_size}

numbers : (changes : List ViewChange) (ns : List ℕ) → map (λ c. c.number) (map (chosen_for changes) ns) ≡ ns
numbers changes [] = refl
numbers changes (n ∷ ns) = ap (λ (ms : List ℕ). n ∷ ms) (numbers changes ns)

pub chosen_once : NumbersAreChosenOnce
chosen_once changes = numbers changes (range_with_len (latest_stable changes + 1) (last_number changes - latest_stable changes))

pub is_numbered : (changes : List ViewChange) (change : ViewChange) (c : PreparedBatch) → Contains changes change → Contains change.certificates c → number_in c ≤ last_number changes
is_numbered changes change c among held =
    let here = at_most_greatest (map number_in change.certificates) (number_in c) (in_map number_in c change.certificates held) in
    let most = at_most_greatest (map last_in changes) (last_in change) (in_map last_in change changes among) in
    omega (arith, here, most)

pub is_chosen : (changes : List ViewChange) (n : ℕ) → latest_stable changes < n → n ≤ last_number changes → Contains (choice changes).chosen (chosen_for changes n)
is_chosen changes n low high =
    in_map (chosen_for changes) n (range_with_len (latest_stable changes + 1) (last_number changes - latest_stable changes))
    (in_range (latest_stable changes + 1) (last_number changes - latest_stable changes) n (omega (arith, low)) (omega (arith, low, high)))

abbrev the_chosen : ℕ → Batch → Chosen
the_chosen number batch = record { number = number; batch = batch }

pub prepared_chosen : PreparedIsChosen
prepared_chosen changes change c among held low =
    let there = goes (number_in c) changes change c among held refl in
    let b = best_is (candidate change.sender c) (candidates (number_in c) changes) there in
    let from = comes (number_in c) changes b.0 b.2.found in
    let first = b.2.rest (candidate change.sender c) there in
    let at = is_chosen changes (number_in c) low (is_numbered changes change c among held) in
    let same : chosen_for changes (number_in c) ≡ record { number = number_in c; batch = from.cert.proposal.message.batch } =
    rw (b.1) (ap (λ (x : Candidate). the_chosen (number_in c) x.batch) (sym from.is)) in
    record {
      by = from.change;
      among = from.among;
      certificate = from.cert;
      held = from.held;
      number = from.number;
      chosen = subst (λ (x : Chosen). Contains (choice changes).chosen x) same at;
      view = subst (λ (x : Candidate). view_in c ≤ x.view) (sym from.is) (views_fall (candidate change.sender c) b.0 first);
      first = subst (λ (x : Candidate). is_lt (rank (candidate change.sender c) x) ≡ false) (sym from.is) first;
    }

pub stable_passed : StableIsPassed
stable_passed changes change among =
    at_most_greatest (map (λ change. change.stable) changes) change.stable (in_map (λ change. change.stable) change changes among)

pub others_null : OthersAreNull
others_null changes number e = rw e refl

-- Few ------------------------------------------------------------------------------------------------------------------------

last_due : (change : ViewChange) → list_all (is_due change) change.certificates ≡ true → last_in change ≤ change.stable + log_size
last_due change due = greatest_at_most (map number_in change.certificates) (change.stable + log_size) (λ n h.
    let r = of_map number_in n change.certificates h in
    let first = and_parts (leb (number_in r.0) (change.stable + log_size)) (ltb (view_in r.0) change.view) (all_at (is_due change) change.certificates due r.0 r.1) in
    let le = leb-true (number_in r.0) (change.stable + log_size) first.0 in
    subst (λ k. k ≤ change.stable + log_size) r.2 le)

due_in : (keys : Keys) (s : Signed ViewChange) → valid_view_change keys s ≡ true → list_all (is_due s.message) s.message.certificates ≡ true
due_in keys s valid =
    let order = (and_parts (are_in_order s.message) _ valid).0 in
    (and_parts (do_rise s.message.stable (map number_in s.message.certificates)) (list_all (is_due s.message) s.message.certificates) order).1

pub valid_near : (keys : Keys) (s : Signed ViewChange) → valid_view_change keys s ≡ true → IsNear s.message
valid_near keys s valid = last_due s.message (due_in keys s valid)

pub near_short : (changes : List (Signed ViewChange)) → ((s : Signed ViewChange) → Contains changes s → IsNear s.message) → length (choice (messages_of changes)).chosen ≤ log_size
near_short changes near =
    let ms = messages_of changes in
    let top : greatest (map last_in ms) ≤ latest_stable ms + log_size = greatest_at_most (map last_in ms) (latest_stable ms + log_size) (λ n h.
    let r = of_map last_in n ms h in
    let o = of_map (λ (s : Signed ViewChange). s.message) r.0 changes r.1 in
    let last = subst (λ (c : ViewChange). last_in c ≤ c.stable + log_size) o.2 (near o.0 o.1) in
    let passed = stable_passed ms r.0 r.1 in
    omega (arith, last, passed, r.2)) in
    let count = length-map-range_with_len (chosen_for ms) (latest_stable ms + 1) (last_number ms - latest_stable ms) in
    omega (arith, top, count)

pub choices_short : ValidChoicesAreShort
choices_short keys changes valid = near_short changes (λ s h. valid_near keys s (all_at (valid_view_change keys) changes valid s h))
