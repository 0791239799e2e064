-- What a log shows: of each kind, view and number at most one message of each sender, so at most as many as there are replicas; and with one message more.
use Rattle.std.proofs.Common.{◌≡◌, ℕ, ◌+◌, ◌<◌, ◌≤◌, Bool, true, false, ◌&&◌, not, eqb, ltb, List, [], ◌∷◌, ◌++◌, length, get_or, take, bytes_eq, Option, Some, None, inl, inr, refl, sym, ap, ◌∙◌, arith}
use Rattle.std.specs.List.{All, cons_option, filter, filter_map, fold}
use Rattle.std.proofs.lemmas.Bool.{and_parts, and_from, or_cases, or_left, or_right, eqb-true, eq-eqb, false_from_ne_true, ltb-true, not-true, not_from_false}
use Rattle.std.proofs.lemmas.List.{take_more}
use Rattle.std.proofs.lemmas.List.Elements.{All-head, All-tail, All-weaker, filter-append, filter_map-append, filter_passes}
use Rattle.std.proofs.lemmas.List.Sums.{fold-append}
use Rattle.bfs_model.specs.Server.Limits.{most_replicas, most_faults}
use Rattle.bfs_votes.specs.Votes.{Header, SlotsDiffer, has_slot, is_slot, replicas, primary}
use Rattle.bfs_messages.specs.Messages as model
use Rattle.bfs_messages.specs.Messages.{Vote}
use Rattle.bfs_messages.specs.declared.signed.Signed.{Signed}
use Rattle.bfs_messages.specs.declared.order_messages.OrderMessage.{OrderMessage}
use Rattle.bfs_messages.specs.declared.order_messages.OrderMessage.TheVariants.{PrePrepare, Prepare, Commit, Checkpoint}
use Rattle.bfs_log.specs.Certificates.{has_sender, matches, senders_differ}
use Rattle.bfs_log.specs.Headers.{header, message_header}
use Rattle.bfs_log.specs.Logs.{Log, headers}
use Rattle.bfs_log.specs.Showing.{backing, backs, checkpoint_in, checkpoints_of, is_of, is_prepared_for, later, latest, prepare_in, prepared_among, proposal_in}
use Rattle.bfs_log.proofs.Certifying.{count_within, senders_counted}
use Rattle.bfs_log.proofs.Slots.{differ_kept}

pub record IsAt (t v n : ℕ) (m : Signed OrderMessage) : Type 0 where
  pub tag : (header m).tag ≡ t
  pub view : (header m).view ≡ v
  pub number : (header m).number ≡ n

-- who sends one of them has the place
slot_at : (t v n s : ℕ) (ms : Log) → All (IsAt t v n) ms → has_sender ms s ≡ true → has_slot (headers ms) t s v n ≡ true
slot_at t v n s [] all e = absurd cc
slot_at t v n s (m ∷ ms) all e = elim (or_cases (eqb (header m).sender s) (has_sender ms s) e) [
  | inl same ↦
      let at = All-head (IsAt t v n) m ms all in
      or_left _ (has_slot (headers ms) t s v n) (and_from _ _ (eq-eqb (header m).tag t at.tag) (and_from _ _ same (and_from _ _ (eq-eqb (header m).view v at.view) (eq-eqb (header m).number n at.number))))
  | inr there ↦ or_right (is_slot t s v n (header m)) _ (slot_at t v n s ms (All-tail (IsAt t v n) m ms all) there)
]

free_there : (hs : List Header) (t v n a b c s : ℕ) → a ≡ t → b ≡ v → c ≡ n → has_slot hs a s b c ≡ false → has_slot hs t s v n ≡ false
free_there hs t v n a b c s p q r e = rw (sym p, sym q, sym r) e

senders_apart : (t v n : ℕ) (ms : Log) → All (IsAt t v n) ms → SlotsDiffer (headers ms) → senders_differ ms ≡ true
senders_apart t v n [] all differ = refl
senders_apart t v n (m ∷ ms) all differ =
    let here = All-head (IsAt t v n) m ms all in
    let rest = All-tail (IsAt t v n) m ms all in
    let free = free_there (headers ms) t v n (header m).tag (header m).view (header m).number (header m).sender here.tag here.view here.number differ.0 in
    let none = false_from_ne_true (has_sender ms (header m).sender) (λ sent. let taken = slot_at t v n (header m).sender ms rest sent in absurd (cc (free, taken))) in
    and_from (not (has_sender ms (header m).sender)) (senders_differ ms) (not_from_false _ none) (senders_apart t v n ms rest differ.1)

-- At most as many as there are replicas --------------------------------------------------------------------------------

at_most : (f : ℕ) (ms : Log) → f ≤ most_faults → All (λ m. (header m).sender < replicas f) ms → senders_differ ms ≡ true → length ms ≤ most_replicas
at_most f ms small all differ = omega (arith, small, senders_counted (replicas f) ms all differ, count_within (has_sender ms) (replicas f))

found_step : {B : Type 0} (o : Option B) (ys : List B) (n : ℕ) → length ys ≤ n → length (cons_option o ys) ≤ n + 1
found_step None ys n h = omega (arith, h)
found_step (Some y) ys n h = omega (arith, h)

found_fewer : {A B : Type 0} (h : A → Option B) (xs : List A) → length (filter_map h xs) ≤ length xs
found_fewer h [] = omega arith
found_fewer h (x ∷ xs) = let le = found_step (h x) (filter_map h xs) (length xs) (found_fewer h xs) in omega (arith, le)

-- What passes a test -----------------------------------------------------------------------------------------------------

pub passing : {A : Type 0} (p : A → Bool) (Q : A → Type 0) → ((x : A) → p x ≡ true → Q x) → (xs : List A) → All Q (filter p xs)
passing p Q each xs = All-weaker (λ x. p x ≡ true) Q each (filter p xs) (filter_passes p xs)

-- a CHECKPOINT has no view
pub no_view : (m : OrderMessage) → (message_header m).tag ≡ 5 → (message_header m).view ≡ 0
no_view (Checkpoint checkpoint) e = refl
no_view (PrePrepare proposal) e = absurd (omega (arith, e))
no_view (Prepare vote) e = absurd (omega (arith, e))
no_view (Commit vote) e = absurd (omega (arith, e))

-- a replica's CHECKPOINT of a number
pub record IsOf (f number : ℕ) (m : Signed OrderMessage) : Type 0 where
  pub at : IsAt 5 0 number m
  pub sender : (header m).sender < replicas f

pub of_number : (f number : ℕ) (m : Signed OrderMessage) → is_of f number (header m) ≡ true → IsOf f number m
of_number f number m e =
    let h = header m in
    let a = and_parts (eqb h.tag 5) (eqb h.number number && ltb h.sender (replicas f)) e in
    let b = and_parts (eqb h.number number) (ltb h.sender (replicas f)) a.1 in
    let tag = eqb-true h.tag 5 a.0 in
    record { at = record { tag = tag; view = no_view m.message tag; number = eqb-true h.number number b.0 }; sender = ltb-true h.sender (replicas f) b.1 }

-- a backup's PREPARE that matches
pub record Backs (f : ℕ) (proposed : Vote) (m : Signed OrderMessage) : Type 0 where
  pub at : IsAt 3 proposed.view proposed.number m
  pub digest : bytes_eq (header m).digest proposed.digest ≡ true
  pub sender : (header m).sender < replicas f
  pub backup : eqb (header m).sender (primary f (header m).view) ≡ false

pub backed_by : (f : ℕ) (proposed : Vote) (m : Signed OrderMessage) → backs f proposed (header m) ≡ true → Backs f proposed m
backed_by f proposed m e =
    let h = header m in
    let a = and_parts (matches proposed h) (ltb h.sender (replicas f) && not (eqb h.sender (primary f h.view))) e in
    let b = and_parts (ltb h.sender (replicas f)) (not (eqb h.sender (primary f h.view))) a.1 in
    let c = and_parts (eqb h.tag 3) (eqb h.view proposed.view && (eqb h.number proposed.number && bytes_eq h.digest proposed.digest)) a.0 in
    let d = and_parts (eqb h.view proposed.view) (eqb h.number proposed.number && bytes_eq h.digest proposed.digest) c.1 in
    let g = and_parts (eqb h.number proposed.number) (bytes_eq h.digest proposed.digest) d.1 in
    record {
      at = record { tag = eqb-true h.tag 3 c.0; view = eqb-true h.view proposed.view d.0; number = eqb-true h.number proposed.number g.0 };
      digest = g.1;
      sender = ltb-true h.sender (replicas f) b.0;
      backup = not-true (eqb h.sender (primary f h.view)) b.1;
    }

pub checkpoints_apart : (f number : ℕ) (log : Log) → SlotsDiffer (headers log) → senders_differ (filter (λ m. is_of f number (header m)) log) ≡ true
checkpoints_apart f number log differ =
    senders_apart 5 0 number (filter (λ m. is_of f number (header m)) log) (passing (λ m. is_of f number (header m)) (IsAt 5 0 number) (λ m e. (of_number f number m e).at) log) (differ_kept (is_of f number) log differ)

pub backups_apart : (f : ℕ) (proposed : Vote) (log : Log) → SlotsDiffer (headers log) → senders_differ (filter (λ m. backs f proposed (header m)) log) ≡ true
backups_apart f proposed log differ =
    senders_apart 3 proposed.view proposed.number (filter (λ m. backs f proposed (header m)) log)
    (passing (λ m. backs f proposed (header m)) (IsAt 3 proposed.view proposed.number) (λ m e. (backed_by f proposed m e).at) log) (differ_kept (backs f proposed) log differ)

pub few_checkpoints : (f number : ℕ) (log : Log) → f ≤ most_faults → SlotsDiffer (headers log) → length (checkpoints_of f number log) ≤ most_replicas
few_checkpoints f number log small differ =
    let kept = filter (λ m. is_of f number (header m)) log in
    let most = at_most f kept small (passing (λ m. is_of f number (header m)) (λ m. (header m).sender < replicas f) (λ m e. (of_number f number m e).sender) log) (checkpoints_apart f number log differ) in
    let fewer = found_fewer (λ (m : Signed OrderMessage). checkpoint_in m.message m.auth) kept in
    omega (arith, most, fewer)

pub few_backing : (f : ℕ) (proposed : Vote) (log : Log) → f ≤ most_faults → SlotsDiffer (headers log) → length (backing f proposed log) ≤ most_replicas
few_backing f proposed log small differ =
    let kept = filter (λ m. backs f proposed (header m)) log in
    let most = at_most f kept small (passing (λ m. backs f proposed (header m)) (λ m. (header m).sender < replicas f) (λ m e. (backed_by f proposed m e).sender) log) (backups_apart f proposed log differ) in
    let fewer = found_fewer (λ (m : Signed OrderMessage). prepare_in m.message m.auth) kept in
    omega (arith, most, fewer)

-- With one message more ------------------------------------------------------------------------------------------------

pub found_next : {A B : Type 0} (h : A → Option B) (p : A → Bool) (xs : List A) (i : ℕ) (x : A) (old new more : List B) → new ≡ old ++ more
    → old ≡ filter_map h (filter p (take i xs)) → more ≡ filter_map h (filter p (x ∷ [])) → i < length xs → x ≡ get_or xs i x → new ≡ filter_map h (filter p (take (i + 1) xs))
found_next h p xs i x old new more grown before found lt is =
    grown ∙ ap (λ ys. ys ++ more) before
    ∙ ap (λ ys. filter_map h (filter p (take i xs)) ++ ys) (found ∙ ap (λ y. filter_map h (filter p (y ∷ []))) is)
    ∙ sym (ap (λ ys. filter_map h (filter p ys)) (take_more xs i x lt) ∙ ap (filter_map h) (filter-append p (take i xs) (get_or xs i x ∷ [])) ∙ filter_map-append h (filter p (take i xs)) (filter p (get_or xs i x ∷ [])))

pub latest_next : (f me : ℕ) (log : Log) (number : ℕ) (xs : Log) (i : ℕ) (x : Signed OrderMessage) (found next : Option (Signed model.PrePrepare)) (more : List (Signed model.PrePrepare))
    → next ≡ fold later found more → found ≡ latest (prepared_among f me log number (take i xs)) → more ≡ prepared_among f me log number (x ∷ []) → i < length xs → x ≡ get_or xs i x
    → next ≡ latest (prepared_among f me log number (take (i + 1) xs))
latest_next f me log number xs i x found next more e before here lt is =
    let at = prepared_among f me log number in
    let grown : at (take i xs) ++ at (x ∷ []) ≡ at (take (i + 1) xs) =
    found_next (λ (m : Signed OrderMessage). proposal_in m.message m.auth) (λ m. is_prepared_for f me log number (header m)) xs i x (at (take i xs)) (at (take i xs) ++ at (x ∷ [])) (at (x ∷ [])) refl refl refl lt is in
    e ∙ ap (λ o. fold later o more) before ∙ ap (fold later (latest (at (take i xs)))) here
    ∙ sym (fold-append later None (at (take i xs)) (at (x ∷ []))) ∙ ap (fold later None) grown
