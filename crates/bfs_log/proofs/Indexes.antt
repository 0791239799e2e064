-- What is asked of a log is asked of what is said at one place.
use Rattle.std.proofs.Common.{◌≡◌, ℕ, Bool, true, false, ◌&&◌, ◌||◌, not, cond, List, [], ◌∷◌, refl, ap, sym, subst, ◌∙◌, nat_lt}
use Rattle.std.specs.Prelude.{◌==◌, bytes_eq, map, filter, find, count_by, Option, Some}
use Rattle.std.specs.List.{list_any}
use Rattle.std.specs.Option.{option_map}
use Rattle.std.proofs.Math.Bool.{and_comm, and_assoc}
use Rattle.std.proofs.lemmas.Bool.{and_parts, eqb-true}
use Rattle.bfs_messages.specs.declared.signed.Signed.{Signed}
use Rattle.bfs_messages.specs.declared.order_messages.OrderMessage.{OrderMessage}
use Rattle.bfs_votes.specs.Votes.{Header, SlotsDiffer, is_slot, has_slot, is_taken, says, told, tellers, backups, primary, replicas}
use Rattle.bfs_log.specs.Batches.{Said}
use Rattle.bfs_log.specs.Headers.{header}
use Rattle.bfs_log.specs.Logs.{Log, headers, said_in, said_of}
use Rattle.bfs_log.specs.Places.{is_at, said_at, same_place, place_of}
use Rattle.bfs_log.specs.Rows.{SendersDiffer, is_from, tells}
use Rattle.bfs_log.specs.declared.places.Place.{Place}
use Rattle.bfs_log.proofs.Counts.{tellers_counted}
use Rattle.bfs_votes.proofs.Public.{same_count}

abbrev pub slot_place : (tag view number : ℕ) → Place
slot_place tag view number = record { number = number; view = view; tag = tag }

abbrev pub rows_of : Log → List Said
rows_of log = map said_in log

same_parts : (a b c x y z : ℕ) → a ≡ x → b ≡ y → c ≡ z → slot_place a b c ≡ slot_place x y z
same_parts a b c x y z d e f = rw (d, e, f) refl

pub one_place : (p q : Place) → same_place p q ≡ true → p ≡ q
one_place p q same =
    let parts = and_parts (p.number == q.number) ((p.view == q.view) && (p.tag == q.tag)) same in
    let rest = and_parts (p.view == q.view) (p.tag == q.tag) parts.1 in
    same_parts p.tag p.view p.number q.tag q.view q.number (eqb-true p.tag q.tag rest.1) (eqb-true p.view q.view rest.0) (eqb-true p.number q.number parts.0)

-- the slot of a message is its place and its sender
pub in_slot : (tag sender view number : ℕ) (h : Header) → is_slot tag sender view number h ≡ (is_at (slot_place tag view number) h && (h.sender == sender))
in_slot tag sender view number h = reorder (h.tag == tag) (h.sender == sender) (h.view == view) (h.number == number)
  where
    reorder : (t s v n : Bool) → (t && (s && (v && n))) ≡ ((n && (v && t)) && s)
    reorder t s v n =
        ap (λ b. t && b) (and_comm s (v && n)) ∙ sym (and_assoc t (v && n) s)
        ∙ ap (λ b. b && s) (and_comm t (v && n) ∙ ap (λ b. b && t) (and_comm v n) ∙ and_assoc n v t)

any_step : (a t : Bool) (q : Said → Bool) (m : Signed OrderMessage) (kept : Log) (rest : Bool) → t ≡ (a && q (said_in m)) → rest ≡ list_any q (rows_of kept)
    → (t || rest) ≡ list_any q (rows_of (cond a (m ∷ kept) kept))
any_step true t q m kept rest e h = rw (e, h)
any_step false t q m kept rest e h = rw (e, h)

any_at : (place : Place) (test : Header → Bool) (q : Said → Bool) → ((m : Signed OrderMessage) → test (header m) ≡ (is_at place (header m) && q (said_in m)))
    → (log : Log) → list_any test (headers log) ≡ list_any q (said_at place log)
any_at place test q same [] = refl
any_at place test q same (m ∷ log) =
    any_step (is_at place (header m)) (test (header m)) q m (filter (λ m. is_at place (header m)) log) (list_any test (headers log)) (same m) (any_at place test q same log)

pub has_at : (log : Log) (tag sender view number : ℕ) → has_slot (headers log) tag sender view number ≡ list_any (is_from sender) (said_at (slot_place tag view number) log)
has_at log tag sender view number =
    any_at (slot_place tag view number) (is_slot tag sender view number) (is_from sender) (λ m. in_slot tag sender view number (header m)) log

pub told_at : (log : Log) (tag sender view number : ℕ) (digest : List ℕ) → told (headers log) tag sender view number digest ≡ tells (said_at (slot_place tag view number) log) digest sender
told_at log tag sender view number digest =
    any_at (slot_place tag view number) (says tag sender view number digest) (λ said. is_from sender said && bytes_eq said.digest digest)
    (λ m. ap (λ b. b && bytes_eq (header m).digest digest) (in_slot tag sender view number (header m)) ∙ and_assoc (is_at (slot_place tag view number) (header m)) ((header m).sender == sender) (bytes_eq (header m).digest digest))
    log

abbrev said_by : Option (Signed OrderMessage) → Option Said
said_by found = option_map said_in found

found_step : (s : Bool) (m : Signed OrderMessage) (rest : Option (Signed OrderMessage)) (found : Option Said) → said_by rest ≡ found → said_by (cond s (Some m) rest) ≡ cond s (Some (said_in m)) found
found_step true m rest found h = refl
found_step false m rest found h = h

find_step : (a t : Bool) (sender : ℕ) (m : Signed OrderMessage) (kept : Log) (rest : Option (Signed OrderMessage)) → t ≡ (a && ((header m).sender == sender))
    → said_by rest ≡ find (is_from sender) (rows_of kept) → said_by (cond t (Some m) rest) ≡ find (is_from sender) (rows_of (cond a (m ∷ kept) kept))
find_step true t sender m kept rest e h = rw e (found_step ((header m).sender == sender) m rest (find (is_from sender) (rows_of kept)) h)
find_step false t sender m kept rest e h = rw e h

pub found_at : (log : Log) (tag sender view number : ℕ) → said_of log tag sender view number ≡ find (is_from sender) (said_at (slot_place tag view number) log)
found_at [] tag sender view number = refl
found_at (m ∷ log) tag sender view number =
    find_step (is_at (slot_place tag view number) (header m)) (is_slot tag sender view number (header m)) sender m (filter (λ m. is_at (slot_place tag view number) (header m)) log)
    (find (λ m. is_slot tag sender view number (header m)) log) (in_slot tag sender view number (header m)) (found_at log tag sender view number)

senders_step : (place : Place) (m : Signed OrderMessage) (log : Log) (a : Bool) → is_at place (header m) ≡ a → is_taken (headers log) (header m) ≡ false
    → SendersDiffer (said_at place log) → SendersDiffer (rows_of (cond a (m ∷ filter (λ m. is_at place (header m)) log) (filter (λ m. is_at place (header m)) log)))
senders_step place m log true here free differ =
    let at = one_place (place_of (header m)) place here in
    let h = header m in
    (subst (λ p. list_any (is_from h.sender) (said_at p log) ≡ false) at (sym (has_at log h.tag h.sender h.view h.number) ∙ free), differ)
senders_step place m log false here free differ = differ

pub senders_differ : (place : Place) (log : Log) → SlotsDiffer (headers log) → SendersDiffer (said_at place log)
senders_differ place [] differ = tt
senders_differ place (m ∷ log) differ = senders_step place m log (is_at place (header m)) refl differ.0 (senders_differ place log differ.1)

pub tellers_at : (log : Log) (f tag view number : ℕ) (digest : List ℕ) → SlotsDiffer (headers log)
    → tellers f (headers log) tag view number digest ≡ count_by (λ said. nat_lt said.sender (replicas f) && bytes_eq said.digest digest) (said_at (slot_place tag view number) log)
tellers_at log f tag view number digest differ =
    let place = slot_place tag view number in
    same_count (λ k. told (headers log) tag k view number digest) (tells (said_at place log) digest) (replicas f) (λ k. told_at log tag k view number digest)
    ∙ tellers_counted (said_at place log) digest (λ k. true) (replicas f) (senders_differ place log differ)

pub backups_at : (log : Log) (f view number : ℕ) (digest : List ℕ) → SlotsDiffer (headers log)
    → backups f (headers log) view number digest ≡ count_by (λ said. nat_lt said.sender (replicas f) && (not (said.sender == primary f view) && bytes_eq said.digest digest)) (said_at (slot_place 3 view number) log)
backups_at log f view number digest differ =
    let place = slot_place 3 view number in
    let other : ℕ → Bool = λ k. not (k == primary f view) in
    same_count (λ k. other k && told (headers log) 3 k view number digest) (λ k. other k && tells (said_at place log) digest k) (replicas f)
    (λ k. ap (λ b. other k && b) (told_at log 3 k view number digest))
    ∙ tellers_counted (said_at place log) digest other (replicas f) (senders_differ place log differ)
