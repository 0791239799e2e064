-- Messages by their headers, and what messages tell of a batch or a checkpoint (OSDI 1999 sections 4.2 and 4.3). Senders are counted, not messages.
use Rattle.std.specs.Prelude.{◌≡◌, ℕ, zero, suc, ◌+◌, ◌*◌, ◌%◌, ◌==◌, Bool, true, false, ◌&&◌, ◌||◌, not, cond, List, [], ◌∷◌, bytes_eq, nat_le}
use Rattle.std.specs.List.{list_any}
use Rattle.bfs_votes.specs.Tags.{checkpoint_tag, commit_tag, pre_prepare_tag, prepare_tag}

-- what a message says: the tag is that of its text (Tags). A CHECKPOINT has no view: its view is 0 here
pub record Header : Type 0 where
  pub tag : ℕ
  pub sender : ℕ
  pub view : ℕ
  pub number : ℕ
  pub digest : List ℕ

-- a message has that kind and sender, and is of that view and number (OSDI 1999 section 4.2)
abbrev pub is_slot : (tag sender view number : ℕ) → Header → Bool
is_slot tag sender view number h = (h.tag == tag) && ((h.sender == sender) && ((h.view == view) && (h.number == number)))

-- a message of that kind, sender, view and number is in the log (OSDI 1999 section 4.2)
abbrev pub has_slot : List Header → (tag sender view number : ℕ) → Bool
has_slot log tag sender view number = list_any (is_slot tag sender view number) log

-- a message of a header's kind, sender, view and number is in the log (OSDI 1999 section 4.2)
abbrev pub is_taken : List Header → Header → Bool
is_taken log h = has_slot log h.tag h.sender h.view h.number

-- no two messages have one kind, sender, view and number (OSDI 1999 section 4.2)
abbrev pub SlotsDiffer : List Header → Type 0
SlotsDiffer [] = Unit {0}
SlotsDiffer (h ∷ hs) = (is_taken hs h ≡ false) × SlotsDiffer hs

-- a message tells that digest there (OSDI 1999 section 4.2)
abbrev pub says : (tag sender view number : ℕ) → List ℕ → Header → Bool
says tag sender view number digest h = is_slot tag sender view number h && bytes_eq h.digest digest

-- the sender has told that digest in a message of that kind, view and number (OSDI 1999 section 4.2)
abbrev pub told : List Header → (tag sender view number : ℕ) → List ℕ → Bool
told log tag sender view number digest = list_any (says tag sender view number digest) log

-- the same as a fact (OSDI 1999 section 4.2)
abbrev pub Told : List Header → (tag sender view number : ℕ) → List ℕ → Type 0
Told log tag sender view number digest = told log tag sender view number digest ≡ true

-- how many numbers below n pass a test
abbrev pub count_below : (ℕ → Bool) → ℕ → ℕ
count_below p zero = 0
count_below p (suc n) = cond (p n) (1 + count_below p n) (count_below p n)

-- how many replicas there are where f of them may be faulty (OSDI 1999 section 4)
abbrev pub replicas : (f : ℕ) → ℕ
replicas f = 3 * f + 1

-- which replica leads a view (OSDI 1999 section 4)
abbrev pub primary : (f view : ℕ) → ℕ
primary f view = view % replicas f

-- how many replicas have told a digest (OSDI 1999 sections 4.2 and 4.3)
abbrev pub tellers : (f : ℕ) → List Header → (tag view number : ℕ) → List ℕ → ℕ
tellers f log tag view number digest = count_below (λ k. told log tag k view number digest) (replicas f)

-- how many replicas other than the primary have told it by a PREPARE (OSDI 1999 section 4.2)
abbrev pub backups : (f : ℕ) → List Header → (view number : ℕ) → List ℕ → ℕ
backups f log view number digest = count_below (λ k. not (k == primary f view) && told log prepare_tag k view number digest) (replicas f)

-- the primary's PRE-PREPARE and 2f matching PREPAREs of different backups (OSDI 1999 section 4.2)
abbrev pub is_backed : (f : ℕ) → List Header → (view number : ℕ) → List ℕ → Bool
is_backed f log view number digest = told log pre_prepare_tag (primary f view) view number digest && nat_le (2 * f) (backups f log view number digest)

-- backed, and by the own PREPARE, which the primary has none of (OSDI 1999 section 4.2)
abbrev pub prepared : (f me : ℕ) → List Header → (view number : ℕ) → List ℕ → Bool
prepared f me log view number digest = is_backed f log view number digest && ((me == primary f view) || told log prepare_tag me view number digest)

-- prepared, and 2f + 1 matching COMMITs, the own one among them: committed-local (OSDI 1999 section 4.2)
abbrev pub committed : (f me : ℕ) → List Header → (view number : ℕ) → List ℕ → Bool
committed f me log view number digest =
    prepared f me log view number digest && (nat_le (2 * f + 1) (tellers f log commit_tag view number digest) && told log commit_tag me view number digest)

-- 2f + 1 CHECKPOINTs with that number and digest (OSDI 1999 section 4.3)
abbrev pub is_stable : (f : ℕ) → List Header → (number : ℕ) → List ℕ → Bool
is_stable f log number digest = nat_le (2 * f + 1) (tellers f log checkpoint_tag 0 number digest)
