-- What a new view takes over from VIEW-CHANGEs (OSDI 1999 section 4.4): nothing but them decides it.
use Rattle.std.specs.Prelude.{ℕ, ◌+◌, ◌-◌, ◌==◌, List, [], ◌∷◌, map, max, Option, Some, None, if◌then◌else◌}
use Rattle.std.specs.List.{flat_map, filter, fold, range_with_len}
use Rattle.std.specs.declared.cmp.Ordering.{Ordering}
use Rattle.std.specs.Ordering.{nat_cmp, ordering_then, is_lt}
use Rattle.std.specs.Cmp.Lexicographic.{slice_cmp}
use Rattle.bfs_log.specs.Certificates.{number_in, view_in}
use Rattle.bfs_messages.specs.Messages.{Batch, PreparedBatch, ViewChange}
use Rattle.bfs_messages.specs.Batches.{batch_text}

-- a batch that was prepared for a number, as the VIEW-CHANGE of a sender tells
pub record Candidate : Type 0 where
  pub view : ℕ
  pub sender : ℕ
  pub batch : Batch

abbrev pub candidate : (sender : ℕ) → PreparedBatch → Candidate
candidate sender c = record { view = view_in c; sender = sender; batch = c.proposal.message.batch }

abbrev pub candidates_in : (number : ℕ) → ViewChange → List Candidate
candidates_in number change = map (candidate change.sender) (filter (λ c. number_in c == number) change.certificates)

abbrev pub candidates : (number : ℕ) → List ViewChange → List Candidate
candidates number changes = flat_map (candidates_in number) changes

-- the higher view first, then the lower sender, then the batch whose text is first in the order of bytes
abbrev pub rank : Candidate → Candidate → Ordering
rank a b = ordering_then (nat_cmp b.view a.view) (ordering_then (nat_cmp a.sender b.sender) (slice_cmp nat_cmp (batch_text a.batch) (batch_text b.batch)))

-- the first in rank of what was found so far and one more
abbrev pub better : Option Candidate → Candidate → Option Candidate
better None c = Some c
better (Some b) c = Some (if is_lt (rank c b) then c else b)

abbrev pub best : List Candidate → Option Candidate
best found = fold better None found

-- where nothing was prepared, the null request (OSDI 1999 section 4.4)
abbrev pub batch_of : Option Candidate → Batch
batch_of None = None
batch_of (Some c) = c.batch

abbrev pub greatest : List ℕ → ℕ
greatest [] = 0
greatest (n ∷ ns) = max n (greatest ns)

-- min-s: the latest stable number (OSDI 1999 section 4.4)
abbrev pub latest_stable : List ViewChange → ℕ
latest_stable changes = greatest (map (λ change. change.stable) changes)

-- the highest number that was prepared, as one VIEW-CHANGE tells
abbrev pub last_in : ViewChange → ℕ
last_in change = greatest (map number_in change.certificates)

-- max-s: the highest number that was prepared, or min-s if that is greater (OSDI 1999 section 4.4)
abbrev pub last_number : List ViewChange → ℕ
last_number changes = max (latest_stable changes) (greatest (map last_in changes))

-- a number of the new view, and the batch that has it
pub record Chosen : Type 0 where
  pub number : ℕ
  pub batch : Batch

pub record Choice : Type 0 where
  pub min_s : ℕ
  pub chosen : List Chosen

abbrev pub chosen_for : List ViewChange → (number : ℕ) → Chosen
chosen_for changes number = record { number = number; batch = batch_of (best (candidates number changes)) }

-- min-s, and a batch for each number above it up to max-s (OSDI 1999 section 4.4)
abbrev pub choice : List ViewChange → Choice
choice changes = record {
  min_s = latest_stable changes;
  chosen = map (chosen_for changes) (range_with_len (latest_stable changes + 1) (last_number changes - latest_stable changes));
}
