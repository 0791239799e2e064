-- What holds of the log of a replica after any calls.
use Rattle.std.specs.Prelude.{◌≡◌, ◌<◌, ◌≤◌, ◌⊎◌, ℕ, ◌+◌, true, List, All}
use Rattle.bfs_votes.specs.Votes.{Header, SlotsDiffer, is_stable}
use Rattle.bfs_order.specs.Replica.States.{State, known}
use Rattle.bfs_votes.specs.Tags.{checkpoint_tag}
use Rattle.bfs_model.specs.Server.Limits.{log_size}

-- no two messages of the log have one kind, sender, view and number
abbrev pub HasDistinctSlots : State → Type 0
HasDistinctSlots s = SlotsDiffer (known s)

-- a PRE-PREPARE, PREPARE or COMMIT above the low mark or a CHECKPOINT not below it, and not above the high mark
pub record IsInWindow (low : ℕ) (h : Header) : Type 0 where
  pub from : low ≤ h.number
  pub above : h.tag < checkpoint_tag → low < h.number
  pub to : h.number ≤ low + log_size

abbrev pub IsWindowed : State → Type 0
IsWindowed s = All (IsInWindow s.low) (known s)

-- enough CHECKPOINTs tell a digest, and no CHECKPOINT of that number tells another
pub record IsCertified (f : ℕ) (log : List Header) (number : ℕ) (digest : List ℕ) : Type 0 where
  pub stable : is_stable f log number digest ≡ true
  pub one : All (λ h. h.tag ≡ checkpoint_tag → h.number ≡ number → h.digest ≡ digest) log

-- the certificate of the stable checkpoint is in the log, but for number 0, which has none
abbrev pub HasCertificate : State → Type 0
HasCertificate s = (s.low ≡ 0) ⊎ ((digest : List ℕ) × IsCertified s.f (known s) s.low digest)

-- no message of the log is of a later view than the one entered
abbrev pub HasNoLaterView : State → Type 0
HasNoLaterView s = All (λ h. h.view ≤ s.view) (known s)
