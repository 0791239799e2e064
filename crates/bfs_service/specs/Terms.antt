-- How a replica serves, by its cluster.
use Rattle.std.specs.Prelude.{ℕ, ◌+◌, ◌-◌, ◌*◌, ◌/◌, ◌^◌, min, Bool, true, false}
use Rattle.bfs_model.specs.Server.Limits.{log_size, most_replicas}
use Rattle.bfs_auth.specs.Signatures.{most_signature_bytes}
use Rattle.bfs_frames.specs.declared.limits.Limits.{Limits}
use Rattle.bfs_service.specs.declared.terms.Terms.{Terms}

-- the most bytes of a vote in a certificate: 128 at most beside a signature, or beside keyed hashes for each replica
abbrev pub vote_bytes : (is_signed : Bool) → ℕ
vote_bytes true = 128 + (8 + most_signature_bytes)
vote_bytes false = 128 + (4 + 32 * most_replicas)

-- a batch whose PRE-PREPARE fits in a frame beside its authenticator, and so often in a NEW-VIEW as 2f + 1 VIEW-CHANGEs with whole logs and a log of its own
-- have batches, each with 2f + 1 votes (OSDI 1999 section 4.4)
abbrev pub most_batch_bytes : (f : ℕ) → Limits → (are_signed : Bool) → ℕ
most_batch_bytes f limits are_signed = min (limits.new_view / ((2 * f + 2) * log_size) - (2 * f + 1) * vote_bytes are_signed) (limits.order / 2)

-- with its patience in milliseconds
abbrev pub terms_of : (f patience : ℕ) → Limits → (are_signed : Bool) → Terms
terms_of f patience limits are_signed = record { patience = 1000 * patience; most_batch_bytes = most_batch_bytes f limits are_signed; most_state_bytes = 2 ^ 32 }
