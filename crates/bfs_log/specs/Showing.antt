-- What a log shows to others: that a number is stable, and that a batch was prepared (OSDI 1999 sections 4.3 and 4.4).
use Rattle.std.specs.Prelude.{ℕ, ◌==◌, Bool, ◌&&◌, not, List, map, Option, Some, None, nat_lt, if◌then◌else◌}
use Rattle.std.specs.List.{filter, filter_map, fold}
use Rattle.std.specs.Option.{option_map}
use Rattle.bfs_auth.specs.declared.authenticators.Authenticator.{Authenticator}
use Rattle.bfs_votes.specs.Tags.{checkpoint_tag, pre_prepare_tag}
use Rattle.bfs_votes.specs.Votes.{Header, prepared, primary, replicas}
use Rattle.bfs_messages.specs.Messages as model
use Rattle.bfs_messages.specs.Messages.{Vote, PreparedBatch}
use Rattle.bfs_messages.specs.declared.signed.Signed.{Signed}
use Rattle.bfs_messages.specs.declared.order_messages.OrderMessage.{OrderMessage}
use Rattle.bfs_messages.specs.declared.order_messages.OrderMessage.TheVariants.{PrePrepare, Prepare, Commit, Checkpoint}
use Rattle.bfs_log.specs.Batches.{Said}
use Rattle.bfs_log.specs.Certificates.{matches}
use Rattle.bfs_log.specs.Headers.{header}
use Rattle.bfs_log.specs.Logs.{Log, headers}

-- The messages of a kind, in the order of a log ---------------------------------------------------------------------------

abbrev pub proposal_in : OrderMessage → (auth : Authenticator) → Option (Signed model.PrePrepare)
proposal_in (PrePrepare proposal) auth = Some (record { message = proposal; auth = auth })
proposal_in (Prepare vote) auth = None
proposal_in (Commit vote) auth = None
proposal_in (Checkpoint checkpoint) auth = None

abbrev pub prepare_in : OrderMessage → (auth : Authenticator) → Option (Signed model.Vote)
prepare_in (PrePrepare proposal) auth = None
prepare_in (Prepare vote) auth = Some (record { message = vote; auth = auth })
prepare_in (Commit vote) auth = None
prepare_in (Checkpoint checkpoint) auth = None

abbrev pub checkpoint_in : OrderMessage → (auth : Authenticator) → Option (Signed model.Checkpoint)
checkpoint_in (PrePrepare proposal) auth = None
checkpoint_in (Prepare vote) auth = None
checkpoint_in (Commit vote) auth = None
checkpoint_in (Checkpoint checkpoint) auth = Some (record { message = checkpoint; auth = auth })

abbrev pub proposals : Log → List (Signed model.PrePrepare)
proposals log = filter_map (λ m. proposal_in m.message m.auth) log

abbrev pub prepares : Log → List (Signed model.Vote)
prepares log = filter_map (λ m. prepare_in m.message m.auth) log

abbrev pub checkpoints : Log → List (Signed model.Checkpoint)
checkpoints log = filter_map (λ m. checkpoint_in m.message m.auth) log

-- That a number is stable -------------------------------------------------------------------------------------------------

-- a replica's CHECKPOINT of a number
abbrev pub is_of : (f number : ℕ) → Header → Bool
is_of f number h = (h.tag == checkpoint_tag) && ((h.number == number) && nat_lt h.sender (replicas f))

abbrev pub checkpoints_of : (f number : ℕ) → Log → List (Signed model.Checkpoint)
checkpoints_of f number log = checkpoints (filter (λ m. is_of f number (header m)) log)

-- That a batch was prepared -----------------------------------------------------------------------------------------------

-- a PREPARE of a backup that matches a PRE-PREPARE (OSDI 1999 section 4.2)
abbrev pub backs : (f : ℕ) → (proposed : Vote) → Header → Bool
backs f proposed h = matches proposed h && (nat_lt h.sender (replicas f) && not (h.sender == primary f h.view))

abbrev pub backing : (f : ℕ) → (proposed : Vote) → Log → List (Signed Vote)
backing f proposed log = prepares (filter (λ m. backs f proposed (header m)) log)

-- the same of what is said at one place
abbrev pub backing_said : (f : ℕ) → (proposed : Vote) → List Said → List (Signed Vote)
backing_said f proposed row = backing f proposed (map (λ said. said.signed) row)

-- a PRE-PREPARE with the PREPAREs of a log that match it
abbrev pub certificate_of : (f : ℕ) → Log → Signed model.PrePrepare → PreparedBatch
certificate_of f log p = record { proposal = p; prepares = backing f p.message.vote log }

-- a PRE-PREPARE of the primary for a number that is prepared at the replica `me` (OSDI 1999 section 4.2)
abbrev pub is_prepared_for : (f me : ℕ) → Log → (number : ℕ) → Header → Bool
is_prepared_for f me log number h =
    (h.tag == pre_prepare_tag) && ((h.number == number) && ((h.sender == primary f h.view) && prepared f me (headers log) h.view h.number h.digest))

-- those of some messages
abbrev pub prepared_among : (f me : ℕ) → Log → (number : ℕ) → (messages : Log) → List (Signed model.PrePrepare)
prepared_among f me log number messages = proposals (filter (λ m. is_prepared_for f me log number (header m)) messages)

-- the one of the later view
abbrev pub later : Option (Signed model.PrePrepare) → Signed model.PrePrepare → Option (Signed model.PrePrepare)
later None p = Some p
later (Some found) p = Some (if nat_lt found.message.vote.view p.message.vote.view then p else found)

-- of the highest view
abbrev pub latest : List (Signed model.PrePrepare) → Option (Signed model.PrePrepare)
latest found = fold later None found

-- the certificate of the highest view in which a number is prepared at the replica `me` (OSDI 1999 section 4.4)
abbrev pub certificate_for : (f me : ℕ) → Log → (number : ℕ) → Option PreparedBatch
certificate_for f me log number = option_map (certificate_of f log) (latest (prepared_among f me log number log))
