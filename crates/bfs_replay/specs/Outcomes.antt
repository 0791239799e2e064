-- How a run ends, by the digests of its replicas.
use Rattle.std.specs.Prelude.{ℕ, Bool, true, List, [], ◌∷◌, Option, Some, None, bytes_eq, if◌then◌else◌}
use Rattle.std.specs.List.{list_all}
use Rattle.bfs_replay.specs.declared.failure.Failure.{Failure}
use Rattle.bfs_replay.specs.declared.failure.Failure.TheVariants as failure
use Rattle.bfs_replay.specs.declared.outcome.Outcome.{Outcome}
use Rattle.bfs_replay.specs.declared.outcome.Outcome.TheVariants.{Agree, Differ}

-- each digest is the first one; there may be none
abbrev pub are_alike : List (List ℕ) → Bool
are_alike [] = true
are_alike (first ∷ others) = list_all (λ digest. bytes_eq digest first) others

abbrev pub outcome_of : List (List ℕ) → Outcome
outcome_of digests = if are_alike digests then Agree else Differ

abbrev pub failure_of_outcome : Outcome → Option Failure
failure_of_outcome Agree = None
failure_of_outcome Differ = Some failure.Differ
