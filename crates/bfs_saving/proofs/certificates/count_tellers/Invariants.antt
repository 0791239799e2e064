use Rattle.std.proofs.Common.{◌≡◌, ◌≤◌}
use Rattle.bfs_votes.specs.Votes.{count_below, told}
use Rattle.bfs_log.specs.Certificates.{checkpoints_in}
use Rattle.bfs_log.specs.Logs.{headers}
use Rattle.bfs_saving.proofs.certificates.count_tellers.Given as goal

abbrev pub invariant-loop-replica : goal.invariant-loop-replica
invariant-loop-replica l =
    (l.count ≡ count_below (λ k. told (headers (checkpoints_in l.certificate)) 5 k 0 l.certificate.number l.certificate.digest) l.replica) × (l.count ≤ l.replica)
