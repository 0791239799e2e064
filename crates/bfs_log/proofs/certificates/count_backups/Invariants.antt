use Rattle.std.proofs.Common.{◌≡◌, ◌≤◌}
use Rattle.std.specs.Prelude.{◌==◌, ◌&&◌, not}
use Rattle.bfs_votes.specs.Votes.{count_below, told}
use Rattle.bfs_log.specs.Logs.{headers}
use Rattle.bfs_log.specs.Certificates.{number_in, view_in, vote_in}
use Rattle.bfs_log.specs.Certificates.{messages_in}
use Rattle.bfs_log.proofs.certificates.count_backups.Given as goal

abbrev pub invariant-loop-replica : goal.invariant-loop-replica
invariant-loop-replica l =
    (l.count ≡ count_below (λ k. not (k == l.primary) && told (headers (messages_in l.prepared)) 3 k (view_in l.prepared) (number_in l.prepared) (vote_in l.prepared).digest) l.replica)
    × (l.count ≤ l.replica)
