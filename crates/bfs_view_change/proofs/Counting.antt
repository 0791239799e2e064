-- Counting senders: those that pass a wider test are no fewer, and no more senders than messages.
use Rattle.std.proofs.Common.{ℕ, ◌≤◌, false, eqb, [], ◌∷◌, length, refl, arith}
use Rattle.bfs_votes.specs.Votes.{count_below}
use Rattle.bfs_log.specs.Headers.{header}
use Rattle.bfs_log.specs.Logs.{Log}
use Rattle.bfs_log.specs.Certificates.{has_sender}
use Rattle.bfs_votes.proofs.Public.{either_below, once_below, none_below}

pub senders_fit : (ms : Log) (n : ℕ) → count_below (has_sender ms) n ≤ length ms
senders_fit [] n = omega (arith, none_below (λ k. false) n (λ k. refl))
senders_fit (m ∷ ms) n = omega (arith, either_below (λ k. eqb (header m).sender k) (has_sender ms) n, once_below (header m).sender n, senders_fit ms n)
