-- Replicas are few.
use Rattle.std.proofs.Common.{◌≡◌, ℕ, ◌+◌, ◌*◌, ◌<◌, ◌≤◌, true, List, [], ◌∷◌, refl, arith}
use Rattle.std.specs.Prelude.{All}
use Rattle.std.proofs.lemmas.Bool.{and_from, lt-ltb}
use Rattle.std.proofs.lemmas.List.Elements.{All-head, All-tail}
use Rattle.std.proofs.Math.Nat.{mod-lt}
use Rattle.bfs_auth.specs.Keys.{Keys}
use Rattle.bfs_votes.specs.Votes.{primary}
use Rattle.bfs_log.specs.Certificates.{StableCheckpoint, checkpoints_in, is_shown}
use Rattle.bfs_log.specs.Headers.{header}
use Rattle.bfs_log.specs.Logs.{Log}
use Rattle.bfs_log.proofs.Public.{IsVoucher, vouched}
use Rattle.bfs_order.specs.Inside.Senders.{are_from_few, is_from_few}
use Rattle.bfs_model.specs.Server.Limits.{most_faults, most_replicas}

pub primary_is_few : (f view : ℕ) → f ≤ most_faults → primary f view < most_replicas
primary_is_few f view few = omega (arith, few, mod-lt view {m = 3 * f + 1} (omega arith))

few_vouch : (keys : Keys) (f n : ℕ) (d : List ℕ) (ms : Log) → f ≤ most_faults → All (IsVoucher keys f n d) ms → are_from_few ms ≡ true
few_vouch keys f n d [] few all = refl
few_vouch keys f n d (m ∷ ms) few all =
    let is = All-head (IsVoucher keys f n d) m ms all in
    let lt : (header m).sender < most_replicas = omega (arith, few, is.sender) in
    and_from (is_from_few m) (are_from_few ms) (lt-ltb (header m).sender most_replicas lt) (few_vouch keys f n d ms few (All-tail (IsVoucher keys f n d) m ms all))

pub few_show : (keys : Keys) (f : ℕ) (c : StableCheckpoint) → f ≤ most_faults → is_shown keys f c ≡ true → are_from_few (checkpoints_in c) ≡ true
few_show keys f c few is = few_vouch keys f c.number c.digest (checkpoints_in c) few (vouched keys f c is).each
