use Rattle.std.proofs.Common.{◌≡◌, ℕ, true, take}
use Rattle.std.specs.BTreeSet.{contains}
use Rattle.std.specs.Ordering.{nat_cmp}
use Rattle.bfs_log.specs.Certificates.{as_checkpoints, has_sender, senders_differ}
use Rattle.bfs_saving.proofs.certificates.do_senders_differ.Given as goal

abbrev pub invariant-loop-signed : goal.invariant-loop-signed
invariant-loop-signed l =
    ((k : ℕ) → contains nat_cmp l.seen k ≡ has_sender (as_checkpoints (take l.signed-index l.checkpoints)) k) × (senders_differ (as_checkpoints (take l.signed-index l.checkpoints)) ≡ true)
