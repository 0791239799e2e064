use Rattle.std.proofs.Common.{◌≡◌, ◌/◌, ◌^◌}
use Rattle.bfs_signatures.specs.Hashes.{climbed}
use Rattle.bfs_signatures.proofs.hashes.climb.Given as goal

abbrev pub invariant-loop-level : goal.invariant-loop-level
invariant-loop-level l = record {
  number : l.number ≡ l.fn.number / 2 ^ l.level;
  node : l.node ≡ climbed l.fn.number l.fn.node l.path l.level;
}
