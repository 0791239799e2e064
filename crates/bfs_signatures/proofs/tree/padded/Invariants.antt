use Rattle.std.proofs.Common.{◌≡◌, ◌-◌, ◌++◌, length}
use Rattle.std.specs.Prelude.{replicate}
use Rattle.bfs_signatures.proofs.tree.padded.Given as goal

abbrev pub invariant-loop-missing : goal.invariant-loop-missing
invariant-loop-missing l = l.nodes.items ≡ l.leaves ++ replicate (l._missing - length l.leaves) (replicate 32 0)
