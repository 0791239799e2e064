use Rattle.std.proofs.Common.{ℕ, List, ◌++◌}
use Rattle.sha2.specs.Hashers.{Holds256}
use Rattle.bfs_digest.proofs.BlockDigests.{digests_before}
use Rattle.bfs_digest.proofs.blocks.File.hash_blocks.Given as goal

abbrev pub invariant-loop-number : goal.invariant-loop-number
invariant-loop-number l = (m : List ℕ) → Holds256 l.fn.hasher m → Holds256 l.hasher (m ++ digests_before l.self l.number)
