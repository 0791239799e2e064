use Rattle.std.specs.List.{AllByRecursion}
use Rattle.std.specs.FinMap.{entries}
use Rattle.sha2.specs.Hashers.{Holds256}
use Rattle.bfs_tree.specs.Tree.{at_home}
use Rattle.bfs_digest.specs.Digests.{digest_text}
use Rattle.bfs_digest.proofs.Hashed.{IsThere}
use Rattle.bfs_digest.proofs.Pieces.{Fed}
use Rattle.bfs_digest.proofs.digests.hash_digests.Given as goal

abbrev pub invariant-loop-id : goal.invariant-loop-id
invariant-loop-id l = record {
  fed : Fed Holds256 digest_text l.fn.hasher l.hasher l.id-iterator (entries (at_home l.tree));
  there : AllByRecursion (IsThere (at_home l.tree)) l.id-iterator;
}
