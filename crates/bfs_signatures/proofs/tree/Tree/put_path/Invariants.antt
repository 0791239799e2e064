use Rattle.std.proofs.Common.{◌≡◌, ◌/◌, ◌^◌, ◌++◌}
use Rattle.lms.specs.Chains.{joined}
use Rattle.bfs_signatures.specs.Signing.{beside}
use Rattle.bfs_signatures.specs.Nodes.{place_of}
use Rattle.bfs_signatures.proofs.tree.Tree.put_path.Given as goal

abbrev pub invariant-loop-level : goal.invariant-loop-level
invariant-loop-level l = record {
  place : l.place ≡ place_of l.self-inside.height l._level (l.leaf / 2 ^ l._level);
  path : l.out.items ≡ l.fn.out.items ++ joined (beside l.self l.leaf) l._level;
}
