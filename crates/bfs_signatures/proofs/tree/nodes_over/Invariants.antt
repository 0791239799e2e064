use Rattle.std.proofs.Common.{◌≡◌, ◌+◌, ◌^◌, length, take}
use Rattle.bfs_signatures.specs.Nodes.{HasNodes}
use Rattle.bfs_signatures.proofs.tree.nodes_over.Given as goal

abbrev pub invariant-loop-number : goal.invariant-loop-number
invariant-loop-number l = record {
  long : length l.nodes.items ≡ 2 ^ l.height + l.number;
  leaves : take (length l.leaves) l.nodes.items ≡ l.leaves;
  made : HasNodes l.leaves l.height l.nodes.items;
}
