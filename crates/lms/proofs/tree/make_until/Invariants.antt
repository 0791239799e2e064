use Rattle.std.proofs.Common.{◌≤◌, ◌-◌, length}
use Rattle.lms.specs.Nodes.{HasNodes}
use Rattle.lms.proofs.tree.make_until.Given as goal

abbrev pub invariant-loop-nodes : goal.invariant-loop-nodes
invariant-loop-nodes l = record {
  few : length l.nodes.items ≤ l.count;
  made : HasNodes l.key l.nodes.items;
}

abbrev pub decreases-loop-nodes : goal.decreases-loop-nodes
decreases-loop-nodes l = l.count - length l.nodes.items
