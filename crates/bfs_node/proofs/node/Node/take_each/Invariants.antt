use Rattle.std.proofs.Common.{◌≡◌, take}
use Rattle.bfs_node.specs.Delivering.{after_requests}
use Rattle.bfs_node.proofs.node.Node.take_each.Given as goal

abbrev pub invariant-loop-number : goal.invariant-loop-number
invariant-loop-number g l = (l.self ≡ after_requests l.fn.self (take l.number l.messages)) × (l.self.keys ≡ l.fn.self.keys)
