use Rattle.std.proofs.Common.{◌≡◌, take}
use Rattle.bfs_node.specs.Inside.Taking.{with_requests_of}
use Rattle.bfs_node.proofs.node.Node.batch_of_all.Given as goal

abbrev pub invariant-loop-signed : goal.invariant-loop-signed
invariant-loop-signed l = l.requests.items ≡ with_requests_of l.self.pending (take l.signed-index l.messages)
