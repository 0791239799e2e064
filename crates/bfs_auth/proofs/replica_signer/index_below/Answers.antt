use Rattle.std.proofs.Common.{arith}
use Rattle.bfs_auth.proofs.Indexes.{first_leaf, other_leaf}
use Rattle.bfs_auth.proofs.replica_signer.index_below.Goals as goal

pub returns-then-leaf-eq0 : goal.returns-then-leaf-eq0
returns-then-leaf-eq0 c = first_leaf c.args.height c.args.leaf c.args.number (omega arith) (omega arith) (omega arith)

pub returns-else-leaf-eq0 : goal.returns-else-leaf-eq0
returns-else-leaf-eq0 c = other_leaf c.args.height c.args.leaf c.args.number (omega arith) (omega arith)
