use Rattle.std.proofs.Common.{arith}
use Rattle.bfs_model.proofs.Public.{bytes_are}
use Rattle.bfs_saving.proofs.items.are_bytes.Goals as goal

pub returns-clause-bytes : goal.returns-clause-bytes
returns-clause-bytes c = bytes_are c.args.bytes.now (λ i. omega (arith, c.type_inv.bytes i))
