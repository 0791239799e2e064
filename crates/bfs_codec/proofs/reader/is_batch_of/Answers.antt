use Rattle.std.proofs.Common.{arith}
use Rattle.bfs_model.proofs.Public.{bytes_are}
use Rattle.bfs_codec.proofs.Known.{digest_tells, rest_is_behind}
use Rattle.bfs_codec.proofs.reader.is_batch_of.Goals as goal

pub slice_bounds-text-count : goal.slice_bounds-text-count
slice_bounds-text-count c = rest_is_behind c.args.bytes.now c.args.rest.now (bytes_are c.args.bytes.now (λ i. omega (arith, c.type_inv.bytes i))) c.requires

pub returns : goal.returns
returns c = rw (c.eq.ensures, c.digest.ensures) (digest_tells c.args.digest.now c.args.bytes.now c.args.rest.now (bytes_are c.args.bytes.now (λ i. omega (arith, c.type_inv.bytes i))) c.requires)
