use Rattle.std.proofs.Common.{arith}
use Rattle.bfs_model.proofs.Public.{bytes_are}
use Rattle.bfs_codec.proofs.Known.{front_is_text, read_fits, rest_is_shorter}
use Rattle.bfs_codec.proofs.reader.KnownBatch.new.Goals as goal

pub slice_bounds-bytes-count : goal.slice_bounds-bytes-count
slice_bounds-bytes-count c = rest_is_shorter c.args.bytes.now c.args.batch c.args.rest.now (bytes_are c.args.bytes.now (λ i. omega (arith, c.type_inv.bytes i))) c.requires

pub invariant_of-result : goal.invariant_of-result
invariant_of-result c =
    let fits = bytes_are c.args.bytes.now (λ i. omega (arith, c.type_inv.bytes i)) in
    rw c.in_ok-new.ensures.ok (read_fits c.args.bytes.now c.args.batch c.args.rest.now fits c.requires, front_is_text c.args.bytes.now c.args.batch c.args.rest.now fits c.requires, c.digest.ensures)
