-- One claim after another is put.
use Rattle.std.proofs.Common.{true}
use Rattle.bfs_overtaking.proofs.Holding.{known_set}
use Rattle.bfs_overtaking.proofs.claims.Claims.put.Goals as goal

pub returns-in_ok-put_each-in-Known-3 : goal.returns-in_ok-put_each-in-Known-3
returns-in_ok-put_each-in-Known-3 c =
    rw (c.in-Known.is, ← c.as_slice.ensures.value, ← c.as_slice-writes.ensures.value)
    (known_set true c.as_slice.result.now c.as_slice-writes.result.now c.args.place c.args.self.now c.put.new.claims c.put_each.new.claims c.put_each-in-Known.new.claims c.put_each-in-Known-2.new.claims
    c.in_ok-put.ensures c.in_ok-put_each-in-Known.ensures c.in_ok-put_each-in-Known-2.ensures c.in_ok-put_each-in-Known-3.ensures)
