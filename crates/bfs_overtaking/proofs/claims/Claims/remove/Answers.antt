-- One claim after another is taken away.
use Rattle.std.proofs.Common.{false}
use Rattle.bfs_overtaking.proofs.Holding.{known_set}
use Rattle.bfs_overtaking.proofs.claims.Claims.remove.Goals as goal

pub returns-in-Known : goal.returns-in-Known
returns-in-Known c =
    rw (c.in-Known.is, ← c.as_slice.ensures.value, ← c.as_slice-writes.ensures.value)
    (known_set false c.as_slice.result.now c.as_slice-writes.result.now c.args.place c.args.self.now c.remove.new.claims c.remove_each.new.claims c.remove_each-in-Known.new.claims c.remove_each-in-Known-2.new.claims
    c.remove.ensures c.remove_each.ensures c.remove_each-in-Known.ensures c.remove_each-in-Known-2.ensures)
