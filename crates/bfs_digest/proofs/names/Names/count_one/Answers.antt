-- The entry of the `BTreeMap` is put into the finite map.
use Rattle.std.proofs.Common.{ap, ◌∙◌, arith}
use Rattle.std.specs.FinMap.{insert}
use Rattle.bfs_tree.specs.Maps.{map_of}
use Rattle.bfs_tree.proofs.Public.{map_of-inserts}
use Rattle.bfs_digest.proofs.Counting.{counted_one}
use Rattle.bfs_digest.proofs.names.Names.count_one.Goals as goal

pub returns : goal.returns
returns c =
    let count = c.saturating_add.result in
    let put = map_of-inserts c.self.inside.counts c.insert.new.self c.number.result count c.in_ok-insert.ensures.updates in
    counted_one c.args.self.now (map_of c.insert.new.self) c.args.child count
    (omega (arith, c.saturating_add.ensures, c.count-count.ensures))
    (put ∙ ap (λ m. insert m c.number.result count) c.self.view_is ∙ ap (λ k. insert c.args.self.now k count) c.number.ensures)
    c.requires
