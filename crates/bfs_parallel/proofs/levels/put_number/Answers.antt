-- The number stands behind the others of its level.
use Rattle.bfs_parallel.proofs.Places.{kept_grown, kept_more}
use Rattle.bfs_parallel.proofs.levels.put_number.Goals as goal

pub returns : goal.returns
returns c first before kept is =
    let grown = c.grow.new.levels.items in
    let same = c.in_ok-grow.ensures in
    kept_more first before grown c.args.level c.args.number c.index_mut.result.now c.push.new.self (kept_grown first before c.args.levels.now.items grown kept same.no_shorter same.same) is same.long c.index_mut.ensures.value c.in_ok-push.ensures.items
