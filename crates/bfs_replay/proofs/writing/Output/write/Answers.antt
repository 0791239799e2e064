use Rattle.std.proofs.Common.{◌++◌, take}
use Rattle.bfs_replay.proofs.Writes.{Writes-trans, moves_front}
use Rattle.bfs_replay.proofs.writing.Output.write.Goals as goal

pub loop-rest-preserved : goal.loop-rest-preserved
loop-rest-preserved g c =
    let (done, split, written) = c.loop-rest.invariant in
    let some = take c.in_ok-count.count c.loop-rest.rest.now in
    (done ++ some, moves_front _ done _ _ split, Writes-trans _ _ _ done some written c.in_ok-count.ensures.some.2)
