use Rattle.std.proofs.Common.{arith}
use Rattle.bfs_journal.proofs.Heads.{long_in}
use Rattle.bfs_journal.proofs.reading.read_journal.Goals as goal

pub loop-body-smaller : goal.loop-body-smaller
loop-body-smaller c = omega (arith, long_in c.loop-body.left.now c.in-Some.body.now c.in-Some.behind.now c.in-Some.ensures.found)
