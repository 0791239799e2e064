-- All numbers stand at their levels.
use Rattle.std.proofs.Common.{subst, arith}
use Rattle.bfs_parallel.specs.Levels.{AreKept}
use Rattle.bfs_parallel.proofs.Places.{all_taken, in_levels}
use Rattle.bfs_parallel.proofs.levels.levels_in.Goals as goal

pub returns : goal.returns
returns c =
    let levels = c.args.level_of.now in
    let over = c.loop-level-test.false in
    in_levels c.args.first levels c.loop-level.levels.items
    (subst (λ ls. AreKept c.args.first ls c.loop-level.levels.items) (all_taken c.loop-level.level-index levels (omega arith)) c.loop-level.invariant.kept)
