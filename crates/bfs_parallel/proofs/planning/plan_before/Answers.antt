-- What was planned is the longest run, or group, before the end.
use Rattle.std.proofs.Common.{◌∙◌}
use Rattle.bfs_tree.specs.Tree.{at_home}
use Rattle.bfs_parallel.proofs.Groups.{four_ok, group_is_planned, run_is_planned, three_ok}
use Rattle.bfs_parallel.proofs.planning.plan_before.Goals as goal

pub returns-in_ok-run-in-Runs : goal.returns-in_ok-run-in-Runs
returns-in_ok-run-in-Runs c =
    let a = c.args in
    let run = c.in_ok-run-in-Runs.run' in
    let longest = c.in_ok-run-in-Runs.ensures in
    let same = c.one_level.ensures in
    three_ok c.one_level.result
    (λ group first footprints level. run_is_planned (at_home a.tree.now) a.part.now.ordinal a.part.now.time a.part.now.batch.now.requests a.part.now.first a.end run group c.requires.formed (record { more = c.requires.more; before = c.requires.before; longest = longest.longest; count = longest.count }) (first ∙ longest.first) footprints level)
    same.first same.footprints same.level

pub returns-in-Levels : goal.returns-in-Levels
returns-in-Levels c =
    let a = c.args in
    let long = c.group_before.ensures in
    four_ok c.group_before.result
    (λ group first longest count levels. group_is_planned (at_home a.tree.now) a.part.now.ordinal a.part.now.time a.part.now.batch.now.requests a.part.now.first a.end group c.requires.formed (record { more = c.requires.more; before = c.requires.before; longest = longest; count = count }) first levels)
    long.first long.longest long.count long.levels
