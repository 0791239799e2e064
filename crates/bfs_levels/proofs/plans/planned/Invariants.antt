-- The calls of the plan and those that are left are all, and those that join it are so many as the plan lacks.
use Rattle.std.proofs.Common.{◌≡◌, ◌+◌, [], ◌++◌, length, drop, take}
use Rattle.bfs_model.specs.Server.Groups.{footprints_at}
use Rattle.bfs_tree.specs.Tree.{at_home}
use Rattle.bfs_levels.specs.Planning.{count_joined, parts, touches_at}
use Rattle.bfs_levels.specs.Planned.{IsPlan, calls_in}
use Rattle.bfs_levels.proofs.plans.planned.Given as goal

abbrev pub invariant-loop-index : goal.invariant-loop-index
invariant-loop-index l =
    let requests = take l.end l.part.batch.now.requests in
    let left = drop l.index requests in
    let all = drop l.part.first requests in
    let calls = calls_in l.plan in
    record {
      plan : IsPlan l.plan;
      place : length calls + l.part.first ≡ l.index;
      kept : calls ++ footprints_at (at_home l.tree) l.ordinal l.part.time left ≡ footprints_at (at_home l.tree) l.part.ordinal l.part.time all;
      joined : count_joined (parts l.rule) calls (touches_at (at_home l.tree) l.ordinal l.part.time left) + length calls ≡ count_joined (parts l.rule) [] (touches_at (at_home l.tree) l.part.ordinal l.part.time all);
    }
