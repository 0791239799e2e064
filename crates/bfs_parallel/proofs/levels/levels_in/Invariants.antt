-- The numbers so far stand at their levels.
use Rattle.std.proofs.Common.{◌≡◌, ◌+◌, take}
use Rattle.bfs_parallel.specs.Levels.{AreKept}
use Rattle.bfs_parallel.proofs.levels.levels_in.Given as goal

abbrev pub invariant-loop-level : goal.invariant-loop-level
invariant-loop-level l = record {
  kept : AreKept l.first (take l.level-index l.level_of) l.levels.items;
  number : l.number ≡ l.first + l.level-index;
}
