-- The jobs so far are in the lists, and the turn is that of one of them.
use Rattle.std.proofs.Common.{◌≡◌, ◌<◌, length}
use Rattle.std.specs.Prelude.{IsPermutation}
use Rattle.bfs_workers.specs.Dealt.{jobs_in}
use Rattle.bfs_workers.proofs.split.deal.Given as goal

abbrev pub invariant-loop-job : goal.invariant-loop-job
invariant-loop-job l = record {
  turn : l.turn < l.count;
  count : length l.lists.items ≡ l.count;
  dealt : IsPermutation l.yielded (jobs_in l.lists.items);
}
