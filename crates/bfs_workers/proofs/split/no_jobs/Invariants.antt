-- So many lists are there, and all are empty.
use Rattle.std.proofs.Common.{◌≡◌, ◌≤◌, [], length, vec_capacity}
use Rattle.bfs_workers.specs.Dealt.{jobs_in}
use Rattle.bfs_workers.proofs.split.no_jobs.Given as goal

abbrev pub invariant-loop : goal.invariant-loop
invariant-loop l = record {
  place : l.counter ≤ l.count;
  count : length l.lists.items ≡ l.counter;
  empty : jobs_in l.lists.items ≡ [];
  room : l.count ≤ vec_capacity l.lists;
}
