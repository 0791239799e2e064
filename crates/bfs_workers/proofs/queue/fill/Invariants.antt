-- The jobs so far were put or came back, and the pass has all parts and has taken none.
use Rattle.std.proofs.Common.{◌≡◌, [], ◌++◌}
use Rattle.std.specs.Prelude.{IsPermutation}
use Rattle.crossbeam_queue.specs.Passes.{IsPassOf, view}
use Rattle.bfs_workers.specs.Rule.{account, all_parts}
use Rattle.bfs_workers.proofs.queue.fill.Given as goal

abbrev pub invariant-loop-job : goal.invariant-loop-job
invariant-loop-job g l = record {
  queue : IsPassOf l.queue l.pass;
  all : view l.pass ≡ account all_parts (view l.pass).put [];
  jobs : IsPermutation l.yielded ((view l.pass).put ++ l.back.items);
}
