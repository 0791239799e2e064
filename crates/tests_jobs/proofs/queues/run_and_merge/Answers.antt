-- The results of jobs that were split off may be merged.
use Rattle.std.specs.Prelude.{⊤}
use Rattle.tests_jobs.proofs.Out.{results_out}
use Rattle.tests_jobs.proofs.queues.run_and_merge.Goals as goal

pub merge-requires-clause-out : goal.merge-requires-clause-out
merge-requires-clause-out g c _ =
    let all = c.in_ok-numbers in
    results_out (λ _ _. ⊤) c.in_ok-tree.tree c.all_split.new.tree all.numbers.items all.jobs.items c.in_ok-dones.dones.items all.ensures c.in_ok-dones.ensures
