-- The results of jobs that were split off may be merged.
use Rattle.std.specs.Prelude.{⊤}
use Rattle.tests_jobs.proofs.Out.{in_order, results_out}
use Rattle.tests_jobs.proofs.splits.all_run.Goals as goal

pub returns : goal.returns
returns c =
    let all = c.in_ok-numbers in
    let dones = c.in_ok-run_here in
    results_out (λ _ _. ⊤) c.args.tree.now c.all_split.new.tree all.numbers.items all.jobs.items dones.field-0.items all.ensures
    (in_order (λ _ _. ⊤) c.all_split.new.tree all.jobs.items dones.field-0.items dones.ensures)
