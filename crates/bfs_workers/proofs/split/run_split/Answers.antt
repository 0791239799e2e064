-- What can be run can be run from the lists.
use Rattle.bfs_workers.proofs.Dealing.{all_dealt}
use Rattle.bfs_workers.proofs.split.run_split.Goals as goal

pub run_lists-requires-after_bounds : goal.run_lists-requires-after_bounds
run_lists-requires-after_bounds g c κs within = all_dealt c.args.tree.now c.args.jobs.items c.in_ok-lists.lists.items c.in_ok-lists.ensures c.requires
