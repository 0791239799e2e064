-- What is split off for one number, run and merged is carried out on its share.
use Rattle.bfs_handover.specs.Splitting.{part_with}
use Rattle.bfs_workers.proofs.Public.{can_run_one}
use Rattle.bfs_parallel.proofs.Carried.{one_carried_out, one_out}
use Rattle.bfs_parallel.proofs.carrying.carry_one.Goals as goal

pub run-requires : goal.run-requires
run-requires g c = can_run_one c.split_request.new.tree c.in_ok-job.job c.in_ok-job.ensures.split.can_run

pub merge_one-requires : goal.merge_one-requires
merge_one-requires g c =
    let a = c.args in
    one_out g.G.Gate.ran a.tree.now c.split_request.new.tree (part_with a.part.now a.footprints.now) a.number c.in_ok-job.job c.in_ok-done.done c.in_ok-job.ensures.split c.in_ok-done.ensures

pub returns : goal.returns
returns g c =
    let a = c.args in
    one_carried_out g.G.Gate.ran a.tree.now c.split_request.new.tree (part_with a.part.now a.footprints.now) a.number c.in_ok-job.job c.in_ok-done.done c.in_ok-job.ensures.split c.in_ok-done.ensures
    c.merge_one.new.tree c.merge_one.result c.requires.number c.merge_one.ensures
