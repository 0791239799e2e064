-- The results of one worker stand behind those of the others, as what it took does.
use Rattle.std.specs.Global.{Global}
use Rattle.std.specs.declared.vec.Vec.{Vec}
use Rattle.std.proofs.lemmas.Result.{IfOk-at_ok}
use Rattle.crossbeam_queue.specs.Passes.{Pass, view}
use Rattle.bfs_handover.specs.declared.job.Job.{Job}
use Rattle.bfs_handover.specs.declared.job.Done.{Done}
use Rattle.bfs_workers.specs.Results.{Gives, GivesAll}
use Rattle.bfs_workers.specs.declared.rule.Account.{Account}
use Rattle.bfs_workers.proofs.Zips.{all_zip_append}
use Rattle.bfs_workers.proofs.queue.+workers.Goals as goal

pub returns-clause-dones : goal.returns-clause-dones
returns-clause-dones g t c =
    let ran = g.G.Gate.ran in
    let tree = c.args.tree.now in
    let one = IfOk-at_ok (λ (r : Pass Job Account × Vec Done Global). GivesAll ran tree (view r.0).taken r.1.items) c.in_ok-one.was c.join-one.ensures.first.1 in
    let others = IfOk-at_ok (λ (r : Pass Job Account × Vec Done Global). GivesAll ran tree (view r.0).taken r.1.items) c.in_ok-pass.was c.join-one.ensures.second.1 in
    rw (c.absorb.ensures.rule, c.in_ok-append.ensures.items) (record { each = all_zip_append (Gives ran tree) _ _ _ _ others.each one.each })
