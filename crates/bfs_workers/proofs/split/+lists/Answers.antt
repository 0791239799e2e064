-- The jobs of the last list and of the others can be run, and the results of the last stand behind those of the others.
use Rattle.std.proofs.lemmas.Result.{IfOk-at_ok}
use Rattle.bfs_workers.specs.Dealt.{jobs_in}
use Rattle.bfs_workers.specs.Results.{Gives, GivesAll}
use Rattle.bfs_workers.proofs.Dealing.{last_can_run, others_can_run}
use Rattle.bfs_workers.proofs.Zips.{all_zip_append}
use Rattle.bfs_workers.proofs.split.+lists.Goals as goal

pub run_lists-run_both-requires-clause-last : goal.run_lists-run_both-requires-clause-last
run_lists-run_both-requires-clause-last g t c κs within = last_can_run c.args.tree.now c.args.lists.items c.pop.new.self.items c.in-Some.mine c.in-Some.ensures.items c.requires

pub run_lists-run_both-requires-clause-others : goal.run_lists-run_both-requires-clause-others
run_lists-run_both-requires-clause-others g t c κs within = others_can_run c.args.tree.now c.args.lists.items c.pop.new.self.items c.in-Some.mine c.in-Some.ensures.items c.requires

pub run_both-returns : goal.run_both-returns
run_both-returns g t c =
    let ran = g.G.Gate.ran in
    let tree = c.args.tree.now in
    let last = IfOk-at_ok (λ dones. GivesAll ran tree c.args.last.items dones.items) {r = c.join-one.result.0} c.in_ok-one.was c.join-one.ensures.first in
    let others = IfOk-at_ok (λ dones. GivesAll ran tree (jobs_in c.args.others.items) dones.items) {r = c.join-one.result.1} c.in_ok-dones.was c.join-one.ensures.second in
    rw c.in_ok-append.ensures.items (record { each = all_zip_append (Gives ran tree) _ _ _ _ others.each last.each })
