-- What `plan_group` gives is a group of the file system.
use Rattle.bfs_overtaking.proofs.Public.{live_group, planned_footprints}
use Rattle.tests_plans.proofs.groups.core_of.Goals as goal

pub new-requires-clause-group : goal.new-requires-clause-group
new-requires-clause-group c =
    let p = c.in-Some in
    let g = c.in_ok-group in
    live_group p.tree p.ordinal p.last c.effective_after-time.result c.args.batch.now.requests c.args.first g.group.first g.ensures.first g.group.footprints.items g.ensures.count p.ensures.live

pub new-requires-clause-planned : goal.new-requires-clause-planned
new-requires-clause-planned c =
    let p = c.in-Some in
    let g = c.in_ok-group in
    planned_footprints p.tree p.ordinal p.last c.effective_after-time.result c.args.batch.now.requests c.args.first g.group.first g.ensures.first g.group.footprints.items g.ensures.count g.ensures.longest
