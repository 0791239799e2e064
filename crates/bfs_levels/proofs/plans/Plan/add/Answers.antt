-- One more call has the level that its marks tell, and the marks hold it.
use Rattle.std.proofs.Common.{arith}
use Rattle.bfs_footprint.specs.Seen.{footprint_seen}
use Rattle.bfs_levels.specs.Planned.{calls_in}
use Rattle.bfs_levels.proofs.Joined.{level_low, planned_more}
use Rattle.bfs_levels.proofs.plans.Plan.add.Goals as goal

pub add-requires : goal.add-requires
add-requires c =
    let low = level_low c.args.self.now.marks (calls_in c.args.self.now) (footprint_seen c.args.footprint) c.requires.plan.marked in
    let level = c.requires.level in
    let few = c.requires.few in
    omega arith

pub returns-clause-plan : goal.returns-clause-plan
returns-clause-plan c = planned_more c.args.self.now _ c.args.footprint c.args.level c.requires.plan c.requires.level c.in_ok-push-2.ensures.items c.in_ok-push.ensures.items c.in_ok-add.ensures
