-- The marks tell how high a call stands that parts this one from the group.
use Rattle.std.proofs.Common.{ap, arith}
use Rattle.bfs_model.specs.Server.Footprints.{ids_in}
use Rattle.bfs_footprint.specs.Seen.{footprint_seen}
use Rattle.bfs_levels.specs.Planning.{height, parts_groups}
use Rattle.bfs_levels.specs.Touching.{touch_seen}
use Rattle.bfs_levels.proofs.Heights.{parting_of_known}
use Rattle.bfs_levels.proofs.marks.Marks.parting.Goals as goal

pub returns-in-Known : goal.returns-in-Known
returns-in-Known c = λ earlier is.
    let touch = touch_seen c.args.touch.now in
    let told = parting_of_known c.args.self.now earlier c.in-Known.reads c.in-Known.writes (ids_in c.args.touch.now.resolved.first) (ids_in c.args.touch.now.resolved.second) is in
    let same = ap (λ footprint. height (λ other. parts_groups other (record touch { footprint = footprint })) earlier) (ap footprint_seen c.in-Known.is) in
    let first = ap (λ mark. mark.written) c.mark_in-first.ensures in
    let second = ap (λ mark. mark.written) c.mark_in-second.ensures in
    let one = c.max.ensures in
    let other = c.max-in-Known.ensures in
    omega arith
