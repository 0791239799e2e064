-- The marks tell whether one of the calls parts this one from them, and its level.
use Rattle.std.proofs.Common.{sym, ap, ◌∙◌}
use Rattle.bfs_levels.specs.Marking.{levelled}
use Rattle.bfs_levels.specs.Planned.{calls_in}
use Rattle.bfs_levels.specs.Planning.{height, parts}
use Rattle.bfs_levels.specs.Touching.{touch_seen}
use Rattle.bfs_levels.proofs.Joined.{level_told}
use Rattle.bfs_levels.proofs.plans.Plan.level.Goals.{in-Runs, in-Groups}
use Rattle.bfs_levels.proofs.plans.Plan.level.Goals as goal

pub returns : goal.returns
returns c =
    let touch = touch_seen c.args.touch.now in
    let calls = calls_in c.args.self.now in
    let level = c.level-level.ensures _ c.requires.marked in
    c.then_some.ensures ∙ level_told c.args.rule calls touch c.match-rule.parting c.level-level.result (elim c.match-rule.branch [
      | in-Runs w ↦ w.parting-is ∙ level ∙ ap (λ rule. height (λ other. parts rule other touch) (levelled calls)) (sym w.in-Runs.is)
      | in-Groups w ↦ w.parting-is ∙ w.parting-parting.ensures _ c.requires.marked ∙ ap (λ rule. height (λ other. parts rule other touch) (levelled calls)) (sym w.in-Groups.is)
    ]) level
