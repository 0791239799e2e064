-- Each request is the next of those that are left.
use Rattle.std.proofs.Common.{◌<◌, refl, subst, arith}
use Rattle.bfs_tree.specs.Tree.{at_home}
use Rattle.bfs_parallel.specs.Parts.{IsPartExecuted}
use Rattle.bfs_parallel.proofs.InOrder.{begins, goes_on}
use Rattle.bfs_parallel.proofs.requests.execute_in_order.Goals as goal

pub loop-done-init : goal.loop-done-init
loop-done-init g c =
    let part = c.args.part.now in
    record {
      whole = c.requires.whole;
      within = c.requires.within;
      going = begins g.G.Gate.ran part.time part.batch.now.requests part.first c.args.count c.requires.within (at_home c.args.tree.now) part.ordinal c.args.replies.now c.requires.formed;
    }

pub loop-done-preserved : goal.loop-done-preserved
loop-done-preserved g c =
    let a = c.args in
    let part = a.part.now in
    let l = c.loop-done in
    let more : l.done < a.count = omega (arith, c.loop-done-test.true, l.auto.done-end) in
    let executed = c.in_ok-execute_one.ensures in
    record {
      whole = executed.whole;
      within = l.invariant.within;
      going = goes_on g.G.Gate.ran part.time part.batch.now.requests part.first a.count l.invariant.within (at_home a.tree.now) part.ordinal a.replies.now l.done (at_home l.tree) l.replies more l.invariant.going
          l.tree c.execute_one.new.tree c.execute_one.new.replies refl
          (subst (λ next. IsPartExecuted g.G.Gate.ran l.tree c.execute_one.new.tree next.ordinal next.time next.batch.now.requests next.first 1 l.replies c.execute_one.new.replies) c.after.ensures executed);
    }
