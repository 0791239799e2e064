-- At first the root alone is reached.
use Rattle.std.proofs.Common.{sym, subst, ◌∙◌}
use Rattle.std.specs.List.{AllByRecursion}
use Rattle.bfs_tree.specs.Tree.{at_home}
use Rattle.bfs_digest.specs.Inside.Formation.{LeadsToRoot}
use Rattle.bfs_digest.proofs.Reached.{first_reached}
use Rattle.bfs_digest.proofs.reach.all_reach_root.Goals as goal

pub loop-id-init : goal.loop-id-init
loop-id-init c =
    let all = c.into_iter-id-iterator.ensures.into_iter_gives ∙ c.iter-id-items.ensures in
    record {
      reached = first_reached (at_home c.args.tree.now) c.new-reached.result c.insert.new.self c.number.result (c.number.ensures ∙ c.root.ensures) c.new-reached.ensures.empty c.in_ok-insert.ensures.updates;
      all = (subst (AllByRecursion (LeadsToRoot (at_home c.args.tree.now))) all, subst (AllByRecursion (LeadsToRoot (at_home c.args.tree.now))) (sym all));
    }
