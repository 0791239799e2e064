-- Turn by turn one inode is placed, and its names are counted.
use Rattle.std.proofs.Common.{sym, subst, ◌∙◌}
use Rattle.std.specs.List.{AllByRecursion}
use Rattle.bfs_tree.specs.Tree.{at_home}
use Rattle.bfs_digest.specs.Inside.Formation.{IsPlaced}
use Rattle.bfs_digest.proofs.Counting.{inodes_begin}
use Rattle.bfs_digest.proofs.formation.names_of.Goals as goal

pub loop-id-init : goal.loop-id-init
loop-id-init c =
    let all = c.into_iter-id-iterator.ensures.into_iter_gives ∙ c.iter-id-items.ensures in
    record {
      placed = (subst (AllByRecursion (IsPlaced (at_home c.args.tree.now) c.args.ordinal)) all, subst (AllByRecursion (IsPlaced (at_home c.args.tree.now) c.args.ordinal)) (sym all));
      counted = inodes_begin c.new-names.result c.into_iter-id-iterator.result _ c.new-names.ensures all;
    }
