-- The entries are in order, so that there are at most as many as fileids.
use Rattle.std.proofs.Common.{◌∙◌, arith}
use Rattle.bfs_tree.proofs.BlockLemmas.{is_room, all_counted}
use Rattle.std.specs.FinMap.{entries, entries_sorted}
use Rattle.bfs_tree.specs.Tree.{at_home}
use Rattle.bfs_tree.proofs.MapLemmas.{rising}
use Rattle.bfs_tree.proofs.trees.blocks_in_all.Goals as goal

pub loop-id-init : goal.loop-id-init
loop-id-init c =
    let all = c.into_iter-id-iterator.ensures.into_iter_gives ∙ c.iter-id-items.ensures in
    record {
      total = rw all (omega arith);
      room = rw all (is_room _ (rising _ (entries_sorted (at_home c.args.tree.now))));
    }

pub returns : goal.returns
returns c = all_counted _ _ (entries (at_home c.args.tree.now)) c.in-None.ensures.steps.0 c.loop-id.invariant.total
