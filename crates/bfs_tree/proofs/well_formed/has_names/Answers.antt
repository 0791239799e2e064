-- Names are taken off the links, inode by inode.
use Rattle.std.proofs.Common.{◌+◌, sum_by, sym, ap, ◌∙◌}
use Rattle.bfs_model.specs.Server.WellFormed.{named}
use Rattle.bfs_tree.proofs.WellFormed.Loops.{names_at, names_counted, too_many_names, all_names_counted}
use Rattle.bfs_tree.specs.Tree.{at_home}
use Rattle.bfs_tree.proofs.well_formed.has_names.Goals as goal

pub loop-inode-init : goal.loop-inode-init
loop-inode-init c = ap (λ inodes. c.args.count + sum_by (names_at c.args.id) inodes) (sym (c.into_iter-inode-iterator.ensures.into_iter_gives ∙ c.iter-inode-items.ensures))

pub returns-then-names-left : goal.returns-then-names-left
returns-then-names-left c =
    too_many_names c.args.id c.args.count c.loop-inode.left (named (at_home c.args.tree.now) c.args.id) c.names_in-names.result _ _ (c.in-Some.field-0-0.now, c.in-Some.inode.now) c.in-Some.ensures.steps c.names_in-names.ensures c.if-names-left.true c.loop-inode.invariant

pub loop-inode-preserved : goal.loop-inode-preserved
loop-inode-preserved c =
    names_counted c.args.id c.args.count c.loop-inode.left (named (at_home c.args.tree.now) c.args.id) c.names_in-names.result _ _ (c.in-Some.field-0-0.now, c.in-Some.inode.now) c.in-Some.ensures.steps c.names_in-names.ensures c.if-names-left.false c.loop-inode.invariant

pub returns : goal.returns
returns c = all_names_counted c.args.id c.args.count c.loop-inode.left (named (at_home c.args.tree.now) c.args.id) _ c.in-None.ensures.steps.0 c.loop-inode.invariant
