-- Turn by turn one inode is read and put into the tree.
use Rattle.std.proofs.Common.{◌+◌, ◌-◌, sym, subst, arith}
use Rattle.std.specs.Prelude.{IsTrue}
use Rattle.bfs_tree.specs.Reach.{Reach}
use Rattle.bfs_tree.specs.Tree.{at_home}
use Rattle.bfs_digest.proofs.Building.{tree_begins, tree_more, tree_ends, tree_refused}
use Rattle.bfs_digest.proofs.inodes.tree_of.Goals as goal

pub loop-record-init : goal.loop-record-init
loop-record-init c = record {
  whole = c.empty-tree.ensures.whole;
  built = tree_begins c.args.count _ c.args.records.now c.new-reader.result (at_home c.empty-tree.result) (omega arith) c.new-reader.ensures c.empty-tree.ensures.value;
}

pub returns-in-None : goal.returns-in-None
returns-in-None c = tree_refused c.args.count (c.args.count - c.loop-record._record) (c.args.count - (c.loop-record._record + 1)) c.args.records.now c.loop-record.reader (at_home c.loop-record.tree) (omega arith) (rw c.in-None.is at c.in_ok-numbered.ensures) c.loop-record.invariant.built

pub loop-record-preserved : goal.loop-record-preserved
loop-record-preserved c = record {
  whole = subst (λ (reach : Reach). IsTrue reach.whole) (sym c.in_ok-put-in-Some.ensures.reach) c.loop-record.invariant.whole;
  built = tree_more c.args.count (c.args.count - c.loop-record._record) (c.args.count - (c.loop-record._record + 1)) c.args.records.now c.loop-record.reader c.inode_of.new.reader (at_home c.loop-record.tree) (at_home c.put.new.tree)
      c.in-Some.numbered (omega arith) (rw c.in-Some.is at c.in_ok-numbered.ensures) c.in_ok-put-in-Some.ensures.ok c.loop-record.invariant.built;
}

pub returns : goal.returns
returns c = λ inodes rest read. (tree_ends c.args.count (c.args.count - c.loop-record._record) c.args.records.now c.loop-record.reader (at_home c.loop-record.tree) (omega arith) c.loop-record.invariant.built inodes rest read, c.loop-record.invariant.whole)
