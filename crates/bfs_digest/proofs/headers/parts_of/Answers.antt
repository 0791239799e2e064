-- The inodes of a live file system are fewer than fileids.
use Rattle.std.proofs.Common.{◌<◌, ◌^◌, arith}
use Rattle.std.specs.FinMap.{len}
use Rattle.bfs_tree.specs.Tree.{at_home}
use Rattle.bfs_digest.proofs.Live.{few_inodes}
use Rattle.bfs_digest.proofs.headers.parts_of.Goals as goal

pub overflow_cast-header : goal.overflow_cast-header
overflow_cast-header c =
    let few : len (at_home c.in_ok-tree.tree.now) < 2 ^ 32 = few_inodes c.args.files.now (at_home c.in_ok-tree.tree.now) c.in_ok-tree.ensures.value c.in_ok-tree.ensures.live in
    omega (arith, c.count.ensures c.in_ok-tree.ensures.whole)
