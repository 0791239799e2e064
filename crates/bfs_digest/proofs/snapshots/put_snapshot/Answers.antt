-- What was put is the header and the records of all inodes.
use Rattle.bfs_tree.specs.Tree.{at_home}
use Rattle.bfs_digest.proofs.Parts.{appended_is}
use Rattle.bfs_digest.proofs.snapshots.put_snapshot.Goals as goal

pub returns-in-Ok-clause-value : goal.returns-in-Ok-clause-value
returns-in-Ok-clause-value c = appended_is c.args.out.now.items c.args.files.now c.in-Some.header (at_home c.in-Some.tree.now) c.put_text.new.out.items c.in-Some.ensures.header c.in-Some.ensures.tree c.in-Ok.ensures.ok
