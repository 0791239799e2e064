-- What is left is in order, and has no entry of the name.
use Rattle.bfs_inode.proofs.DirectoryLemmas.{entry_dropped, name_gone}
use Rattle.bfs_inode.proofs.directories.Directory.drop_entry.Goals as goal

pub invariant_of-self : goal.invariant_of-self
invariant_of-self c = (rw c.take.ensures.taken (entry_dropped c.args.name.now _ c.self.invariant.0), c.take.ensures.indexed)

pub returns-clause-gone : goal.returns-clause-gone
returns-clause-gone c = rw c.take.ensures.taken (name_gone c.args.name.now _ c.self.invariant.0.differ)
