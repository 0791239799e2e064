use Rattle.bfs_digest.proofs.Fronts.{still_begins}
use Rattle.bfs_digest.proofs.freezing.put_inodes.Goals as goal

pub returns-in_err-put_frozen-clause-err : goal.returns-in_err-put_frozen-clause-err
returns-in_err-put_frozen-clause-err c = still_begins c.from_residual.result c.args.out.now.items _ c.loop-inode.out.items c.put_frozen.new.out.items c.loop-inode.invariant c.in_err-put_frozen.ensures.err
