use Rattle.bfs_log.proofs.Indexes.{told_at}
use Rattle.bfs_log.proofs.logs.Log.is_told.Goals as goal

pub returns : goal.returns
returns c = let at = told_at c.args.self.now c.args.slot.tag c.args.slot.sender c.args.slot.view c.args.slot.number c.args.digest.now in cc (at, c.row.ensures)
