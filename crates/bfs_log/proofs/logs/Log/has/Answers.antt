use Rattle.bfs_log.proofs.Indexes.{has_at}
use Rattle.bfs_log.proofs.logs.Log.has.Goals as goal

pub returns : goal.returns
returns c = let at = has_at c.args.self.now c.args.slot.tag c.args.slot.sender c.args.slot.view c.args.slot.number in cc (at, c.row.ensures)
