use Rattle.bfs_log.proofs.Indexes.{tellers_at}
use Rattle.bfs_log.proofs.logs.Log.count_tellers.Goals as goal

pub returns : goal.returns
returns c = rw (tellers_at c.args.self.now c.args.f c.args.tag c.args.view c.args.number c.args.digest.now c.messages_differ.ensures.differ, ← c.row.ensures) c.count_tellers.ensures
