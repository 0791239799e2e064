use Rattle.bfs_log.proofs.Indexes.{backups_at}
use Rattle.bfs_log.proofs.logs.Log.count_backups.Goals as goal

pub returns : goal.returns
returns c = rw (backups_at c.args.self.now c.args.f c.args.view c.args.number c.args.digest.now c.messages_differ.ensures.differ, ← c.row.ensures, ← c.primary_of.ensures) c.count_others.ensures
