use Rattle.std.proofs.Common.{◌∙◌}
use Rattle.bfs_log.proofs.logs.Log.row.Goals as goal

pub returns : goal.returns
returns c = rw (← c.self.view_is) (c.row_at.ensures ∙ c.self.invariant.index c.args.place)
