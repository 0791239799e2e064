use Rattle.bfs_checkpoints.proofs.StateTexts.{live_where_told}
use Rattle.bfs_checkpoints.proofs.states.are_live.Goals as goal

pub returns : goal.returns
returns c = live_where_told c.args.files.now c.is_live-live.result c.is_live-live.ensures.value c.is_live-live.ensures.live
