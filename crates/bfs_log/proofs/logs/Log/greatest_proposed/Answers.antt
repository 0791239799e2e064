use Rattle.std.proofs.Common.{◌∙◌}
use Rattle.bfs_log.proofs.Greatest.{same_greatest}
use Rattle.bfs_log.proofs.logs.Log.greatest_proposed.Goals as goal

pub returns : goal.returns
returns c = rw (← c.self.view_is) (c.greatest_in.ensures.value ∙ same_greatest c.args.view c.self.inside.messages.items c.self.inside.places c.greatest_in.ensures.ordered c.self.invariant.index)
