use Rattle.std.proofs.Common.{false}
use Rattle.bfs_overtaking.proofs.Claiming.{changed}
use Rattle.bfs_overtaking.proofs.claims.remove.Goals as goal

pub returns : goal.returns
returns c = changed c.args.claims.now c.remove.new.self c.args.on c.args.place false c.remove.ensures.updates
