use Rattle.std.proofs.Common.{true}
use Rattle.bfs_overtaking.proofs.Claiming.{changed}
use Rattle.bfs_overtaking.proofs.claims.put.Goals as goal

pub returns : goal.returns
returns c = changed c.args.claims.now c.insert.new.self c.args.on c.args.place true c.in_ok-insert.ensures.updates
