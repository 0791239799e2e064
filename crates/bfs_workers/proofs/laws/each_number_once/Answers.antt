use Rattle.bfs_workers.proofs.Numbers.{each_number_once}
use Rattle.bfs_workers.proofs.laws.each_number_once.Goals as goal

pub returns : goal.returns
returns g c tree jobs dones once = each_number_once g.G.Gate.ran tree jobs dones once
