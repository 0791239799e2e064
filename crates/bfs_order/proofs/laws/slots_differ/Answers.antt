use Rattle.bfs_order.proofs.KeptLogs.{slots_always, slots_kept}
use Rattle.bfs_order.proofs.laws.slots_differ.Goals as goal

pub returns : goal.returns
returns c = record { kept = slots_kept; always = slots_always }
