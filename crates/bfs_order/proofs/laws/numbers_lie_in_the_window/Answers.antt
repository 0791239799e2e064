use Rattle.bfs_order.proofs.KeptLogs.{window_always, window_kept}
use Rattle.bfs_order.proofs.laws.numbers_lie_in_the_window.Goals as goal

pub returns : goal.returns
returns c = record { kept = window_kept; always = window_always }
