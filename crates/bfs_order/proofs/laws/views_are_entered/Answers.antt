use Rattle.bfs_order.proofs.Viewing.{views_always, views_kept}
use Rattle.bfs_order.proofs.laws.views_are_entered.Goals as goal

pub returns : goal.returns
returns c = record { kept = views_kept; always = views_always }
