use Rattle.bfs_progress.proofs.Premises.{in_a_view, between_views}
use Rattle.bfs_progress.proofs.examples.premises_hold.Goals as goal

pub returns : goal.returns
returns c = record { in_a_view = in_a_view; between_views = between_views }
