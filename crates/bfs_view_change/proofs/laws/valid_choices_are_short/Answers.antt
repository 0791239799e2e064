use Rattle.bfs_view_change.proofs.Prepared.{choices_short}
use Rattle.bfs_view_change.proofs.laws.valid_choices_are_short.Goals as goal

pub returns : goal.returns
returns c = choices_short
