use Rattle.bfs_agreement.proofs.Calls.{agrees_in_view}
use Rattle.bfs_agreement.proofs.views.one_view_agrees.Goals as goal

pub returns : goal.returns
returns c = agrees_in_view c.calls_agree.ensures
