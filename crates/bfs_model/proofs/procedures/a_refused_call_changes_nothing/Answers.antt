use Rattle.bfs_model.proofs.Unchanged.{refused_keeps}
use Rattle.bfs_model.proofs.procedures.a_refused_call_changes_nothing.Goals as goal

pub returns : goal.returns
returns c = refused_keeps
