-- Laws of the crates below, by which a world of moves follows nodes.
use Rattle.bfs_codec.specs.Laws.{MessageWasWritten, OneBatch}
use Rattle.bfs_order.specs.Laws.Calls.{CallsKeepTheReplica, IsKept}
use Rattle.bfs_order.specs.Laws.Logs.{HasNoLaterView, IsWindowed}
use Rattle.bfs_nodes_agree.specs.Orders.Laws.{DeedsAreMoves}
use Rattle.bfs_nodes_agree.specs.Views.Laws.{MadeTellsWhatIsPrepared, RightNewViewsAreValid}

pub record Below : Type 0 where
  pub same : CallsKeepTheReplica
  pub views : IsKept HasNoLaterView
  pub windows : IsKept IsWindowed
  pub written : MessageWasWritten
  pub one : OneBatch
  pub moved : DeedsAreMoves
  pub made : MadeTellsWhatIsPrepared
  pub valid : RightNewViewsAreValid
