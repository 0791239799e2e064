use Rattle.std.proofs.Common.{drop}
use Rattle.bfs_replies.specs.Classes.{timestamps_of}
use Rattle.bfs_outcome.proofs.Telling.{GoesOn}
use Rattle.bfs_outcome.proofs.answering.answer_all.Given as goal

abbrev pub invariant-loop-signed : goal.invariant-loop-signed
invariant-loop-signed l =
    GoesOn l.timestamps (timestamps_of l.table) l.table (drop l.signed-index l.requests) l.requests l.replies l.executed.to_answer.items l.executed.to_record.items
