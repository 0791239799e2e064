use Rattle.std.proofs.Common.{◌≡◌, ◌∙◌, List, Option, Some, None, length, sym, ap, subst}
use Rattle.bfs_model.specs.Server.Tree.{FileSystem}
use Rattle.bfs_messages.specs.Messages.{Batch}
use Rattle.bfs_outcome.specs.Executed.{ComesTo}
use Rattle.bfs_outcome.specs.Laws.Tables.{ClientsStay}
use Rattle.bfs_replies.specs.Answers.{Answer, recorded_all}
use Rattle.bfs_replies.specs.Tables.{Table}
use Rattle.bfs_node.specs.Inside.Finishing.{answers_in, with_files}
use Rattle.bfs_node.specs.Nodes.{Node}
use Rattle.bfs_node.proofs.node.Node.execute_ready.Goals as goal

-- no client comes or goes
clients_stay : ClientsStay → (node : Node) (batch : Batch) (files : Option FileSystem) (to_record : List Answer) → ComesTo node.files node.table batch files to_record (answers_in node batch)
    → length (recorded_all node.table to_record) ≡ length node.table
clients_stay stay node batch files to_record comes = go node.files comes
  where
    go : (old : Option FileSystem) → ComesTo old node.table batch files to_record (answers_in (with_files node old) batch) → length (recorded_all node.table to_record) ≡ length node.table
    go None comes = absurd comes
    go (Some live) comes = ap length comes.1 ∙ stay live node.table batch

clients_same : ClientsStay → (old new : Node) (batch : Batch) (to_record : List Answer) → ComesTo old.files old.table batch new.files to_record (answers_in old batch)
    → with_files new None ≡ with_files old None → length (recorded_all new.table to_record) ≡ length new.table
clients_same stay old new batch to_record comes others =
    subst (λ (table : Table). length (recorded_all table to_record) ≡ length table) (sym (ap (λ (n : Node). n.table) others)) (clients_stay stay old batch new.files to_record comes)

pub finish-requires-clause-clients : goal.finish-requires-clause-clients
finish-requires-clause-clients g c =
    clients_same c.answers_go_to_clients.ensures.table c.args.self.now c.execute_batch.new.self c.deref.result.now c.in-Ok-execute_batch.finished.to_record.items c.in-Ok-execute_batch.ensures.done c.in-Ok-execute_batch.ensures.others
