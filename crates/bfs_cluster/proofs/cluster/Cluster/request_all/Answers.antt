use Rattle.std.proofs.Common.{sym, ◌∙◌}
use Rattle.std.proofs.lemmas.Result.{on_ok_weaker}
use Rattle.bfs_cluster.proofs.Requesting.{come, has_requests, none_come, none_is_there}
use Rattle.bfs_cluster.proofs.Wanting.{whatever}
use Rattle.bfs_cluster.proofs.cluster.Cluster.request_all.Goals as goal
use Rattle.bfs_cluster.proofs.cluster.Cluster.request_all.Goals.{then-is_empty-via-then-is_empty, then-is_empty-via-else-is_empty+then-not-is_any_heard}

pub returns-then-is_empty-clause-ok : goal.returns-then-is_empty-clause-ok
returns-then-is_empty-clause-ok g c =
    elim c.then-is_empty.branch [
      | then-is_empty-via-then-is_empty w ↦ none_is_there c.args.messages.now c.args.self.now (sym c.is_empty.ensures ∙ w.if-is_empty.true)
      | then-is_empty-via-else-is_empty+then-not-is_any_heard w ↦
          sym (none_come c.args.self.now (sym w.is_any_heard.ensures ∙ w.if-not-is_any_heard.true) c.args.messages.now)
    ]

pub returns-then-are_requests-clause-ok : goal.returns-then-are_requests-clause-ok
returns-then-are_requests-clause-ok g c = on_ok_weaker c.take_requests_each.result
    (λ is. is ∙ sym (come c.args.messages.now (sym c.are_requests.ensures ∙ c.if-are_requests.true) c.args.self.now)) c.take_requests_each.ensures

pub returns-then-are_requests-clause-memory : goal.returns-then-are_requests-clause-memory
returns-then-are_requests-clause-memory g c = whatever c.take_requests_each.result _
    (has_requests c.args.messages.now c.args.self.now (sym c.is_empty.ensures ∙ c.if-is_empty.false) (sym c.is_any_heard.ensures ∙ c.if-not-is_any_heard.false))

pub returns-else-are_requests-clause-memory : goal.returns-else-are_requests-clause-memory
returns-else-are_requests-clause-memory g c = whatever c.request_each.result _
    (has_requests c.args.messages.now c.args.self.now (sym c.is_empty.ensures ∙ c.if-is_empty.false) (sym c.is_any_heard.ensures ∙ c.if-not-is_any_heard.false))
