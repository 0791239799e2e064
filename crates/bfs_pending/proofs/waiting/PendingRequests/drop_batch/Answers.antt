-- Where all have the names of those in the batch, none stays.
use Rattle.std.proofs.Common.{◌∙◌, ap, refl, sym, List}
use Rattle.std.specs.Prelude.{filter, not}
use Rattle.std.specs.List.{list_any}
use Rattle.bfs_messages.specs.Messages.{Request}
use Rattle.bfs_messages.specs.declared.signed.Signed.{Signed}
use Rattle.bfs_pending.specs.Requests.{is_same, without}
use Rattle.bfs_pending.proofs.Lasts.{all_leave}
use Rattle.bfs_pending.proofs.waiting.PendingRequests.drop_batch.Goals as goal

pub returns-then-are_named_alike-clause-now : goal.returns-then-are_named_alike-clause-now
returns-then-are_named_alike-clause-now c =
    let requests = c.requests-requests.result.now in
    c.clear.ensures
    ∙ sym (ap (λ (waiting : List (Signed Request)). without waiting c.args.batch.now) (sym c.self.view_is ∙ sym c.as_slice.ensures.value)
    ∙ ap (λ (given : List (Signed Request)). filter (λ one. not (list_any (is_same one) given)) c.as_slice.result.now) (sym c.requests-requests.ensures.value)
    ∙ all_leave requests c.as_slice.result.now (c.if-are_named_alike.ensures refl))
