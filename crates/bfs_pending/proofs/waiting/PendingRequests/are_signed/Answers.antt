use Rattle.std.proofs.Common.{◌∙◌, sym, ap, List}
use Rattle.std.specs.List.{list_all}
use Rattle.bfs_auth.specs.declared.principals.Principal.{Principal}
use Rattle.bfs_messages.specs.Messages.{Request, requests_of}
use Rattle.bfs_messages.specs.declared.signed.Signed.{Signed}
use Rattle.bfs_pending.specs.Passed.{waits}
use Rattle.bfs_pending.proofs.Alike.{all_waiting_pass}
use Rattle.bfs_pending.proofs.waiting.PendingRequests.are_signed.Goals as goal

pub returns-then-all_wait : goal.returns-then-all_wait
returns-then-all_wait g c =
    let requests = requests_of c.args.batch.now in
    c.if-all_wait.true
    ∙ sym (all_waiting_pass c.args.keys.now c.args.self.now requests c.requires
    (ap (λ (me : Principal). list_all (waits me c.args.self.now) requests) (sym c.me.ensures)
    ∙ ap (λ (them : List (Signed Request)). list_all (waits c.me.result c.args.self.now) them) (sym c.requests-requests.ensures.value)
    ∙ sym c.all_wait.ensures ∙ c.if-all_wait.true))
