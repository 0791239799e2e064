-- What the code makes of an accepted message is what the definition does.
use Rattle.std.proofs.Common.{◌≡◌, sym, ap, ◌∙◌}
use Rattle.bfs_auth.specs.Keys.{Keys}
use Rattle.bfs_log.specs.Headers.{header}
use Rattle.bfs_log.specs.Logs.{Log}
use Rattle.bfs_messages.specs.declared.signed.Signed.{Signed}
use Rattle.bfs_messages.specs.declared.order_messages.OrderMessage.{OrderMessage}
use Rattle.bfs_order.specs.Inside.Asking.{Asks, asked_answers, asked_settled}
use Rattle.bfs_order.specs.Replica.Accepting.{accepted, settled}
use Rattle.bfs_order.specs.Replica.States.{State, with_message, with_more}
use Rattle.bfs_order.specs.declared.asking.Asked.{Asked}

pub now_is : (keys : Keys) (s : State) (m : Signed OrderMessage) (asked : Asked) (t : State) → Asks asked (header m) → t ≡ with_more (with_message s m) (asked_answers keys (with_message s m) asked)
    → asked_settled t asked ≡ (accepted keys s m).now
now_is keys s m asked t asks e =
    sym (asks.settled t)
    ∙ ap (λ (u : State). settled u (header m)) (e ∙ ap (λ (more : Log). with_more (with_message s m) more) (sym (asks.answers keys (with_message s m))))
