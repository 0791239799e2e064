-- An order executes the number that its next committed batch has.
use Rattle.std.proofs.Common.{◌≡◌, ℕ, ◌+◌, true, false, cond, Option, Some, None, refl, sym, ap, ◌∙◌}
use Rattle.bfs_votes.specs.Votes.{is_slot, primary, committed}
use Rattle.bfs_log.specs.Batches.{Committed}
use Rattle.bfs_log.specs.Headers.{message_header, header}
use Rattle.bfs_log.specs.Logs.{batch_in}
use Rattle.bfs_messages.specs.declared.signed.Signed.{Signed}
use Rattle.bfs_messages.specs.declared.order_messages.OrderMessage.{OrderMessage}
use Rattle.bfs_messages.specs.declared.order_messages.OrderMessage.TheVariants.{PrePrepare}
use Rattle.bfs_order.specs.Laws.Calls.{Executes, outcome, execution}
use Rattle.bfs_order.specs.Replica.Executing.{next_proposal, where_committed, batch_of, next_committed, next_order, executed}
use Rattle.bfs_order.specs.Replica.States.{State, known}
use Rattle.bfs_agreement.specs.Histories.{IsIn}
use Rattle.bfs_nodes_agree.proofs.Orders.Lists.{found}
use Rattle.bfs_nodes_agree.proofs.Orders.Telling.{slot_is}

number_in : (m : OrderMessage) (next : Committed) → batch_in m ≡ Some next → next.number ≡ (message_header m).number
number_in (PrePrepare proposal) next e = cc
number_in other next e = absurd cc

-- it stands in the log, and has the number after that last executed
pub next_found : (s : State) (m : Signed OrderMessage) → next_order s ≡ Some m → IsIn m s.log × ((header m).number ≡ s.last + 1)
next_found s m e = go (next_proposal s) refl e
  where
    go : (o : Option (Signed OrderMessage)) → next_proposal s ≡ o → where_committed s o ≡ Some m → IsIn m s.log × ((header m).number ≡ s.last + 1)
    go None is h = absurd cc
    go (Some x) is h = (elim (committed s.f s.me (known s) s.view (s.last + 1) (header x).digest) as (λ b. cond b (Some x) None ≡ Some m → IsIn m s.log × ((header m).number ≡ s.last + 1)) [
      | true ↦ λ f.
          let got = found (λ (y : Signed OrderMessage). is_slot 2 (primary s.f s.view) s.view (s.last + 1) (header y)) s.log m (is ∙ f) in
          (got.0, (slot_is 2 (primary s.f s.view) s.view (s.last + 1) (header m) got.1).number)
      | false ↦ λ f. absurd cc
    ]) h

pub next_follows : (s : State) (next : Committed) → next_committed s ≡ Some next → next.number ≡ s.last + 1
next_follows s next e = go (next_order s) refl e
  where
    go : (o : Option (Signed OrderMessage)) → next_order s ≡ o → batch_of o ≡ Some next → next.number ≡ s.last + 1
    go None is h = absurd cc
    go (Some m) is h = number_in m.message next h ∙ (next_found s m is).1

goes_on : (s : State) (o : Option (Signed OrderMessage)) (next : Committed) → batch_of o ≡ Some next → (execution s o).now ≡ (executed s (s.last + 1)).now
goes_on s None next h = absurd cc
goes_on s (Some m) next h = refl

pub next_executes : (s : State) (next : Committed) → next_committed s ≡ Some next → (outcome s Executes).now ≡ (executed s next.number).now
next_executes s next e = goes_on s (next_order s) next e ∙ ap (λ (n : ℕ). (executed s n).now) (sym (next_follows s next e))
