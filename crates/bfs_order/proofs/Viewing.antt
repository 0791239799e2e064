-- No message of a log is of a later view than the one entered.
use Rattle.std.proofs.Common.{◌≡◌, ℕ, ◌<◌, ◌≤◌, List, [], arith}
use Rattle.std.specs.Prelude.{All}
use Rattle.std.proofs.lemmas.List.Elements.{All-nil, All-weaker}
use Rattle.bfs_votes.specs.Votes.{Header}
use Rattle.bfs_log.specs.Headers.{header, message_header}
use Rattle.bfs_log.specs.Logs.{Log, headers, stays, kept_after}
use Rattle.bfs_messages.specs.declared.signed.Signed.{Signed}
use Rattle.bfs_messages.specs.declared.order_messages.OrderMessage.{OrderMessage}
use Rattle.bfs_messages.specs.declared.order_messages.OrderMessage.TheVariants.{PrePrepare, Prepare, Commit, Checkpoint}
use Rattle.bfs_log.specs.Certificates.{checkpoints_in}
use Rattle.bfs_order.specs.Laws.Calls.{IsKept, IsAlways}
use Rattle.bfs_order.specs.Laws.Logs.{HasNoLaterView}
use Rattle.bfs_order.proofs.Moving.{Fact, Moves, CanTake, call_goes}
use Rattle.bfs_log.proofs.Public.{IsVoucher, no_view, vouched}
use Rattle.bfs_order.proofs.Putting.{each_keeps}
use Rattle.bfs_order.proofs.KeptLogs.{Anything, fits_anything, always, all_more, all_kept}

abbrev IsNoLater : (view : ℕ) → Header → Type 0
IsNoLater view h = h.view ≤ view

abbrev Views : Fact
Views f me view low log sent = All (IsNoLater view) (headers log)

-- a CHECKPOINT has no view
can_no_later : (f view low : ℕ) (log : Log) (m : Signed OrderMessage) → CanTake f view low log m → (header m).view ≤ view
can_no_later f view low log m can = go m.message can.of_view
  where
    go : (k : OrderMessage) → ((message_header k).tag < 5 → (message_header k).view ≡ view) → (message_header k).view ≤ view
    go (PrePrepare proposal) of_view = omega (arith, of_view (omega arith))
    go (Prepare vote) of_view = omega (arith, of_view (omega arith))
    go (Commit vote) of_view = omega (arith, of_view (omega arith))
    go (Checkpoint checkpoint) of_view = omega arith

left_no_later : (view n : ℕ) (d : List ℕ) (log : Log) → All (IsNoLater view) (headers log) → All (IsNoLater view) (headers (kept_after n d log))
left_no_later view n d log kept = all_kept (IsNoLater view) (IsNoLater view) (stays n d) (λ h stay is. is) log kept

views_move : Moves Anything Views
views_move = record {
  take = λ f me view low log sent m kept can good. all_more (IsNoLater view) log m kept (can_no_later f view low log m can);
  say = λ f me view low log sent m kept can own good. all_more (IsNoLater view) log m kept (can_no_later f view low log m can);
  settle = λ f me view low log sent n d kept above is. left_no_later view n d log kept;
  enter = λ f me view later low log sent kept above. All-weaker (IsNoLater view) (IsNoLater later) (λ h is. omega (arith, is, above)) (headers log) kept;
  install = λ keys f me view low log sent c kept above is good.
      each_keeps (λ l. All (IsNoLater view) (headers l)) (IsVoucher keys f c.number c.digest)
      (λ l m all is free. all_more (IsNoLater view) l m all (omega (arith, no_view m.message is.tag)))
      (kept_after c.number c.digest log) (checkpoints_in c) (vouched keys f c is).each (left_no_later view c.number c.digest log kept);
}

pub views_kept : IsKept HasNoLaterView
views_kept = (λ f me. All-nil (IsNoLater 0), λ s call kept. (call_goes Anything Views views_move s [] call kept (fits_anything s call)).kept)

pub views_always : IsAlways HasNoLaterView
views_always = always HasNoLaterView views_kept
