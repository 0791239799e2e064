-- Messages put into a log, each where its place is free.
use Rattle.std.proofs.Common.{◌≡◌, Bool, true, false, cond, [], ◌∷◌, ◌++◌, refl}
use Rattle.std.specs.Prelude.{All}
use Rattle.std.proofs.lemmas.List.Elements.{All-head, All-tail}
use Rattle.bfs_votes.specs.Votes.{is_taken}
use Rattle.bfs_log.specs.Headers.{header}
use Rattle.bfs_log.specs.Logs.{Log, headers}
use Rattle.bfs_messages.specs.declared.signed.Signed.{Signed}
use Rattle.bfs_messages.specs.declared.order_messages.OrderMessage.{OrderMessage}
use Rattle.bfs_order.specs.Replica.Installing.{with_new, with_each}

pub each_keeps : (Q : Log → Type 0) (R : Signed OrderMessage → Type 0) → ((log : Log) (m : Signed OrderMessage) → Q log → R m → is_taken (headers log) (header m) ≡ false → Q (log ++ m ∷ []))
    → (log ms : Log) → All R ms → Q log → Q (with_each log ms)
each_keeps Q R step log [] all kept = kept
each_keeps Q R step log (m ∷ ms) all kept = each_keeps Q R step (with_new log m) ms (All-tail R m ms all) (go (is_taken (headers log) (header m)) refl)
  where
    go : (b : Bool) → is_taken (headers log) (header m) ≡ b → Q (cond b log (log ++ m ∷ []))
    go true is = kept
    go false is = step log m kept (All-head R m ms all) is
