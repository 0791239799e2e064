-- What a replica gives again stands in its log under its own name, and nothing of that is left out.
use Rattle.std.specs.Prelude.{◌≡◌, true}
use Rattle.std.specs.List.{Contains}
use Rattle.bfs_log.specs.Headers.{header}
use Rattle.bfs_messages.specs.declared.signed.Signed.{Signed}
use Rattle.bfs_messages.specs.declared.order_messages.OrderMessage.{OrderMessage}
use Rattle.bfs_order.specs.Laws.Logs.{HasDistinctSlots, IsWindowed}
use Rattle.bfs_order.specs.Replica.Resending.{is_resent, resent}
use Rattle.bfs_order.specs.Replica.States.{State}
use Rattle.bfs_order.specs.declared.resending.Lag.{Lag}

abbrev pub WhatIsResentIsOwn : Type 0
WhatIsResentIsOwn = (s : State) (to : Lag) (m : Signed OrderMessage) → Contains (resent s to) m → Contains s.log m × (is_resent s to (header m) ≡ true)

abbrev pub AllOfItIsResent : Type 0
AllOfItIsResent = (s : State) (to : Lag) (m : Signed OrderMessage) → HasDistinctSlots s → IsWindowed s → Contains s.log m → is_resent s to (header m) ≡ true
    → Contains (resent s to) m
