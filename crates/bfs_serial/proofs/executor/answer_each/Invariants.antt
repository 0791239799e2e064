-- What the requests that are left give is what all of them give, after the replies so far.
use Rattle.std.proofs.Common.{◌≡◌, ◌++◌, true, drop}
use Rattle.bfs_model.specs.Server.Serial.{inodes_after, replies_to}
use Rattle.bfs_model.specs.Server.WellFormed.{IsWellFormed}
use Rattle.bfs_serial.proofs.executor.answer_each.Given as goal

abbrev pub invariant-loop-request : goal.invariant-loop-request
invariant-loop-request g l =
    ((g.S.Store.reach l.store).whole ≡ true)
    × (g.S.Store.reach l.store ≡ g.S.Store.reach l.fn.store)
    × IsWellFormed (record { tree = g.S.Store.inodes l.store; next_ordinal = l.ordinal; last_time = l.time })
    × (inodes_after (g.S.Store.inodes l.store) l.ordinal l.time (drop l.request-index l.requests) ≡ inodes_after (g.S.Store.inodes l.fn.store) l.fn.first l.fn.time l.fn.requests)
    × (l.replies ++ replies_to (g.S.Store.inodes l.store) l.ordinal l.time (drop l.request-index l.requests) ≡ replies_to (g.S.Store.inodes l.fn.store) l.fn.first l.fn.time l.fn.requests)
