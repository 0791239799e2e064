-- What every table keeps.
use Rattle.std.proofs.Common.{ℕ, ◌<◌, ◌≤◌, ◌^◌, List, length, Option, Some, None, replicate, arith}
use Rattle.std.proofs.lemmas.List.{length-replicate, length-set}
use Rattle.std.proofs.lemmas.List.Elements.{All-replicate, All-set}
use Rattle.bfs_model.specs.Server.Limits.{most_clients, most_reply_bytes}
use Rattle.bfs_model.specs.Server.Stored.{AreBytes}
use Rattle.bfs_replies.specs.Tables.{Last, Table, LastIsKept, IsKept, recorded}

pub none_kept : (count : ℕ) → count ≤ most_clients → IsKept (replicate count None)
none_kept count few = record { clients = omega (arith, length-replicate {A = Option Last} count None); lasts = All-replicate LastIsKept count None tt }

pub recorded_kept : (table : Table) (client timestamp : ℕ) (reply : List ℕ) → IsKept table → timestamp < 2 ^ 64 → AreBytes reply → length reply ≤ most_reply_bytes → IsKept (recorded table client timestamp reply)
recorded_kept table client timestamp reply kept small are short =
    let last : Option Last = Some (record { timestamp = timestamp; reply = reply }) in
    let few = kept.clients in
    record { clients = omega (arith, length-set table client last); lasts = All-set LastIsKept table client last (small, are, short) kept.lasts }
