use Rattle.std.proofs.Common.{◌≡◌, take}
use Rattle.bfs_log.specs.Latest.{AreLatest}
use Rattle.bfs_log.proofs.logs.Log.all_latest.Given as goal

abbrev pub invariant-loop-signed : goal.invariant-loop-signed
invariant-loop-signed l = AreLatest l.f l.me l.low l.count l.self (take l.signed-index l.signed-items) l.latest.items × (l.signed-items ≡ l.self)
