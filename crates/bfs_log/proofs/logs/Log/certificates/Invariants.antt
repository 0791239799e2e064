use Rattle.std.proofs.Common.{◌≡◌, ◌+◌, ◌≤◌, length}
use Rattle.std.specs.List.{filter_map, range_with_len}
use Rattle.bfs_log.specs.Showing.{certificate_for}
use Rattle.bfs_log.proofs.logs.Log.certificates.Given as goal

abbrev pub invariant-loop-place : goal.invariant-loop-place
invariant-loop-place l = (l.found.items ≡ filter_map (certificate_for l.f l.me l.self) (range_with_len (l.low + 1) l.place)) × (length l.found.items ≤ l.place)
