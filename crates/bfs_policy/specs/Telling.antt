-- When a replica tells the others where it stands. Times are in microseconds.
use Rattle.std.specs.Prelude.{ℕ, Bool, Some, None, if◌then◌else◌}
use Rattle.bfs_policy.specs.Standings.{stand_alike}
use Rattle.bfs_policy.specs.Times.{is_past}
use Rattle.bfs_policy.specs.Timers.{nowhere}
use Rattle.bfs_policy.specs.declared.facts.Standing.{Standing}
use Rattle.bfs_policy.specs.declared.telling.Telling.{Telling}

-- the least time between two times, where it has moved, and where it hasn't
abbrev pub moved_time : ℕ
moved_time = 100000

abbrev pub still_time : ℕ
still_time = 1000000

abbrev pub nothing_told : Telling
nothing_told = record { told = nowhere; at = None }

abbrev pub is_telling_due : (own : Standing) → (now : ℕ) → Telling → Bool
is_telling_due own now telling = is_past telling.at (if stand_alike telling.told own then still_time else moved_time) now

abbrev pub telling_after : (own : Standing) → (now : ℕ) → Telling → Telling
telling_after own now telling = if is_telling_due own now telling then record { told = own; at = Some now } else telling
