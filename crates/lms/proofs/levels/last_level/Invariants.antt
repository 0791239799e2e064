use Rattle.std.proofs.Common.{◌≤◌, ◌-◌, length, take}
use Rattle.lms.proofs.Upper.{Continue}
use Rattle.lms.proofs.levels.last_level.Given as goal

abbrev pub invariant-loop-level : goal.invariant-loop-level
invariant-loop-level l = record { within : l.place ≤ length l.bytes; so : Continue l.below (l.below - l._level) l.fn.key l.key (take l.place l.bytes) }
