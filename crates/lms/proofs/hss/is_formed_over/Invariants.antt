use Rattle.std.proofs.Common.{◌≡◌, ◌-◌, Some}
use Rattle.lms.specs.Levels.{is_formed_over}
use Rattle.lms.proofs.hss.is_formed_over.Given as goal

abbrev pub invariant-loop-level : goal.invariant-loop-level
invariant-loop-level l = is_formed_over l.below (Some l.fn.key) l.bytes ≡ is_formed_over (l.below - l._level) (Some l.key) l.rest
