use Rattle.std.proofs.Common.{◌≡◌, ◌-◌, length}
use Rattle.std.specs.Option.{option_map}
use Rattle.bfs_steps.proofs.Making.{left_by}
use Rattle.bfs_steps.specs.Reading.{steps_from}
use Rattle.bfs_steps.specs.Replaying.{after_steps}
use Rattle.bfs_steps.proofs.replaying.replay.Given as goal

abbrev pub invariant-loop-step : goal.invariant-loop-step
invariant-loop-step g l = left_by l.node (length l.body - l._step) l.reader ≡ option_map (after_steps l.fn.node) (steps_from l.body)
