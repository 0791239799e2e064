use Rattle.std.proofs.Common.{◌≡◌, ◌-◌}
use Rattle.bfs_model.specs.Bytes.Formats.{items_from}
use Rattle.bfs_model.proofs.Public.{with_front}
use Rattle.bfs_saving.specs.Saved.{state_from}
use Rattle.bfs_saving.proofs.saved.states_of.Given as goal

abbrev pub invariant-loop-state : goal.invariant-loop-state
invariant-loop-state l = with_front l.states.items (items_from state_from (l.count - l._state) l.reader) ≡ items_from state_from l.count l.fn.reader
