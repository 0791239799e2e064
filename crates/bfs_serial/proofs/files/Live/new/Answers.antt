-- The new file system is whole and live.
use Rattle.bfs_model.proofs.Public.{new_is_live, new_is_well_formed}
use Rattle.bfs_serial.proofs.files.Live.new.Goals as goal

pub invariant_of-result : goal.invariant_of-result
invariant_of-result c = (c.in_ok-new.ensures.whole, rw (c.in_ok-new.ensures.value, c.first.ensures, c.epoch.ensures) (new_is_live new_is_well_formed))
