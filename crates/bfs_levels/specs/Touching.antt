-- A call of the code as the model plans it.
use Rattle.std.specs.Prelude.{◌++◌}
use Rattle.bfs_model.specs.Server.Footprints.{ids_in}
use Rattle.bfs_footprint.specs.Seen.{footprint_seen}
use Rattle.bfs_levels.specs.Planning as model
use Rattle.bfs_footprint.specs.declared.requests.Touch.{Touch}

abbrev pub touch_seen : Touch → model.Touch
touch_seen touch = record { footprint = footprint_seen touch.footprint; resolved = ids_in touch.resolved.first ++ ids_in touch.resolved.second }
