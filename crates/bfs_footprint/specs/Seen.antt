-- Footprints of the code as those of the model.
use Rattle.bfs_model.specs.Server.Footprints as model
use Rattle.bfs_footprint.specs.declared.footprints.Footprint.{Footprint}
use Rattle.bfs_footprint.specs.declared.footprints.Footprint.TheVariants.{Known, Whole}

abbrev pub footprint_seen : Footprint → model.Footprint
footprint_seen (Known reads writes) = model.known reads writes
footprint_seen Whole = model.whole
