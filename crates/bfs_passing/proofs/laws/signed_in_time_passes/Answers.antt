use Rattle.bfs_passing.proofs.InTime.{signed_in_time_passes}
use Rattle.bfs_passing.proofs.laws.signed_in_time_passes.Goals as goal

pub returns : goal.returns
returns c = signed_in_time_passes c.what_a_key_signs_passes.ensures.signed c.what_a_key_signs_passes.ensures.passes c.an_index_is_of_one_place.ensures.within
