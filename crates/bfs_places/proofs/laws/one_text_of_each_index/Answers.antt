use Rattle.bfs_places.proofs.Theorem.{one_text_of_each_index}
use Rattle.bfs_places.proofs.laws.one_text_of_each_index.Goals as goal

pub returns : goal.returns
returns c = one_text_of_each_index c.one_text_of_each_place.ensures c.an_index_is_of_one_place.ensures.one
