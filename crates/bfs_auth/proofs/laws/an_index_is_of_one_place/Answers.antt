use Rattle.bfs_auth.proofs.Indexes.{of_the_key, one_place}
use Rattle.bfs_auth.proofs.laws.an_index_is_of_one_place.Goals as goal

pub returns : goal.returns
returns c = record { one = one_place; within = of_the_key }
