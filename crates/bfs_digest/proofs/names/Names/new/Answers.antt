-- An empty `BTreeMap` is the empty map.
use Rattle.bfs_tree.proofs.Public.{map_of-empty}
use Rattle.bfs_digest.proofs.names.Names.new.Goals as goal

pub returns : goal.returns
returns c = map_of-empty c.new.result c.new.ensures.empty
