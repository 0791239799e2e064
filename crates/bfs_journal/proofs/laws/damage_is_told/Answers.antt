use Rattle.bfs_journal.proofs.Damage.{damage_is_told}
use Rattle.bfs_journal.proofs.laws.damage_is_told.Goals as goal

pub returns : goal.returns
returns c = damage_is_told
