use Rattle.bfs_digest.specs.Text.{oldest_version}
use Rattle.bfs_digest.proofs.Restoring.{one_file_system}
use Rattle.bfs_digest.proofs.laws.a_text_spells_one_file_system.Goals as goal

pub returns : goal.returns
returns c = one_file_system oldest_version oldest_version
