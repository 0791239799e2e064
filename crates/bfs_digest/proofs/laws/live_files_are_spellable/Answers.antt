use Rattle.bfs_digest.proofs.Live.{live_is_spellable}
use Rattle.bfs_digest.proofs.laws.live_files_are_spellable.Goals as goal

pub returns : goal.returns
returns c = live_is_spellable
