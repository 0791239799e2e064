use Rattle.bfs_digest.proofs.Live.{later_spellable}
use Rattle.bfs_digest.proofs.laws.older_texts_are_spellable.Goals as goal

pub returns : goal.returns
returns c = λ version files taken. later_spellable version files
