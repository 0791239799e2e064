use Rattle.bfs_inode.specs.Records.{entry_text}
use Rattle.bfs_digest.proofs.Pieces.{Fed}
use Rattle.bfs_digest.proofs.listings.put_entries.Given as goal

abbrev pub invariant-loop-entry : goal.invariant-loop-entry
invariant-loop-entry g l = Fed g.S.Sink.holds entry_text l.fn.out l.out l.entry-iterator l.directory.entries
