use Rattle.bfs_digest.proofs.Counting.{EntriesCounted}
use Rattle.bfs_digest.proofs.names.Names.count_entries.Given as goal

abbrev pub invariant-loop-entry : goal.invariant-loop-entry
invariant-loop-entry l = EntriesCounted l.fn.self l.self l.entry-iterator l.directory.entries
