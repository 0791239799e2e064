use Rattle.std.proofs.Common.{◌≡◌, ◌++◌}
use Rattle.bfs_model.specs.Server.WellFormed.{NamesDiffer}
use Rattle.bfs_inode.proofs.directories.Directory.from_entries.Given as goal

-- the directory has the entries before those that are left
abbrev pub invariant-loop-entry : goal.invariant-loop-entry
invariant-loop-entry l = record {
  can : (goal.iterator-loop-entry).can_next l.entry-iterator;
  finite : (goal.iterator-loop-entry).is_finite l.entry-iterator;
  parts : l.directory.entries ++ l.entry-iterator.rest.items ≡ l.fn.entries.items;
  parent : l.directory.parent ≡ l.fn.parent;
  differ : NamesDiffer l.directory.entries;
}
