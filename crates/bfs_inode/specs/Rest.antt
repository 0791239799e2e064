-- What is left to list of a directory.
use Rattle.std.specs.Prelude.{ℕ, List, [], ◌∷◌, drop}
use Rattle.bfs_model.specs.Server.Tree as model
use Rattle.bfs_model.specs.Server.Directories.{all_listed}
use Rattle.bfs_inode.specs.declared.directories.rest.Next.{Next}
use Rattle.bfs_inode.specs.declared.directories.rest.Next.TheVariants.{Dot, DotDot, Entry, End}

-- from the next one on, where those entries come behind it
abbrev pub listed_from : (id parent : ℕ) → Next → List model.Entry → List model.Entry
listed_from id parent Dot entries = all_listed id (record { parent = parent; entries = entries })
listed_from id parent DotDot entries = drop 1 (all_listed id (record { parent = parent; entries = entries }))
listed_from id parent (Entry entry) entries = entry.now ∷ entries
listed_from id parent End entries = []
