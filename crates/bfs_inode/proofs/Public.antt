-- What the crates above may cite.
pub use Rattle.bfs_inode.proofs.DirectoryLemmas.{none_further, other_name}
