-- What the crates above may cite.
pub use Rattle.bfs_digest.proofs.Live.{live_is_spellable}
pub use Rattle.bfs_digest.proofs.Restoring.{one_file_system, spelled_has_no_other_version, spelled_latest, spells_latest}
