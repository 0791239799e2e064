-- What the crates above may cite.
pub use Rattle.bfs_codec.proofs.AuthExact.{digest_exact}
pub use Rattle.bfs_codec.proofs.PartsExact.{number_exact}
pub use Rattle.bfs_codec.proofs.Whole.{spelled, text_spells}
