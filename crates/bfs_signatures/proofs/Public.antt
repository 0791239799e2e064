-- What the crates above cite.
pub use Rattle.bfs_signatures.proofs.Signed.{signed_texts_verify}
