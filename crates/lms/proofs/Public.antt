-- What the crates above cite.
pub use Rattle.lms.proofs.Paths.{even_sibling, odd_sibling}
pub use Rattle.lms.proofs.SignedLevels.{hss_signed_verifies}
pub use Rattle.lms.proofs.Standing.{behind, hash_at-joined, joined_long, word_here}
pub use Rattle.lms.proofs.Steps.{halved, joined_more, joined_none}
