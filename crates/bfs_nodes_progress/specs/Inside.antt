-- What the proofs take from the crates below.
pub mod Below
