-- Lemmas of replica.
pub mod Documents
