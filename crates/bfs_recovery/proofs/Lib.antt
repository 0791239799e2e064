-- What proofs share.
pub mod Bodies
pub mod Holders
pub mod Holding
pub mod Journals
pub mod Lives
mod Saying
