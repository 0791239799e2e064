-- What proofs share.
pub mod Lists
pub mod Made
pub mod Chosen
pub mod Whole
pub mod Worlds
pub mod Proved
pub mod OfLog
pub mod Batches
